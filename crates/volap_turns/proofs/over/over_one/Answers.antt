use Rattle.std.proofs.Common.{◌∷◌, [], refl}
use Rattle.volap_turns.proofs.Ordered.{one-placed}
use Rattle.volap_turns.proofs.over.over_one.Goals as goal

pub over_one_named-requires-clause-named : goal.over_one_named-requires-clause-named
over_one_named-requires-clause-named g c = one-placed (g.S.CellStep.places c.args.what) c.requires.named.0 (c.args.cells ∷ []) c.args.cells c.requires.named.1 c.requires.at refl
