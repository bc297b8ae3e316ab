use Rattle.std.proofs.Common.{◌∙◌, ◌∷◌, [], sym, refl}
use Rattle.volap_turns.proofs.Ordered.{as-many, made-of, over-held, two-named}
use Rattle.volap_turns.proofs.over.over_two.Goals as goal

pub over_two_in_order-requires-clause-named : goal.over_two_in_order-requires-clause-named
over_two_in_order-requires-clause-named g c =
    let in_order = c.are_two_in_order.ensures c.if-are_two_in_order.true in
    two-named (g.S.CellStep.places c.args.what) c.args.cells.0.0 in_order.0 (c.args.cells.0 ∷ c.args.cells.1 ∷ []) c.args.cells.0 c.args.cells.1 (sym c.places.ensures ∙ in_order.1) c.requires.at refl refl

pub two-requires : goal.two-requires
two-requires g c =
    let over = over-held c.of_two.ensures c.over_many-made.ensures in
    as-many c.over_many-made.result.1 (c.args.cells.0 ∷ c.args.cells.1 ∷ []) over.numbers

pub returns : goal.returns
returns g c = made-of c.two.ensures (over-held c.of_two.ensures c.over_many-made.ensures)
