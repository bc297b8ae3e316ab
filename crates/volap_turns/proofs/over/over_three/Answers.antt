use Rattle.std.proofs.Common.{◌∙◌, ◌∷◌, [], sym}
use Rattle.volap_turns.proofs.Ordered.{as-many, made-of, over-held, three-named}
use Rattle.volap_turns.proofs.over.over_three.Goals as goal

pub over_three_in_order-requires-clause-named : goal.over_three_in_order-requires-clause-named
over_three_in_order-requires-clause-named g c =
    let in_order = c.are_three_in_order.ensures c.if-are_three_in_order.true in
    three-named (g.S.CellStep.places c.args.what) c.args.cells.0 c.args.cells.1 c.args.cells.2 in_order.0 (sym c.places.ensures ∙ in_order.1) c.requires.at

pub three-requires : goal.three-requires
three-requires g c =
    let over = over-held c.of_three.ensures c.over_many-made.ensures in
    as-many c.over_many-made.result.1 (c.args.cells.0 ∷ c.args.cells.1 ∷ c.args.cells.2 ∷ []) over.numbers

pub returns : goal.returns
returns g c = made-of c.three.ensures (over-held c.of_three.ensures c.over_many-made.ensures)
