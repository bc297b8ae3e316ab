use Rattle.std.proofs.Common.{◌∙◌, ℕ, true, false, List, [], ◌∷◌, ◌++◌, Option, Some, inr, refl, sym, ap}
use Rattle.seat_steps.specs.core_steps.specs.declared.trees.TreeStep.TheVariants.{Refill}
use Rattle.part_steps.proofs.{PartsMade.tree-first, PartsSure.{before-known, before-unknown, end-bare, refill-sure, way-ends}}
use Rattle.part_steps.proofs.parts.go_on_before.Goals as goal
use Rattle.turn_table.specs.Numbered.{numbers_of}
use Rattle.seat_steps.specs.volap_cell.specs.declared.errand.Way.TheVariants.{Before}

pub go_by_table-requires-clause-due : goal.go_by_table-requires-clause-due
go_by_table-requires-clause-due g c = before-unknown c.args.height c.args.filled c.is_none.result c.is_none.ensures c.if-is_none.true c.requires.before

pub go_by_table-requires-then-filled-clause-due : goal.go_by_table-requires-then-filled-clause-due
go_by_table-requires-then-filled-clause-due g c = before-known c.args.height c.args.filled true c.is_none.result c.is_none.ensures c.if-is_none.false c.if-filled.true c.requires.before

pub take_for_tree-requires-clause-can : goal.take_for_tree-requires-clause-can
take_for_tree-requires-clause-can g c =
    let f = c.args.floor.now in
    let p = c.args.player.now in
    let on = before-known c.args.height c.args.filled false c.is_none.result c.is_none.ensures c.if-is_none.false c.if-filled.false c.requires.before in
    tree-first f p c.requires.stands.seated Refill (refill-sure f p on.0 on.1) c.stock_place.result 7 [] (c.requires.stands.bare ∙ end-bare (way-ends (Before (Some on.0) false) on.1 (inr refl))) (ap (λ (y : ℕ). y ∷ []) (sym c.stock_place.ensures))

pub take_for_tree-requires-clause-last : goal.take_for_tree-requires-clause-last
take_for_tree-requires-clause-last g c =
    let bare = c.requires.stands.bare ∙ end-bare (way-ends (Before c.args.height c.args.filled) c.requires.before (inr refl)) in
    ap (λ (y : ℕ). y ∷ []) (sym c.stock_place.ensures) ∙ ap (λ (l : List (ℕ × Option ℕ)). numbers_of l ++ c.stock_place.result ∷ []) (sym bare)

pub take_for_tree-requires-clause-ready : goal.take_for_tree-requires-clause-ready
take_for_tree-requires-clause-ready g c =
    let on = before-known c.args.height c.args.filled false c.is_none.result c.is_none.ensures c.if-is_none.false c.if-filled.false c.requires.before in refill-sure c.args.floor.now c.args.player.now on.0 on.1

pub take_for_tree-requires-clause-ends : goal.take_for_tree-requires-clause-ends
take_for_tree-requires-clause-ends g c = λ fails. way-ends (Before c.args.height c.args.filled) c.requires.before (inr refl)

pub take_for_tree-requires-clause-row : goal.take_for_tree-requires-clause-row
take_for_tree-requires-clause-row g c = (c.requires.before.e, c.requires.before.r, c.requires.before.has)
