use Rattle.std.proofs.Common.{◌∙◌, ℕ, List, [], ◌∷◌, ◌++◌, Option, inl, refl, sym, ap}
use Rattle.seat_steps.specs.core_steps.specs.declared.trees.TreeStep.TheVariants.{GiveBack}
use Rattle.part_steps.proofs.{PartsMade.tree-first, PartsSure.{end-bare, give-back-sure, way-ends}}
use Rattle.part_steps.proofs.parts.finish.Goals as goal
use Rattle.turn_table.specs.Numbered.{numbers_of}
use Rattle.seat_steps.specs.volap_cell.specs.declared.errand.Way.TheVariants.{Placed}

pub end_part-requires-clause-ends : goal.end_part-requires-clause-ends
end_part-requires-clause-ends g c = way-ends Placed c.requires.placed (inl refl)

pub take_for_tree-requires-clause-can : goal.take_for_tree-requires-clause-can
take_for_tree-requires-clause-can g c =
    let f = c.args.floor.now in
    let p = c.args.player.now in
    let sure = give-back-sure f p c.requires.placed (sym c.is_spent.ensures ∙ c.if-is_spent.false) in
    tree-first f p c.requires.stands.seated GiveBack sure c.stock_place.result 7 [] (c.requires.stands.bare ∙ end-bare (way-ends Placed c.requires.placed (inl refl))) (ap (λ (y : ℕ). y ∷ []) (sym c.stock_place.ensures))

pub take_for_tree-requires-clause-last : goal.take_for_tree-requires-clause-last
take_for_tree-requires-clause-last g c =
    let bare = c.requires.stands.bare ∙ end-bare (way-ends Placed c.requires.placed (inl refl)) in
    ap (λ (y : ℕ). y ∷ []) (sym c.stock_place.ensures) ∙ ap (λ (l : List (ℕ × Option ℕ)). numbers_of l ++ c.stock_place.result ∷ []) (sym bare)

pub take_for_tree-requires-clause-row : goal.take_for_tree-requires-clause-row
take_for_tree-requires-clause-row g c = (c.requires.placed.e, c.requires.placed.r, c.requires.placed.has)

pub take_for_tree-requires-clause-ready : goal.take_for_tree-requires-clause-ready
take_for_tree-requires-clause-ready g c = give-back-sure c.args.floor.now c.args.player.now c.requires.placed (sym c.is_spent.ensures ∙ c.if-is_spent.false)
