use Rattle.std.proofs.Common.{◌∙◌, ℕ, ◌<◌, List, [], ◌∷◌, ◌++◌, length, Option, Some, ap, arith, subst, sym}
use Rattle.call_steps.proofs.CallsDue.{off-image}
use Rattle.call_steps.specs.seat_steps.proofs.Ranks.{order-more, order-none}
use Rattle.turn_table.proofs.Numbered.{find_else}
use Rattle.turn_table.specs.{Numbered.value_of, Seat.{IsInOrder, cell_count}}
use Rattle.core_pages.specs.volap_cell.specs.declared.cell.Cell.{Cell}
use Rattle.whole_steps.proofs.Turned.{none-held, turned-on}
use Rattle.whole_steps.proofs.settles.take_listings.Goals as goal

pub take_turn-requires-clause-cell : goal.take_turn-requires-clause-cell
take_turn-requires-clause-cell g c = subst (λ (k : ℕ). k < cell_count c.args.table.now) (sym c.image_place.ensures) c.requires.image

pub take_turn-requires-clause-other : goal.take_turn-requires-clause-other
take_turn-requires-clause-other g c = ap (λ (l : List (ℕ × Cell)). value_of l c.image_place.result) (none-held c.requires.everyone c.requires.bare)

pub take_turn-requires-clause-room : goal.take_turn-requires-clause-room
take_turn-requires-clause-room g c = subst (λ (l : List (ℕ × Cell)). length l < 7) (sym (none-held c.requires.everyone c.requires.bare)) (omega arith)

pub take_turn-requires-clause-rank : goal.take_turn-requires-clause-rank
take_turn-requires-clause-rank g c = subst (λ (l : List (ℕ × Option ℕ)). IsInOrder l c.image_place.result 5) (sym c.requires.bare) (order-none c.image_place.result 5)

pub take_turn-requires-2-clause-cell : goal.take_turn-requires-2-clause-cell
take_turn-requires-2-clause-cell g c = subst (λ (k : ℕ). k < cell_count c.args.table.now) (sym c.registry_place.ensures) c.requires.registry

pub take_turn-requires-2-clause-other : goal.take_turn-requires-2-clause-other
take_turn-requires-2-clause-other g c =
    ap (λ (l : List (ℕ × Cell)). value_of l c.registry_place.result) (c.take_turn.ensures.took.held ∙ ap (λ (l : List (ℕ × Cell)). l ++ (c.image_place.result, c.take_turn.ensures.took.value) ∷ []) (none-held c.requires.everyone c.requires.bare))
    ∙ find_else [] c.image_place.result c.registry_place.result c.take_turn.ensures.took.value (off-image c.args.server c.registry_place.result c.image_place.result c.registry_place.ensures c.image_place.ensures)

pub take_turn-requires-2-clause-room : goal.take_turn-requires-2-clause-room
take_turn-requires-2-clause-room g c =
    subst (λ (l : List (ℕ × Cell)). length l < 7) (sym (c.take_turn.ensures.took.held ∙ ap (λ (l : List (ℕ × Cell)). l ++ (c.image_place.result, c.take_turn.ensures.took.value) ∷ []) (none-held c.requires.everyone c.requires.bare))) (omega arith)

pub take_turn-requires-2-clause-rank : goal.take_turn-requires-2-clause-rank
take_turn-requires-2-clause-rank g c =
    subst (λ (l : List (ℕ × Option ℕ)). IsInOrder l c.registry_place.result 6) (sym (c.take_turn.ensures.took.ranks ∙ ap (λ (l : List (ℕ × Option ℕ)). l ++ (c.image_place.result, Some 5) ∷ []) c.requires.bare))
    (order-more [] c.image_place.result 5 c.registry_place.result 6 (omega arith, λ e. absurd (omega (arith, e))) (order-none c.registry_place.result 6))

pub returns-clause-turned : goal.returns-clause-turned
returns-clause-turned g c = turned-on c.args.seat.now c.take_turn.new.seat c.take_turn-2.new.seat c.take_turn.ensures.took.turned c.take_turn-2.ensures.took.turned

pub returns-clause-ranks : goal.returns-clause-ranks
returns-clause-ranks g c =
    c.take_turn-2.ensures.took.ranks ∙ ap (λ (l : List (ℕ × Option ℕ)). l ++ (c.registry_place.result, Some 6) ∷ []) (c.take_turn.ensures.took.ranks ∙ ap (λ (l : List (ℕ × Option ℕ)). l ++ (c.image_place.result, Some 5) ∷ []) c.requires.bare)
    ∙ (λ k. (c.image_place.ensures k, Some 5) ∷ (c.registry_place.ensures k, Some 6) ∷ [])
