use Rattle.std.proofs.Common.{◌∙◌, ℕ, ◌<◌, List, [], ◌∷◌, ◌++◌, length, Option, Some, ap, arith, subst, sym}
use Rattle.call_steps.proofs.CallsDue.{off-image, registry-within}
use Rattle.session_steps.specs.seat_steps.proofs.{Ranks.{order-more, order-none}, Since.{unchanged, unchanged-on}, WithLedger.{held-below, one-below}}
use Rattle.turn_table.proofs.Numbered.{find_else, none_same}
use Rattle.turn_table.specs.{Numbered.value_of, Seat.{IsInOrder, cell_count}}
use Rattle.call_steps.proofs.pulls.take_listings.Goals as goal

pub take_first-requires-clause-cell : goal.take_first-requires-clause-cell
take_first-requires-clause-cell g c = subst (λ (k : ℕ). k < cell_count c.args.floor.now.table) (sym c.image_place.ensures) c.requires.within

pub take-requires-clause-cell : goal.take-requires-clause-cell
take-requires-clause-cell g c = registry-within c.args.floor.now c.take_first.new.player c.take_first.ensures.seated c.registry_place.result c.registry_place.ensures

pub take-requires-clause-other : goal.take-requires-clause-other
take-requires-clause-other g c =
    let seat = c.take_first.new.player.seat in
    let k = c.registry_place.result in
    none_same seat.ranks seat.view.held k (sym c.take_first.ensures.seated.holds.rows)
    (ap (λ (l : List (ℕ × Option ℕ)). value_of l k) c.take_first.ensures.ranks ∙ find_else [] c.image_place.result k (Some 5) (off-image c.args.server k c.image_place.result c.registry_place.ensures c.image_place.ensures))

pub take-requires-clause-rank : goal.take-requires-clause-rank
take-requires-clause-rank g c =
    subst (λ (l : List (ℕ × Option ℕ)). IsInOrder l c.registry_place.result 6) (sym c.take_first.ensures.ranks)
    (order-more [] c.image_place.result 5 c.registry_place.result 6 (omega arith, λ e. absurd (omega (arith, e))) (order-none c.registry_place.result 6))

pub take-requires-clause-room : goal.take-requires-clause-room
take-requires-clause-room g c = held-below c.args.floor.now c.take_first.new.player c.take_first.ensures.seated 7 (subst (λ (l : List (ℕ × Option ℕ)). length l < 7) (sym c.take_first.ensures.ranks) one-below)

pub returns-clause-same : goal.returns-clause-same
returns-clause-same g c = unchanged-on (unchanged c.take_first.ensures.took.same) (unchanged c.take.ensures.took.same)

pub returns-clause-ranks : goal.returns-clause-ranks
returns-clause-ranks g c =
    c.take.ensures.took.ranks ∙ ap (λ (l : List (ℕ × Option ℕ)). l ++ (c.registry_place.result, Some 6) ∷ []) c.take_first.ensures.ranks ∙ (λ k. (c.image_place.ensures k, Some 5) ∷ (c.registry_place.ensures k, Some 6) ∷ [])
