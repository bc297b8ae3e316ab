-- In which order ranks may be told.
use Rattle.std.proofs.Common.{◌≡◌, ◌≢◌, ◌∙◌, ℕ, ◌<◌, ◌≤◌, List, [], ◌∷◌, Option, Some, ap, sym, subst}
use mathlib.Core.Logic.{dite}
use mathlib.Core.Option.{some, some-injective, some-ne-none}
use native.Mathlib.Decide.{ℕ_discrete}
use Rattle.turn_table.specs.{Numbered.value_of, Seat.{IsInOrder, free_rank}}
use Rattle.turn_table.proofs.Numbered.{find_else, find_here}

-- the first cell may have any rank
pub order-none : (cell rank : ℕ) → IsInOrder [] cell rank
order-none cell rank k r e = absurd (some-ne-none (Some r) (sym e))

-- one that may come behind the others and behind this one may come behind all of them
pub order-more : (ranks : List (ℕ × Option ℕ)) (at low cell rank : ℕ) → (low ≤ rank) × (low ≡ rank → rank ≢ free_rank → at < cell) → IsInOrder ranks cell rank → IsInOrder ((at, Some low) ∷ ranks) cell rank
order-more ranks at low cell rank here rest k r e = dite (ℕ_discrete at k)
    (λ (same : at ≡ k).
    let found : some (Some low) ≡ some (Some r) = sym (find_here ranks at (Some low)) ∙ ap (value_of ((at, Some low) ∷ ranks)) same ∙ e in
    let told : low ≡ r = inner low r (some-injective (Some low) (Some r) found) in
    subst (λ (m : ℕ × ℕ). (m.1 ≤ rank) × (m.1 ≡ rank → rank ≢ free_rank → m.0 < cell)) (λ j. (same j, told j)) here)
    (λ (ne : at ≢ k). rest k r (sym (find_else ranks at k (Some low) ne) ∙ e))
  where
    inner : (q r : ℕ) → Some q ≡ Some r → q ≡ r
    inner q r e = cc
