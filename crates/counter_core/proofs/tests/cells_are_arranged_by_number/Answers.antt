use Rattle.std.proofs.Common.{◌≡◌, ◌≢◌, ℕ, zero, suc, List, [], ◌∷◌, sym, refl, subst, arith}
use Rattle.std.specs.{List.AllPairs, Prelude.All}
use mathlib.Core.Option.{some}
use Rattle.turn_table.specs.{Held.AreNumbersOf, Numbered.value_of}
use Rattle.counter_core.proofs.tests.cells_are_arranged_by_number.Goals as goal

both : (P : ℕ → Type 0) (n k : ℕ) → P n → P k → All P (n ∷ k ∷ [])
both P n k p q zero d low = p
both P n k p q (suc zero) d low = q
both P n k p q (suc (suc i)) d low = absurd (omega (arith, low))

apart : (n k : ℕ) → n ≢ k → AllPairs (λ n k. n ≢ k) (n ∷ k ∷ [])
apart n k ne zero zero d less low = absurd (omega (arith, less))
apart n k ne zero (suc zero) d less low = ne
apart n k ne zero (suc (suc j)) d less low = absurd (omega (arith, low))
apart n k ne (suc i) zero d less low = absurd (omega (arith, less))
apart n k ne (suc i) (suc j) d less low = absurd (omega (arith, less, low))

pub arranged-cells-requires-clause-numbers : goal.arranged-cells-requires-clause-numbers
arranged-cells-requires-clause-numbers g c =
    subst (λ (l : List (ℕ × ℕ)). AreNumbersOf (2 ∷ 4 ∷ []) l) (sym c.of_two.ensures) record { count = refl; there = both (λ n. (c : ℕ) × (value_of ((4, 10) ∷ (2, 5) ∷ []) n ≡ some c)) 2 4 (5, refl) (10, refl); apart = apart 2 4 (λ e. omega (arith, e)) }
