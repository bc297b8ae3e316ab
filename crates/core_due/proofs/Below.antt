-- Tests of the numbers below one.
use Rattle.std.proofs.{Common.{◌≡◌, ◌∙◌, ℕ, zero, suc, ◌+◌, ◌<◌, ◌⊎◌, inl, inr, Bool, true, false, sym, ap, subst, arith}, lemmas.Bool.and_parts}
use Rattle.std.specs.Prelude.{◌||◌}
use Rattle.core_due.specs.Due.{all_below, any_below}

below-or-at : (a n : ℕ) → a < suc n → (a < n) ⊎ (a ≡ n)
below-or-at a n h = grind arith

-- what passes for all numbers below one passes for each
pub all_below-at : (n : ℕ) (test : ℕ → Bool) (a : ℕ) → all_below n test ≡ true → a < n → test a ≡ true
all_below-at zero test a all low = absurd (omega arith)
all_below-at (suc n) test a all low =
    let both = and_parts (test n) (all_below n test) all in
    elim (below-or-at a n low) [
      | inl below ↦ all_below-at n test a both.1 below
      | inr at ↦ ap test at ∙ both.0
    ]

-- none passes, nor does the next one
pub any-next : (n : ℕ) (test : ℕ → Bool) → any_below n test ≡ false → test n ≡ false → any_below (n + 1) test ≡ false
any-next n test none is =
    let next : n + 1 ≡ suc n = omega arith in
    subst (λ m. any_below m test ≡ false) (sym next) (ap (λ b. b || any_below n test) is ∙ none)
