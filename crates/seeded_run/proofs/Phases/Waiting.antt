-- How many commands the streams still have, as they begin.
use Rattle.std.proofs.Common.{◌≡◌, ◌≢◌, ◌∙◌, ℕ, zero, suc, ◌<◌, ◌≤◌, ◌⊎◌, inl, inr, Bool, true, false, List, [], ◌∷◌, length, drop, refl, sym, ap, subst, arith}
use Rattle.std.specs.Prelude.{if◌then◌else◌}
use Rattle.script_form.specs.declared.script.Command.{Command}
use Rattle.script_run.proofs.Begin.{begins-own}
use Rattle.script_run.specs.Places.{begins_in}
use Rattle.core_pages.specs.volap_cell.specs.{Setting.actor_count, Sums.sum_below}
use Rattle.seeded_run.proofs.Phases.Shrinks.{rest-law}
use Rattle.seeded_run.specs.{Ranks.WaitingLaw, Rests.rest_of}

below-or-at : (a n : ℕ) → a < suc n → (a < n) ⊎ (a ≡ n)
below-or-at a n h = grind arith

sum-no-more : (n : ℕ) (f g : ℕ → ℕ) → ((a : ℕ) → g a ≤ f a) → sum_below n g ≤ sum_below n f
sum-no-more zero f g each = omega arith
sum-no-more (suc n) f g each = let here = each n in let more = sum-no-more n f g each in omega arith

sum-less : (n : ℕ) (f g : ℕ → ℕ) (a : ℕ) → ((b : ℕ) → g b ≤ f b) → a < n → g a < f a → sum_below n g < sum_below n f
sum-less zero f g a each low less = absurd (omega arith)
sum-less (suc n) f g a each low less =
    let here = each n in
    elim (below-or-at a n low) [
      | inl below ↦ let more = sum-less n f g a each below less in omega arith
      | inr at ↦ let more = sum-no-more n f g each in let last : g n < f n = subst (λ k. g k < f k) at less in omega arith
    ]

drop-few : (xs : List Command) → length (drop 1 xs) ≤ length xs
drop-few [] = omega arith
drop-few (x ∷ xs) = omega arith

drop-fewer : (xs : List Command) → xs ≢ [] → length (drop 1 xs) < length xs
drop-fewer [] some = absurd (some refl)
drop-fewer (x ∷ xs) some = omega arith

few-by : (b : Bool) (xs : List Command) → length (if b then drop 1 xs else xs) ≤ length xs
few-by true xs = drop-few xs
few-by false xs = omega arith

pub waiting-law : WaitingLaw
waiting-law s p e history few =
    let each : (a : ℕ) → length (rest_of p (e ∷ history) a) ≤ length (rest_of p history a) =
    λ a. subst (λ cs. length cs ≤ length (rest_of p history a)) (sym (rest-law p e history a (few a))) (few-by (begins_in a e) (rest_of p history a)) in (
      sum-no-more (actor_count s) (λ a. length (rest_of p history a)) (λ a. length (rest_of p (e ∷ history) a)) each,
      λ a session low some.
          let begins = begins-own a e session in
          let shorter : rest_of p (e ∷ history) a ≡ drop 1 (rest_of p history a) =
          rest-law p e history a (few a) ∙ ap (λ b. if b then drop 1 (rest_of p history a) else rest_of p history a) begins in
          sum-less (actor_count s) (λ b. length (rest_of p history b)) (λ b. length (rest_of p (e ∷ history) b)) a each low
          (subst (λ cs. length cs < length (rest_of p history a)) (sym shorter) (drop-fewer (rest_of p history a) some)),
    )
