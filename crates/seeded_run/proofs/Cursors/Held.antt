-- What the cursors of a phase tell: the next command of each stream, and how many streams aren't at their ends.
use Rattle.std.proofs.{Common.{◌≡◌, ◌∙◌, ◌+◌, ◌<◌, ◌≤◌, ℕ, zero, suc, Bool, true, false, List, [], ◌∷◌, length, get_or, Option, Some, None, refl, sym, ap, arith, nat_lt, cond}, lemmas.List.Recursion.is_count_by}
use Rattle.std.specs.Prelude.{count_by, slice_get, if◌then◌else◌}
use Rattle.script_form.specs.declared.script.Command.{Command}
use Rattle.core_pages.specs.volap_cell.specs.{Setting.actor_count, Steps.history_in, Sums.sum_below}
use Rattle.core_pages.specs.volap_cell.proofs.Sums.{sum-same}
use Rattle.core_due.specs.Due.{is_empty}
use Rattle.seeded_run.specs.{Look.{IsTold, streams_left}, Machine.{IsPhaseKept, about_in, next_at, phase_of, world_of}, Rests.{PhaseRun, rest_of}, declared.machine.Running.Running}
use Rattle.seeded_run.proofs.Cursors.Cursors.{first-law, last-law}

-- a sum from the first item on
sum-first : (n : ℕ) (f : ℕ → ℕ) → sum_below (suc n) f ≡ f 0 + sum_below n (λ a. f (suc a))
sum-first zero f = omega arith
sum-first (suc n) f = let more = sum-first n f in omega (arith, more)

-- items are counted one by one
count-sum : (test : ℕ → Bool) (d : ℕ) (xs : List ℕ) → sum_below (length xs) (λ a. if test (get_or xs a d) then 1 else 0) ≡ count_by test xs
count-sum test d xs = is_count_by (λ ys. sum_below (length ys) (λ a. if test (get_or ys a d) then 1 else 0)) test refl
    (λ y ys. sum-first (length ys) (λ a. if test (get_or (y ∷ ys) a d) then 1 else 0) ∙ more (test y) (sum_below (length ys) (λ a. if test (get_or ys a d) then 1 else 0))) xs
  where
    more : (b : Bool) (k : ℕ) → (if b then 1 else 0) + k ≡ cond b (1 + k) k
    more true k = refl
    more false k = omega arith

pub none-past : {A : Type 0} (xs : List A) (i : ℕ) → slice_get xs i ≡ None → length xs ≤ i
none-past [] i e = omega arith
none-past (x ∷ xs) zero e = cc
none-past (x ∷ xs) (suc i) e = let more = none-past xs i e in omega (arith, more)

pub some-within : {A : Type 0} (xs : List A) (i : ℕ) (x : A) → slice_get xs i ≡ Some x → i < length xs
some-within [] i x e = cc
some-within (y ∷ xs) zero x e = omega arith
some-within (y ∷ xs) (suc i) x e = let more = some-within xs i x e in omega (arith, more)

lt-true : (a b : ℕ) → a < b → nat_lt a b ≡ true
lt-true a b low = grind arith

lt-false : (a b : ℕ) → b ≤ a → nat_lt a b ≡ false
lt-false a b high = grind arith

module _ (m : Running) (kept : IsPhaseKept m) where
  abbrev p : PhaseRun
  p = phase_of m

  -- a stream whose next command is this one begins with it
  pub rest-some : (n : ℕ) (c : Command) → slice_get m.phase.now (next_at m n) ≡ Some c → (more : List Command) × (rest_of (phase_of m) (history_in (world_of m)) n ≡ c ∷ more)
  rest-some n c at = (_, first-law p (history_in (world_of m)) (next_at m) kept.is_running.cursors n c at (kept.is_running.own n c at))

  -- and one that has none is at its end
  pub rest-none : (n : ℕ) → length m.phase.now ≤ next_at m n → rest_of (phase_of m) (history_in (world_of m)) n ≡ []
  rest-none n past = last-law p (history_in (world_of m)) (next_at m) kept.is_running.cursors n past

  next-is : (n : ℕ) → slice_get (rest_of (phase_of m) (history_in (world_of m)) n) 0 ≡ slice_get m.phase.now (next_at m n)
  next-is n = by (slice_get m.phase.now (next_at m n)) refl
    where
      by : (o : Option Command) → slice_get m.phase.now (next_at m n) ≡ o → slice_get (rest_of (phase_of m) (history_in (world_of m)) n) 0 ≡ slice_get m.phase.now (next_at m n)
      by (Some c) at = ap (λ l. slice_get l 0) (rest-some n c at).1 ∙ sym at
      by None at = ap (λ l. slice_get l 0) (rest-none n (none-past m.phase.now (next_at m n) at)) ∙ sym at

  -- who has a next command counts
  counts-one : (n : ℕ) → ◌≡◌ {A = ℕ} (if is_empty (rest_of (phase_of m) (history_in (world_of m)) n) then 0 else 1) (if nat_lt (next_at m n) (length m.phase.now) then 1 else 0)
  counts-one n = by (slice_get m.phase.now (next_at m n)) refl
    where
      by : (o : Option Command) → slice_get m.phase.now (next_at m n) ≡ o
          → ◌≡◌ {A = ℕ} (if is_empty (rest_of (phase_of m) (history_in (world_of m)) n) then 0 else 1) (if nat_lt (next_at m n) (length m.phase.now) then 1 else 0)
      by (Some c) at =
          ap {B = ℕ} (λ l. if is_empty l then 0 else 1) (rest-some n c at).1
          ∙ ap {B = ℕ} (λ b. if b then 1 else 0) (sym (lt-true (next_at m n) (length m.phase.now) (some-within m.phase.now (next_at m n) c at)))
      by None at =
          let past = none-past m.phase.now (next_at m n) at in
          ap {B = ℕ} (λ l. if is_empty l then 0 else 1) (rest-none n past) ∙ ap {B = ℕ} (λ b. if b then 1 else 0) (sym (lt-false (next_at m n) (length m.phase.now) past))

  streams : streams_left (about_in m) (rest_of (phase_of m) (history_in (world_of m))) ≡ m.left
  streams =
      sum-same (actor_count (about_in m)) (λ a. if nat_lt (next_at m a) (length m.phase.now) then 1 else 0) (λ a. if is_empty (rest_of (phase_of m) (history_in (world_of m)) a) then 0 else 1)
      (λ a low. counts-one a)
      ∙ ap (λ n. sum_below n (λ a. if nat_lt (next_at m a) (length m.phase.now) then 1 else 0)) (sym kept.core.count ∙ sym kept.count)
      ∙ count-sum (λ k. nat_lt k (length m.phase.now)) (length m.phase.now) m.next.items ∙ sym kept.left

  -- what an actor is told of the streams is so
  pub told : (n : ℕ) → IsTold (about_in m) (rest_of (phase_of m) (history_in (world_of m))) n (slice_get m.phase.now (next_at m n)) m.left
  told n = record { next_is = next-is n; left_is = streams }
