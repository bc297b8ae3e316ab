-- Who is alone, told by how many streams aren't at their ends.
use Rattle.std.proofs.{Common.{◌≡◌, ◌∙◌, ℕ, zero, suc, ◌+◌, ◌<◌, ◌≤◌, ◌⊎◌, inl, inr, Bool, true, false, List, [], ◌∷◌, length, get_or, Option, Some, None, refl, sym, ap, subst, arith}, lemmas.Bool.{eq-eqb, ne_eqb}}
use Rattle.std.specs.Prelude.{◌==◌, ◌&&◌, ◌||◌, if◌then◌else◌, slice_get}
use Rattle.script_form.specs.declared.script.Command.{Command}
use Rattle.core_pages.specs.volap_cell.specs.{Setting.{Setting, actor_count}, State.Has, Sums.sum_below, Values.{ActorValue, actor_of}, World.World, declared.actor.Actor.Actor}
use Rattle.core_due.specs.Due.{all_below, any_below, does_nothing, is_empty}
use Rattle.seeded_run.specs.{Due.is_alone, Look.{IsTold, alone_by, others_end, rests, streams_left}}

-- Tests below a number.

pub all-same : (n : ℕ) (f g : ℕ → Bool) → ((a : ℕ) → a < n → f a ≡ g a) → all_below n f ≡ all_below n g
all-same zero f g same = refl
all-same (suc n) f g same = ap (λ b. b && all_below n f) (same n (omega arith)) ∙ ap (λ b. g n && b) (all-same n f g (λ a low. same a (omega arith)))

split-two : (x f g all both : Bool) → ((x || (f && g)) && (all && both)) ≡ (((x || g) && all) && ((x || f) && both))
split-two true f g all both = refl
split-two false true true all both = refl
split-two false true false all both = refl
split-two false false true true both = refl
split-two false false true false both = refl
split-two false false false all both = refl

-- two tests in one are one after the other
pub all-split : (n k : ℕ) (f g : ℕ → Bool) → all_below n (λ a. a == k || (f a && g a)) ≡ (all_below n (λ a. a == k || g a) && all_below n (λ a. a == k || f a))
all-split zero k f g = refl
all-split (suc n) k f g =
    ap (λ b. (n == k || (f n && g n)) && b) (all-split n k f g)
    ∙ split-two (n == k) (f n) (g n) (all_below n (λ a. a == k || g a)) (all_below n (λ a. a == k || f a))

pub any-at : (n : ℕ) (test : ℕ → Bool) (a : ℕ) → a < n → test a ≡ true → any_below n test ≡ true
any-at zero test a low is = absurd (omega arith)
any-at (suc n) test a low is = elim (here a n low) [
  | inl below ↦ by (test n) (any-at n test a below is)
  | inr at ↦ ap (λ b. b || any_below n test) (ap test (sym at) ∙ is)
]
  where
    here : (a n : ℕ) → a < suc n → (a < n) ⊎ (a ≡ n)
    here a n low = grind arith

    by : (b : Bool) → any_below n test ≡ true → (b || any_below n test) ≡ true
    by true any = refl
    by false any = any

-- one that doesn't pass behind others
pub any-next : (n : ℕ) (test : ℕ → Bool) → any_below n test ≡ false → test n ≡ false → any_below (n + 1) test ≡ false
any-next n test none is =
    let next : n + 1 ≡ suc n = omega arith in
    subst (λ m. any_below m test ≡ false) (sym next) (ap (λ b. b || any_below n test) is ∙ none)

pub both-fail : (a b : Bool) → a ≡ false → b ≡ false → (a || b) ≡ false
both-fail a b first second = ap (λ x. x || b) first ∙ second

-- at the first place that doesn't pass a test of all fails
pub all-fails : (n : ℕ) (test : ℕ → Bool) (a : ℕ) → a < n → test a ≡ false → all_below n test ≡ false
all-fails zero test a low is = absurd (omega arith)
all-fails (suc n) test a low is = elim (here a n low) [
  | inl below ↦ by (test n) (all-fails n test a below is)
  | inr at ↦ ap (λ b. b && all_below n test) (ap test (sym at) ∙ is)
]
  where
    here : (a n : ℕ) → a < suc n → (a < n) ⊎ (a ≡ n)
    here a n low = grind arith

    by : (b : Bool) → all_below n test ≡ false → (b && all_below n test) ≡ false
    by true all = all
    by false all = refl

-- Counting what doesn't pass.

abbrev fails : (ℕ → Bool) → ℕ → ℕ
fails g a = if g a then 0 else 1

fails-some : (n : ℕ) (g : ℕ → Bool) (a : ℕ) → a < n → g a ≡ false → 0 < sum_below n (fails g)
fails-some zero g a low is = absurd (omega arith)
fails-some (suc n) g a low is = elim (here a n low) [
  | inl below ↦ let more = fails-some n g a below is in omega arith
  | inr at ↦ let one : fails g n ≡ 1 = ap (λ b. if b then 0 else 1) (ap g (sym at) ∙ is) in omega arith
]
  where
    here : (a n : ℕ) → a < suc n → (a < n) ⊎ (a ≡ n)
    here a n low = grind arith

plus-zero : (m : ℕ) → 0 + m ≡ m
plus-zero m = omega arith

-- behind the place that is left out none must fail
none-fails : (n k : ℕ) (g : ℕ → Bool) → n ≤ k → all_below n (λ a. a == k || g a) ≡ (sum_below n (fails g) == 0)
none-fails zero k g low = refl
none-fails (suc n) k g low =
    ap (λ b. (b || g n) && all_below n (λ a. a == k || g a)) (ne_eqb n k (λ e. absurd (omega arith)))
    ∙ by (g n) (none-fails n k g (omega arith))
  where
    by : (b : Bool) → all_below n (λ a. a == k || g a) ≡ (sum_below n (fails g) == 0) → (b && all_below n (λ a. a == k || g a)) ≡ ((if b then 0 else 1) + sum_below n (fails g) == 0)
    by true more = more ∙ ap (λ m. m == 0) (sym (plus-zero (sum_below n (fails g))))
    by false more = sym (ne_eqb (1 + sum_below n (fails g)) 0 (λ e. absurd (omega arith)))

-- past it that one alone may
pub one-fails : (n k : ℕ) (g : ℕ → Bool) → k < n → all_below n (λ a. a == k || g a) ≡ (sum_below n (fails g) == fails g k)
one-fails zero k g low = absurd (omega arith)
one-fails (suc n) k g low = elim (here k n low) [
  | inl below ↦
      ap (λ b. (b || g n) && all_below n (λ a. a == k || g a)) (ne_eqb n k (λ e. absurd (omega arith)))
      ∙ past (g n) (g k) refl (one-fails n k g below) below
  | inr at ↦
      ap (λ b. (b || g n) && all_below n (λ a. a == k || g a)) (eq-eqb n k (sym at))
      ∙ none-fails n k g (omega arith)
      ∙ at-it (g n) (sum_below n (fails g)) ∙ ap (λ m. fails g n + sum_below n (fails g) == fails g m) (sym at)
]
  where
    here : (a n : ℕ) → a < suc n → (a < n) ⊎ (a ≡ n)
    here a n low = grind arith

    at-it : (b : Bool) (m : ℕ) → (m == 0) ≡ ((if b then 0 else 1) + m == (if b then 0 else 1))
    at-it true m = ap (λ k. k == 0) (sym (plus-zero m))
    at-it false zero = refl
    at-it false (suc m) = ne_eqb (suc m) 0 (λ e. absurd (omega arith)) ∙ sym (ne_eqb (1 + suc m) 1 (λ e. absurd (omega arith)))

    past : (b c : Bool) → g k ≡ c → all_below n (λ a. a == k || g a) ≡ (sum_below n (fails g) == (if g k then 0 else 1)) → k < n
        → (b && all_below n (λ a. a == k || g a)) ≡ ((if b then 0 else 1) + sum_below n (fails g) == (if g k then 0 else 1))
    past true c is more below = more ∙ ap (λ m. m == (if g k then 0 else 1)) (sym (plus-zero (sum_below n (fails g))))
    past false true is more below = rw is (sym (ne_eqb (1 + sum_below n (fails g)) 0 (λ e. absurd (omega arith))))
    past false false is more below =
        let some = fails-some n g k below is in
        rw is (sym (ne_eqb (1 + sum_below n (fails g)) 1 (λ e. absurd (omega arith))))

-- Alone.

ends-by : (rest : List Command) (left : ℕ) → (left == (if is_empty rest then 0 else 1)) ≡ others_end (slice_get rest 0) left
ends-by [] left = refl
ends-by (c ∷ more) left = refl

rests-seen : (o : Option Actor) (v : ActorValue) → Has o (λ x. actor_of x ≡ v) → does_nothing v ≡ rests o
rests-seen None v has = absurd has
rests-seen (Some a) v has = ap does_nothing (sym has)

-- whether an actor is alone
pub alone-seen : (s : Setting) (w : World) (rest : ℕ → List Command) (actors : List (Option Actor)) (n : ℕ) (next : Option Command) (left : ℕ)
    → length actors ≡ actor_count s → ((a : ℕ) → a < length actors → Has (get_or actors a None) (λ x. actor_of x ≡ w.actors a)) → n < length actors → IsTold s rest n next left
    → is_alone s w rest n ≡ alone_by actors n next left
alone-seen s w rest actors n next left count is low told =
    all-split (actor_count s) n (λ a. does_nothing (w.actors a)) (λ a. is_empty (rest a))
    ∙ ap (λ b. b && all_below (actor_count s) (λ a. a == n || does_nothing (w.actors a)))
    (one-fails (actor_count s) n (λ a. is_empty (rest a)) (omega arith)
    ∙ ends-by (rest n) (streams_left s rest)
    ∙ ap (λ o. others_end o (streams_left s rest)) told.next_is
    ∙ ap (others_end next) told.left_is)
    ∙ ap (λ b. others_end next left && b)
    (ap (λ m. all_below m (λ a. a == n || does_nothing (w.actors a))) (sym count)
    ∙ all-same (length actors) (λ a. a == n || does_nothing (w.actors a)) (λ a. a == n || rests (get_or actors a None)) (λ a below. ap (λ b. a == n || b) (rests-seen (get_or actors a None) (w.actors a) (is a below))))
