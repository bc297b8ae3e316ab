-- The places where nothing stands, counted.
use Rattle.std.proofs.{Common.{◌≡◌, ◌≢◌, ◌∙◌, ℕ, zero, suc, ◌+◌, ◌<◌, ◌==◌, Bool, cond, if◌then◌else◌, List, [], ◌∷◌, length, get_or, set, count_by, Option, Some, None, eq-eqb, ne_eqb, refl, sym, ap, subst, arith, length-set, get_or-set_same}, lemmas.List.Sums.sum_by-cons}
use mathlib.Core.Logic.{dite}
use native.Mathlib.Decide.{ℕ_discrete}
use Rattle.actor_run.specs.Passes.{missing}
use Rattle.whole_steps.specs.volap_cell.specs.declared.actor.Actor.{Actor}
use Rattle.whole_steps.specs.volap_turns.specs.Rule.{all_there}

abbrev one_if : Bool → ℕ
one_if b = cond b 1 0

more : (k n : ℕ) (ns : List ℕ) → count_by (λ x. x == k) (n ∷ ns) ≡ one_if (n == k) + count_by (λ x. x == k) ns
more k n ns = sum_by-cons (λ x. one_if (x == k)) n ns

other : (n k : ℕ) → n ≢ k → one_if (n == k) ≡ 0
other n k ne = ap one_if (ne_eqb n k ne)

-- none is counted before the first place
before : (n : ℕ) (actors : List (Option Actor)) (k : ℕ) → k < n → count_by (λ x. x == k) (missing n actors) ≡ 0
before n [] k lt = refl
before n (None ∷ actors) k lt =
    let e = other n k (λ q. omega arith) in
    let r = before (n + 1) actors k (omega arith) in
    more k n (missing (n + 1) actors) ∙ (λ i. e i + r i)
before n (Some a ∷ actors) k lt = before (n + 1) actors k (omega arith)

-- a place where nothing stands is counted once
missing-once : (n : ℕ) (actors : List (Option Actor)) (m : ℕ) → m < length actors → get_or actors m None ≡ None → count_by (λ x. x == n + m) (missing n actors) ≡ 1
missing-once n [] m lt e = absurd (omega arith)
missing-once n (None ∷ actors) zero lt e =
    let here = ap one_if (eq-eqb n (n + 0) (omega arith)) in
    let r = before (n + 1) actors (n + 0) (omega arith) in
    more (n + 0) n (missing (n + 1) actors) ∙ (λ i. here i + r i)
missing-once n (Some a ∷ actors) zero lt e = absurd (cc)
missing-once n (None ∷ actors) (suc m) lt e =
    let e0 = other n (n + suc m) (λ q. omega arith) in
    let at : n + suc m ≡ n + 1 + m = omega arith in
    let r = ap (λ k. count_by (λ x. x == k) (missing (n + 1) actors)) at ∙ missing-once (n + 1) actors m (omega arith) e in
    more (n + suc m) n (missing (n + 1) actors) ∙ (λ i. e0 i + r i)
missing-once n (Some a ∷ actors) (suc m) lt e =
    let at : n + suc m ≡ n + 1 + m = omega arith in
    ap (λ k. count_by (λ x. x == k) (missing (n + 1) actors)) at ∙ missing-once (n + 1) actors m (omega arith) e

same-test : (n k : ℕ) → one_if (n == k) ≡ (if k == n + 0 then 1 else 0)
same-test n k = dite (ℕ_discrete n k)
    (λ (same : n ≡ k). ap one_if (eq-eqb n k same) ∙ sym (ap one_if (eq-eqb k (n + 0) (omega arith))))
    (λ (ne : n ≢ k). other n k ne ∙ sym (other k (n + 0) (λ q. ne (omega arith))))

-- it is one more where what stood at a place is taken away
missing-more : (n : ℕ) (actors : List (Option Actor)) (m : ℕ) (x : Actor) → get_or actors m None ≡ Some x → (k : ℕ)
    → count_by (λ x. x == k) (missing n (set actors m None)) ≡ count_by (λ x. x == k) (missing n actors) + (if k == n + m then 1 else 0)
missing-more n [] m x e k = absurd (cc)
missing-more n (None ∷ actors) zero x e k = absurd (cc)
missing-more n (Some a ∷ actors) zero x e k =
    let s = same-test n k in
    more k n (missing (n + 1) actors) ∙ omega (arith, s)
missing-more n (None ∷ actors) (suc m) x e k =
    let at : n + 1 + m ≡ n + suc m = omega arith in
    let r = missing-more (n + 1) actors m x e k ∙ ap (λ j. count_by (λ x. x == k) (missing (n + 1) actors) + (if k == j then 1 else 0)) at in
    let l = more k n (missing (n + 1) (set actors m None)) in
    let g = more k n (missing (n + 1) actors) in
    l ∙ omega (arith, r, g)
missing-more n (Some a ∷ actors) (suc m) x e k =
    let at : n + 1 + m ≡ n + suc m = omega arith in
    missing-more (n + 1) actors m x e k ∙ ap (λ j. count_by (λ x. x == k) (missing (n + 1) actors) + (if k == j then 1 else 0)) at

-- from the first place on
module _ (actors : List (Option Actor)) (m : ℕ) where
  same-place : 0 + m ≡ m
  same-place = omega arith

  pub out-once : m < length actors → get_or actors m None ≡ None → count_by (λ x. x == m) (missing 0 actors) ≡ 1
  out-once lt e = subst (λ k. count_by (λ x. x == k) (missing 0 actors) ≡ 1) same-place (missing-once 0 actors m lt e)

  pub out-more : (x : Actor) → get_or actors m None ≡ Some x → (k : ℕ) → count_by (λ x. x == k) (missing 0 (set actors m None)) ≡ count_by (λ x. x == k) (missing 0 actors) + (if k == m then 1 else 0)
  out-more x e k = subst (λ j. count_by (λ x. x == k) (missing 0 (set actors m None)) ≡ count_by (λ x. x == k) (missing 0 actors) + (if k == j then 1 else 0)) same-place (missing-more 0 actors m x e k)

-- a place where something stands isn't counted
pub out-none : (actors : List (Option Actor)) (m : ℕ) (x : Actor) → m < length actors → get_or actors m None ≡ Some x → count_by (λ k. k == m) (missing 0 actors) ≡ 0
out-none actors m x lt here =
    let long = length-set actors m None in
    let once = out-once (set actors m None) m (omega arith) (get_or-set_same actors m None None lt) in
    let more = out-more actors m x here m in
    let one = ap one_if (eq-eqb m m refl) in
    omega (arith, once, more, one)

-- a place that isn't counted has something
pub not-missing : (actors : List (Option Actor)) (m : ℕ) → m < length actors → count_by (λ k. k == m) (missing 0 actors) ≡ 0 → (x : Actor) × (get_or actors m None ≡ Some x)
not-missing actors m lt none = by (get_or actors m None) refl
  where
    by : (o : Option Actor) → get_or actors m None ≡ o → (x : Actor) × (get_or actors m None ≡ Some x)
    by None e = absurd (let once = out-once actors m lt e in omega (arith, once, none))
    by (Some x) e = (x, e)

-- where none is counted something stands at each place
pub none-missing : (n : ℕ) (actors : List (Option Actor)) → missing n actors ≡ [] → (a : ℕ) → a < length actors → (x : Actor) × (get_or actors a None ≡ Some x)
none-missing n [] e a lt = absurd (omega arith)
none-missing n (None ∷ actors) e a lt = absurd (cc)
none-missing n (Some x ∷ actors) e zero lt = (x, refl)
none-missing n (Some x ∷ actors) e (suc a) lt = none-missing (n + 1) actors e a (omega arith)

pub all-in : (n : ℕ) (xs : List Actor) → missing n (all_there xs) ≡ []
all-in n [] = refl
all-in n (x ∷ xs) = all-in (n + 1) xs

-- a list in which no number is counted is empty
pub none-counted : (ns : List ℕ) → ((k : ℕ) → count_by (λ x. x == k) ns ≡ 0) → ns ≡ []
none-counted [] f = refl
none-counted (n ∷ ns) f = (let here = ap one_if (eq-eqb n n refl) in let one = more n n ns in let none = f n in absurd (omega (arith, here, one, none)))
