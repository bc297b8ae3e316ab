-- What is looked up once a turn tells what each actor would see.
use Rattle.std.proofs.{Common.{◌≡◌, ◌∙◌, ℕ, zero, suc, ◌+◌, ◌<◌, inl, inr, Bool, true, false, not, List, [], ◌∷◌, length, get_or, set, replicate, take, drop, ◌≤◌, Option, Some, None, refl, sym, ap, subst, arith}, lemmas.Bool.{eq-eqb, ne_eqb}, lemmas.List.{get_or-set_other, get_or-set_same, get_or-take, length-set, length-take, take-append-drop}, lemmas.List.Folds.{list_any-append, list_any_more, list_any_none}, lemmas.List.Quantifiers.position-Some, lemmas.List.Sums.fails_before_first, lemmas.Grind.common_steps}
use Rattle.std.specs.{List.{list_any, position, position_or_len}, Option.option_map_or, Prelude.{◌==◌, ◌&&◌, ◌||◌}}
use Rattle.query_router.specs.{Desk.{is_waiting, waits_for}, declared.part.Part.Part}
use Rattle.core_pages.specs.volap_cell.specs.declared.actor.Actor.{Actor}
use Rattle.core_due.specs.Due.{any_below}
use Rattle.seeded_run.specs.{Survey.{AllAwaited, MarksCarried, mark_count, mark_of, worker_count}, Takes.{carries_at, free_by}}
use Rattle.seeded_run.proofs.{Cursors.Firstly.below-or-at, Due.DueSteps.no-both, Holding.LeftAlone.{apart, or-true, same-or-not}, Holding.Others.{any-at, both-fail}, Phases.Movers.all-from}

neither : (a b : Bool) → (a || b) ≡ false → (a ≡ false) × (b ≡ false)
neither false b e = (refl, e)
neither true b e = cc

by-test : {P : Type 0} (b : Bool) → (b ≡ true → P) → (b ≡ false → P) → P
by-test true so not_so = so refl
by-test false so not_so = not_so refl

-- Workers.

-- where no part waits, none waits for a worker
pub none-waits : (worker : ℕ) (parts : List Part) → list_any is_waiting parts ≡ false → list_any (waits_for worker) parts ≡ false
none-waits worker [] none = refl
none-waits worker (p ∷ ps) none =
    let both = neither (is_waiting p) (list_any is_waiting ps) none in
    both-fail (waits_for worker p) (list_any (waits_for worker) ps) (no-both (p.worker == worker) (is_waiting p) both.0) (none-waits worker ps both.1)

-- whichever of as many equal ones
pub none-of : {A : Type 0} (n i : ℕ) (x : A) → get_or (replicate n x) i x ≡ x
none-of n i x = by n i
  where
    by : (k j : ℕ) → get_or (replicate k x) j x ≡ x
    by zero j = refl
    by (suc k) zero = refl
    by (suc k) (suc j) = by k j

any-more : (n : ℕ) (test : ℕ → Bool) → any_below (n + 1) test ≡ (test n || any_below n test)
any-more n test = (let next : n + 1 ≡ suc n = omega arith in ap (λ k. any_below k test) next)

-- one more server's desk
pub asks-one-more : (n : ℕ) (test : ℕ → Bool) (here was now : Bool) → was ≡ any_below n test → here ≡ test n → now ≡ (here || was) → now ≡ any_below (n + 1) test
asks-one-more n test here was now before is noted = noted ∙ ap (λ b. b || was) is ∙ ap (λ b. test n || b) before ∙ sym (any-more n test)

shuffle : (a b c : Bool) → (a || (b || c)) ≡ ((b || a) || c)
shuffle true true c = refl
shuffle true false c = refl
shuffle false true c = refl
shuffle false false c = refl

-- one more part
pub parts-more : (w : ℕ) (parts : List Part) (k : ℕ) (p : Part) (was before now : Bool) → k < length parts → p ≡ get_or parts k p → before ≡ (list_any (waits_for w) (take k parts) || was)
    → now ≡ (waits_for w p || before) → now ≡ (list_any (waits_for w) (take (k + 1) parts) || was)
parts-more w parts k p was before now low is so_far noted =
    let more : list_any (waits_for w) (take (k + 1) parts) ≡ (list_any (waits_for w) (take k parts) || waits_for w p) =
    list_any_more (waits_for w) parts k p low ∙ ap (λ q. list_any (waits_for w) (take k parts) || waits_for w q) (sym is) in
    noted ∙ ap (λ b. waits_for w p || b) so_far ∙ shuffle (waits_for w p) (list_any (waits_for w) (take k parts)) was ∙ sym (ap (λ b. b || was) more)

-- no part waits before the first one that does
none-before : (parts : List Part) (first : ℕ) → position is_waiting parts ≡ Some first → list_any is_waiting (take first parts) ≡ false
none-before parts first is = list_any_none is_waiting (take first parts) (λ k d low.
    let below : k < first = omega (arith, low, length-take first parts) in
    ap is_waiting (get_or-take first parts k d below) ∙ (position-Some is_waiting parts first d is).2 k below)

-- where there is no first one, none waits
pub none-at-all : (parts : List Part) → position is_waiting parts ≡ None → list_any is_waiting parts ≡ false
none-at-all parts none = list_any_none is_waiting parts (λ k d low. fails_before_first is_waiting parts k d (omega (arith, low, past)))
  where
    past : length parts ≤ position_or_len is_waiting parts
    past = grind (arith, common_steps)

-- What the parts before a place tell is noted, and for all workers below one parts are known to wait.
pub record AreNoted (workers : ℕ) (parts : List Part) (to known : ℕ) (was now : List Bool) : Type 0 where
  pub noted : (w : ℕ) → w < workers → get_or now w false ≡ (list_any (waits_for w) (take to parts) || get_or was w false)
  pub all : AllAwaited now known

-- up to the first one that waits nothing is to be noted
pub noted-first : (workers : ℕ) (parts : List Part) (first known : ℕ) (awaited : List Bool) → position is_waiting parts ≡ Some first → AllAwaited awaited known → AreNoted workers parts first known awaited awaited
noted-first workers parts first known awaited is all = record {
  noted = λ w low. sym (ap (λ b. b || get_or awaited w false) (none-waits w (take first parts) (none-before parts first is)));
  all = all;
}

more : (a b was : Bool) → (a || was) ≡ true → ((a || b) || was) ≡ true
more true b was e = refl
more false true was e = refl
more false false was e = e

-- where parts are known to wait for all workers, those behind tell nothing
pub noted-all : (workers : ℕ) (parts : List Part) (to known : ℕ) (was now : List Bool) → AreNoted workers parts to known was now → workers ≤ known → (w : ℕ) → w < workers
    → get_or now w false ≡ (list_any (waits_for w) parts || get_or was w false)
noted-all workers parts to known was now are enough w low =
    let is : get_or now w false ≡ true = are.all w (omega (arith, low, enough)) in
    let t = waits_for w in
    let split = ap (list_any t) (sym (take-append-drop to parts)) ∙ list_any-append t (take to parts) (drop to parts) in
    is ∙ sym (ap (λ b. b || get_or was w false) split ∙ more (list_any t (take to parts)) (list_any t (drop to parts)) (get_or was w false) (sym (are.noted w low) ∙ is))

any-kept : (n m : ℕ) (test : ℕ → Bool) → n ≤ m → any_below n test ≡ true → any_below m test ≡ true
any-kept zero m test low is = cc
any-kept (suc n) m test low is =
    by-test (test n) (λ here. any-at m test n (omega (arith, low)) here) (λ none. any-kept n m test (omega (arith, low)) (sym (ap (λ b. b || any_below n test) none) ∙ is))

-- nor do the desks behind
pub asks-no-more : (n m : ℕ) (test : ℕ → Bool) (now : Bool) → n ≤ m → now ≡ true → now ≡ any_below n test → now ≡ any_below m test
asks-no-more n m test now low is noted = is ∙ sym (any-kept n m test low (sym noted ∙ is))

-- one more worker for whom parts are known to wait
pub one-known : (awaited : List Bool) (known : ℕ) → AllAwaited awaited known → get_or awaited known false ≡ true → AllAwaited awaited (known + 1)
one-known awaited known all is w low = elim (below-or-at w known low) [
  | inl below ↦ all w below
  | inr at ↦ subst (λ k. get_or awaited k false ≡ true) (sym at) is
]

-- these stay known
pub all-kept : (was now : List Bool) (known : ℕ) (p : Part) → known ≤ worker_count → AllAwaited was known
    → ((w : ℕ) → w < worker_count → get_or now w false ≡ (waits_for w p || get_or was w false)) → AllAwaited now known
all-kept was now known p few all noted w low = noted w (omega (arith, low, few)) ∙ or-true (waits_for w p) (get_or was w false) (all w low)

-- A part for whose worker it is noted, and one that doesn't wait.

pub part-noted : (awaited : List Bool) (p : Part) (w : ℕ) → length awaited ≡ worker_count → p.worker < worker_count → is_waiting p ≡ true
    → get_or (set awaited p.worker true) w false ≡ (waits_for w p || get_or awaited w false)
part-noted awaited p w count within waits = elim (same-or-not w p.worker) [
  | inl same ↦ subst (λ k. get_or (set awaited p.worker true) k false ≡ (waits_for k p || get_or awaited k false)) (sym same)
      (get_or-set_same awaited p.worker true false (omega (arith, count, within)) ∙ sym (ap (λ b. (b && is_waiting p) || get_or awaited p.worker false) (eq-eqb p.worker p.worker refl) ∙ ap (λ b. b || get_or awaited p.worker false) waits))
  | inr differs ↦ get_or-set_other awaited p.worker w true false differs
      ∙ sym (ap (λ b. (b && is_waiting p) || get_or awaited w false) (ne_eqb p.worker w (λ is. differs (sym is))))
]

pub part-skipped : (awaited : List Bool) (p : Part) (w : ℕ) → is_waiting p ≡ false → get_or awaited w false ≡ (waits_for w p || get_or awaited w false)
part-skipped awaited p w none = sym (ap (λ b. b || get_or awaited w false) (no-both (p.worker == w) (is_waiting p) none))

-- Blocks.

-- the marks of those actors below a number that carry a row are set
pub record AreMarked (actors : List (Option Actor)) (marks : List Bool) (to : ℕ) : Type 0 where
  pub count : length marks ≡ mark_count
  pub set : (n block : ℕ) → n < to → carries_at (get_or actors n None) block ≡ true → get_or marks (mark_of block) false ≡ true

still-set : (marks : List Bool) (i j : ℕ) → i < length marks → get_or marks j false ≡ true → get_or (set marks i true) j false ≡ true
still-set marks i j within is = elim (same-or-not j i) [
  | inl same ↦ subst (λ k. get_or (set marks i true) k false ≡ true) (sym same) (get_or-set_same marks i true false within)
  | inr differs ↦ get_or-set_other marks i j true false differs ∙ is
]

module _ (actors : List (Option Actor)) (marks : List Bool) (to : ℕ) (are : AreMarked actors marks to) (found : Option ℕ) (is : (block : ℕ) → carries_at (get_or actors to None) block ≡ true → found ≡ Some block) where
  pub marks-one : (block : ℕ) → found ≡ Some block → mark_of block < mark_count → AreMarked actors (set marks (mark_of block) true) (to + 1)
  marks-one block here within = record {
    count = length-set marks (mark_of block) true ∙ are.count;
    set = λ n other low carries. elim (below-or-at n to low) [
      | inl below ↦ still-set marks (mark_of block) (mark_of other) (omega (arith, are.count, within)) (are.set n other below carries)
      | inr at ↦
          let same : other ≡ block = some-same (sym (is other (subst (λ k. carries_at (get_or actors k None) other ≡ true) at carries)) ∙ here) in
          subst (λ y. get_or (set marks (mark_of block) true) (mark_of y) false ≡ true) (sym same) (get_or-set_same marks (mark_of block) true false (omega (arith, are.count, within)))
    ];
  }
    where
      some-same : {a b : ℕ} → ◌≡◌ {A = Option ℕ} (Some a) (Some b) → a ≡ b
      some-same e = cc

  pub marks-no-more : found ≡ None → AreMarked actors marks (to + 1)
  marks-no-more here = record {
    count = are.count;
    set = λ n other low carries. elim (below-or-at n to low) [
      | inl below ↦ are.set n other below carries
      | inr at ↦ none-some (sym here ∙ is other (subst (λ k. carries_at (get_or actors k None) other ≡ true) at carries))
    ];
  }
    where
      none-some : {X : Type 0} {a : ℕ} → ◌≡◌ {A = Option ℕ} None (Some a) → X
      none-some e = cc

-- at a block whose mark isn't set nobody carries a row
pub unmarked-free : (actors : List (Option Actor)) (marks : List Bool) (n block : ℕ) → MarksCarried actors marks → get_or marks (mark_of block) false ≡ false → free_by actors n block ≡ true
unmarked-free actors marks n block marked unset = all-from (length actors) _ (λ a low. or-true (a == n) (not (carries_at (get_or actors a None) block)) (nobody a low))
  where
    nobody : (a : ℕ) → a < length actors → not (carries_at (get_or actors a None) block) ≡ true
    nobody a low = by-test (carries_at (get_or actors a None) block) (λ carries. apart (get_or marks (mark_of block) false) (marked a block low carries) unset) (λ none. ap not none)

-- nor at one that is wanted, where the mark of that isn't set
pub unmarked-meets : (o : Option ℕ) (free marked : ℕ → Bool) → ((y : ℕ) → marked y ≡ false → free y ≡ true) → ((y : ℕ) → o ≡ Some y → marked y ≡ false) → option_map_or free o true ≡ true
unmarked-meets None free marked is none = refl
unmarked-meets (Some y) free marked is none = is y (none y refl)
