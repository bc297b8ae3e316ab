-- How far a part may still go falls where it goes on: to the worker of a move, or to the children of a split.
use Rattle.std.proofs.{Common.{◌≡◌, ℕ, ◌<◌, ◌≤◌, List, [], ◌∷◌, length, Bool, true, false, Option, Some, None, refl, sym, ap, subst, ◌∙◌, ◌⊎◌, inl, inr, arith, ◌==◌, zero, suc, Contains, ◌+◌}, lemmas.Bool.{eq-eqb, eqb-true, false≢true, le-leb, leb-true, lt-leb}}
use Rattle.std.specs.Prelude.{if◌then◌else◌, nat_le}
use Rattle.row_ledger.specs.{Right.{EachEvent, Site, Stands}, Shards.{comes_from, ids_made}, Workers.left_at, declared.event.Event.Event, declared.event.Event.TheVariants.{Moved, Split}}
use Rattle.row_ledger.proofs.Descent.{WasSplit, comes_from-comparable, comes_from-self, split-made}
use Rattle.list_words.proofs.Elements.{Contains-nil}
use Rattle.volap_cell.specs.{Falls.{count_events, departure, far, is_from, moves_ahead, splits_under}, Lineage.went_to}
use Rattle.volap_cell.proofs.{Histories.Departures.{MovesAt, StaysAt, left-moves}, Histories.Lines.{AreChildren, are-children, comes-made, comes_from-through}}

-- 1 where a test passes
abbrev pub once : Bool → ℕ
once b = if b then 1 else 0

once-most : (v : Bool) → once v ≤ 1
once-most true = omega arith
once-most false = omega arith

-- Counts.

pub count-most : (test other : Event → ℕ → Bool) → ((e : Event) (p : ℕ) → once (test e p) ≤ once (other e p)) → (h : List Event) → count_events test h ≤ count_events other h
count-most test other le [] = omega arith
count-most test other le (e ∷ past) = (let here = le e (length past) in let rest = count-most test other le past in omega (arith, here, rest))

-- Moves.

from-most : (q p : ℕ) → p < q → (r : ℕ) → once (is_from (Some q) r) ≤ once (is_from (Some p) r)
from-most q p lt r = at (nat_le q r) refl
  where
    at : (b : Bool) → nat_le q r ≡ b → once b ≤ once (nat_le p r)
    at true is = (let below : q ≤ r = leb-true q r is in subst (λ (c : Bool). 1 ≤ once c) (sym (le-leb p r (omega (arith, lt, below)))) (omega arith))
    at false is = omega arith

-- what is ahead of a part from a later position on, or from none on
abbrev IsLater : Option ℕ → ℕ → Type 0
IsLater None p = Unit {0}
IsLater (Some q) p = p < q

later-most : (o : Option ℕ) (p : ℕ) → IsLater o p → (r : ℕ) → once (is_from o r) ≤ once (is_from (Some p) r)
later-most None p later r = omega arith
later-most (Some q) p later r = from-most q p later r

later-none : (o : Option ℕ) (p : ℕ) → IsLater o p → is_from o p ≡ false
later-none None p later = refl
later-none (Some q) p later = lt-leb q p later

moves-most : (h : List Event) (x : ℕ) (o : Option ℕ) (p : ℕ) → IsLater o p → (e : Event) (r : ℕ) → once (moves_ahead h x o e r) ≤ once (moves_ahead h x (Some p) e r)
moves-most h x o p later (Moved of shard to) r = at (shard == x)
  where
    at : (b : Bool) → once (if b then is_from o r else comes_from h x shard) ≤ once (if b then is_from (Some p) r else comes_from h x shard)
    at true = later-most o p later r
    at false = omega arith
moves-most h x o p later _ r = omega arith

moves-less : (all h : List Event) (x : ℕ) (o : Option ℕ) (p : ℕ) → IsLater o p → MovesAt h x p → count_events (moves_ahead all x o) h < count_events (moves_ahead all x (Some p)) h
moves-less all [] x o p later moves = absurd moves
moves-less all (e ∷ past) x o p later (inl here) =
    let (of, to, is) = here.1 in
    let rest = count-most (moves_ahead all x o) (moves_ahead all x (Some p)) (moves-most all x o p later) past in
    let none : moves_ahead all x o e (length past) ≡ false = (λ k. moves_ahead all x o (is k) (here.0 k)) ∙ rw (eq-eqb x x refl) (later-none o p later) in
    let one : moves_ahead all x (Some p) e (length past) ≡ true = (λ k. moves_ahead all x (Some p) (is k) (here.0 k)) ∙ rw (eq-eqb x x refl) (le-leb p p (omega arith)) in
    let zero : once (moves_ahead all x o e (length past)) ≡ 0 = ap once none in
    let first : once (moves_ahead all x (Some p) e (length past)) ≡ 1 = ap once one in
    omega (arith, rest, zero, first)
moves-less all (e ∷ past) x o p later (inr older) =
    let rest = moves-less all past x o p later older in
    let here = moves-most all x o p later e (length past) in
    omega (arith, rest, here)

-- a part goes on to the worker of a move
pub far-moved : (workers : ℕ) (h : List Event) (x w v p : ℕ) → went_to h x w ≡ false → left_at workers h x w ≡ Some p → StaysAt workers h x v ⊎ ((q : ℕ) × (left_at workers h x v ≡ Some q) × (p < q)) → far workers h x v < far workers h x w
far-moved workers h x w v p went left there =
    let was : departure workers h x w ≡ Some p = (λ k. if went k then None else left k) in
    let later : IsLater (departure workers h x v) p = after there in
    let less = moves-less h h x (departure workers h x v) p later (left-moves workers h x w p left) in
    let same : count_events (moves_ahead h x (departure workers h x w)) h ≡ count_events (moves_ahead h x (Some p)) h = ap (λ (o : Option ℕ). count_events (moves_ahead h x o) h) was in
    omega (arith, less, same)
  where
    departs : (b : Bool) (o : Option ℕ) → (o ≡ None) ⊎ ((q : ℕ) × (o ≡ Some q) × (p < q)) → IsLater (if b then None else o) p
    departs true o is = tt
    departs false o (inl none) = subst (λ (z : Option ℕ). IsLater z p) (sym none) tt
    departs false o (inr (q, is, lt)) = subst (λ (z : Option ℕ). IsLater z p) (sym is) lt

    after : StaysAt workers h x v ⊎ ((q : ℕ) × (left_at workers h x v ≡ Some q) × (p < q)) → IsLater (departure workers h x v) p
    after (inl (inl there)) = subst (λ (b : Bool). IsLater (if b then None else left_at workers h x v) p) (sym there) tt
    after (inl (inr never)) = departs (went_to h x v) (left_at workers h x v) (inl never)
    after (inr on) = departs (went_to h x v) (left_at workers h x v) (inr on)

-- Splits.

-- two counts of which each event is in one at most are no more than a third one that has them; and less, where it has one event more
count-two : (one other both : Event → ℕ → Bool) → ((e : Event) (p : ℕ) → once (one e p) + once (other e p) ≤ once (both e p)) → (h : List Event) → count_events one h + count_events other h ≤ count_events both h
count-two one other both le [] = omega arith
count-two one other both le (e ∷ past) = (let here = le e (length past) in let rest = count-two one other both le past in omega (arith, here, rest))

count-more : (one other both : Event → ℕ → Bool) → ((e : Event) (p : ℕ) → once (one e p) + once (other e p) ≤ once (both e p)) → (more : Event) → ((p : ℕ) → (one more p ≡ false) × (other more p ≡ false) × (both more p ≡ true))
    → (h : List Event) → Contains h more → count_events one h + count_events other h + 1 ≤ count_events both h
count-more one other both le more is [] has = absurd (Contains-nil more has)
count-more one other both le more is (e ∷ past) (zero, within, here) =
    let rest = count-two one other both le past in
    let at = is (length past) in
    let a : once (one e (length past)) ≡ 0 = ap (λ (z : Event). once (one z (length past))) here ∙ ap once at.0 in
    let b : once (other e (length past)) ≡ 0 = ap (λ (z : Event). once (other z (length past))) here ∙ ap once at.1 in
    let c : once (both e (length past)) ≡ 1 = ap (λ (z : Event). once (both z (length past))) here ∙ ap once at.2 in
    omega (arith, rest, a, b, c)
count-more one other both le more is (e ∷ past) (suc k, within, here) =
    let rest = count-more one other both le more is past (k, omega (arith, within), here) in
    let first = le e (length past) in
    omega (arith, rest, first)

module _ (site : Site) (usable : ℕ → Bool) (h : List Event) (each : EachEvent (Stands site usable) h) (x l r : ℕ) (was : WasSplit h x l r) where
  its : AreChildren h x l r
  its = are-children site usable h x l r each was

  made : (x < ids_made site.workers h) × (l < ids_made site.workers h) × (r < ids_made site.workers h)
  made = split-made site usable h x l r each was

  made-below : (y z : ℕ) → y < ids_made site.workers h → comes_from h y z ≡ true → z < ids_made site.workers h
  made-below y z below comes = elim (comes-made site usable h y z each comes) [ inl same ↦ omega (arith, same, below) | inr is ↦ is ]

  -- what comes from a child comes from the shard, and not from the other child
  one-child : (z : ℕ) → once (comes_from h l z) + once (comes_from h r z) ≤ once (comes_from h x z)
  one-child z = at (comes_from h l z) refl (comes_from h r z) refl
    where
      through : (y : ℕ) → y < ids_made site.workers h → comes_from h x y ≡ true → comes_from h y z ≡ true → once (comes_from h x z) ≡ 1
      through y below upper lower = ap once (comes_from-through site usable h x y z each (made-below y z below lower) upper lower)

      at : (a : Bool) → comes_from h l z ≡ a → (b : Bool) → comes_from h r z ≡ b → once a + once b ≤ once (comes_from h x z)
      at true left true right = elim (comes_from-comparable site usable h l r z each (made-below l z made.1 left) left right) [
        | inl comes ↦ absurd (false≢true (sym its.left_right ∙ comes))
        | inr comes ↦ absurd (false≢true (sym its.right_left ∙ comes))
      ]
      at true left false right = (let up = through l made.1 its.from_left left in omega (arith, up))
      at false left true right = (let up = through r made.2 its.from_right right in omega (arith, up))
      at false left false right = omega arith

  splits-two : (e : Event) (p : ℕ) → once (splits_under h l e) + once (splits_under h r e) ≤ once (splits_under h x e)
  splits-two (Split of shard left right) p = one-child shard
  splits-two _ p = omega arith

  -- moves of a child, and of what comes from it

  moves-from : (y z : ℕ) (b : Bool) → once (if y == z then b else comes_from h z y) ≤ once (comes_from h z y)
  moves-from y z b = at (y == z) refl
    where
      at : (v : Bool) → (y == z) ≡ v → once (if v then b else comes_from h z y) ≤ once (comes_from h z y)
      at true same =
          let is : comes_from h z y ≡ true = subst (λ (t : ℕ). comes_from h z t ≡ true) (sym (eqb-true y z same)) (comes_from-self h z) in
          let one = ap once is in
          let most = once-most b in
          omega (arith, one, most)
      at false other = omega arith

  moves-two : (ol or ox : Option ℕ) (e : Event) (p : ℕ) → once (moves_ahead h l ol e p) + once (moves_ahead h r or e p) ≤ once (moves_ahead h x ox e p)
  moves-two ol or ox (Moved of shard to) p = at (shard == x) refl
    where
      at : (v : Bool) → (shard == x) ≡ v → once (moves_ahead h l ol (Moved of shard to) p) + once (moves_ahead h r or (Moved of shard to) p) ≤ once (if v then is_from ox p else comes_from h x shard)
      at true same =
          let is : shard ≡ x = eqb-true shard x same in
          let left = moves-from shard l (is_from ol p) in
          let right = moves-from shard r (is_from or p) in
          let none_left : once (comes_from h l shard) ≡ 0 = ap (λ (z : ℕ). once (comes_from h l z)) is ∙ ap once its.left_back in
          let none_right : once (comes_from h r shard) ≡ 0 = ap (λ (z : ℕ). once (comes_from h r z)) is ∙ ap once its.right_back in
          omega (arith, left, right, none_left, none_right)
      at false other =
          let left = moves-from shard l (is_from ol p) in
          let right = moves-from shard r (is_from or p) in
          let both = one-child shard in
          omega (arith, left, right, both)
  moves-two ol or ox _ p = omega arith

  -- a part goes on to the children, on one worker
  pub far-split : (w : ℕ) → far site.workers h l w + far site.workers h r w + 1 ≤ far site.workers h x w
  far-split w =
      let splits = count-more (λ e p. splits_under h l e) (λ e p. splits_under h r e) (λ e p. splits_under h x e) splits-two (Split was.0 x l r) (λ p. (its.left_back, its.right_back, comes_from-self h x)) h was.1 in
      let moves = count-two (moves_ahead h l (departure site.workers h l w)) (moves_ahead h r (departure site.workers h r w)) (moves_ahead h x (departure site.workers h x w))
      (moves-two (departure site.workers h l w) (departure site.workers h r w) (departure site.workers h x w)) h in
      omega (arith, splits, moves)
