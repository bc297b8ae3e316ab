-- A shard is split: what becomes of the places of the shards that stand, and of a registry's list of them.
use Rattle.std.proofs.{Common.{◌≡◌, ◌≢◌, ℕ, suc, ◌+◌, ◌<◌, ◌≤◌, List, [], ◌∷◌, ◌++◌, Bool, true, false, not, Option, Some, None, slice_get, refl, sym, ap, ◌∙◌, subst, ◌⊎◌, inl, inr, arith, ◌==◌, ◌||◌, eqb-true, eq-eqb, filter}, lemmas.Bool.{and_parts, false≢true, ltb-true, or_cases, or_left, or_right}, lemmas.List.map-append, lemmas.List.Folds.list_any-append}
use Rattle.std.specs.{List.{insert, list_any, position_or_len, remove}, Prelude.{nat_lt, if◌then◌else◌}}
use Rattle.describing_set.specs.declared.listing.Spot.{Spot}
use Rattle.row_ledger.specs.{Laws.AscendFrom, Listings.places_of, Right.{EachEvent, IsRightSplit, Stands}, Shards.{Place, children, frontier, ids_made, is_live, is_of, place, worker_of}, Site.Site, Workers.is_on, declared.event.Event.Event, declared.event.Event.TheVariants.Split}
use Rattle.row_ledger.proofs.{Ascent.frontier-ascends, Descent.live-made}
use Rattle.server_image.specs.Spots.{place_of, with_spot, without}
use Rattle.list_words.specs.Counts.{Each}
use Rattle.list_words.proofs.Truth.{on_bool}
use Rattle.core_admin.proofs.Moving.MovedShards.{on, one-host}

-- the places without a shard
abbrev pub others : ℕ → List Place → List Place
others shard places = filter (λ (p : Place). not (is_of shard p)) places

-- what is found of another shard is found without it
pub still-there : (shard : ℕ) (f : Place → Bool) → ((p : Place) → f p ≡ true → is_of shard p ≡ false) → (places : List Place) → list_any f places ≡ true → list_any f (others shard places) ≡ true
still-there shard f off [] is = is
still-there shard f off (p ∷ places) is = (let rest = still-there shard f off places in on_bool (f p)
    (λ q. let other = off p q in rw (other, q) refl)
    (λ q.
    let more : list_any f places ≡ true = (let k : (false || list_any f places) ≡ true = sym (ap (λ (b : Bool). b || list_any f places) q) ∙ is in k) in
    on_bool (is_of shard p)
    (λ k. rw k (rest more))
    (λ k. rw (k, q) (rest more))))

-- what is found without a shard is of another one, and was there
pub was-there : (shard : ℕ) (f : Place → Bool) (places : List Place) → list_any f (others shard places) ≡ true → (k : Place) × (f k ≡ true) × (is_of shard k ≡ false) × (list_any f places ≡ true)
was-there shard f [] is = absurd (false≢true is)
was-there shard f (p ∷ places) is = at (λ more. was-there shard f places more) (is_of shard p) refl is
  where
    at : (list_any f (others shard places) ≡ true → (k : Place) × (f k ≡ true) × (is_of shard k ≡ false) × (list_any f places ≡ true)) → (b : Bool) → is_of shard p ≡ b
        → list_any f (if not b then p ∷ others shard places else others shard places) ≡ true → (k : Place) × (f k ≡ true) × (is_of shard k ≡ false) × (list_any f (p ∷ places) ≡ true)
    at rest true q is = (let o = rest is in (o.0, o.1, o.2, or_right (f p) (list_any f places) o.3))
    at rest false q is = elim (or_cases (f p) (list_any f (others shard places)) is) [
      | inl here ↦ (p, here, q, or_left (f p) (list_any f places) here)
      | inr more ↦ (let o = rest more in (o.0, o.1, o.2, or_right (f p) (list_any f places) o.3))
    ]

-- the worker of a shard that stands
pub worker-found : (x : ℕ) (places : List Place) → list_any (is_of x) places ≡ true → (w : ℕ) × (worker_of places x ≡ Some w) × (list_any (on x w) places ≡ true)
worker-found x [] is = absurd (false≢true is)
worker-found x (p ∷ places) is = at (λ more. worker-found x places more) (is_of x p) refl is
  where
    at : (list_any (is_of x) places ≡ true → (w : ℕ) × (worker_of places x ≡ Some w) × (list_any (on x w) places ≡ true)) → (b : Bool) → is_of x p ≡ b → (b || list_any (is_of x) places) ≡ true
        → (w : ℕ) × (worker_of (p ∷ places) x ≡ Some w) × (list_any (on x w) (p ∷ places) ≡ true)
    at rest true q is = (p.worker, rw q refl, or_left (on x p.worker p) (list_any (on x p.worker) places) (rw (q, eq-eqb p.worker p.worker refl) refl))
    at rest false q is = (let o = rest is in (o.0, rw q o.1, or_right (on x o.0 p) (list_any (on x o.0) places) o.2))

-- The shards that stand after a split.

module _ (site : Site) (usable : ℕ → Bool) (h : List Event) (each : EachEvent (Stands site usable) h) (of shard left right from : ℕ) (is_right : IsRightSplit site h of shard left right) (was_on : is_on site.workers h shard from ≡ true) where
  abbrev e : Event
  e = Split of shard left right

  abbrev places : List Place
  places = frontier site.workers h

  -- the worker is the one that had the shard
  pub worker-is : worker_of places shard ≡ Some from
  worker-is =
      let o = worker-found shard places is_right.done.live in
      let same = one-host 0 shard o.0 from places (frontier-ascends site usable h each) o.2 was_on in
      o.1 ∙ ap Some same

  pub frontier-now : frontier site.workers (e ∷ h) ≡ others shard places ++ place left from ∷ place right from ∷ []
  frontier-now = ap (λ (w : Option ℕ). others shard places ++ children left right w) worker-is

  pub live-still : (x : ℕ) → is_live site.workers h x ≡ true → x ≢ shard → is_live site.workers (e ∷ h) x ≡ true
  live-still x is ne = list_any-append (is_of x) (others shard places) (children left right (worker_of places shard))
      ∙ or_left (list_any (is_of x) (others shard places)) _ (still-there shard (is_of x) (λ p q. on_bool (is_of shard p) (λ k. absurd (ne (sym (eqb-true p.shard x q) ∙ eqb-true p.shard shard k))) (λ k. k)) places is)

  pub on-still : (x w : ℕ) → is_on site.workers h x w ≡ true → x ≢ shard → is_on site.workers (e ∷ h) x w ≡ true
  on-still x w is ne = list_any-append (on x w) (others shard places) (children left right (worker_of places shard))
      ∙ or_left (list_any (on x w) (others shard places)) _
      (still-there shard (on x w) (λ p q. on_bool (is_of shard p) (λ k. absurd (ne (sym (eqb-true p.shard x (and_parts (p.shard == x) (p.worker == w) q).0) ∙ eqb-true p.shard shard k))) (λ k. k)) places is)

  pub left-on : is_on site.workers (e ∷ h) left from ≡ true
  left-on = ap (list_any (on left from)) frontier-now ∙ list_any-append (on left from) (others shard places) (place left from ∷ place right from ∷ [])
      ∙ or_right (list_any (on left from) (others shard places)) _ (rw (eq-eqb left left refl, eq-eqb from from refl) refl)

  pub right-on : is_on site.workers (e ∷ h) right from ≡ true
  right-on = ap (list_any (on right from)) frontier-now ∙ list_any-append (on right from) (others shard places) (place left from ∷ place right from ∷ [])
      ∙ or_right (list_any (on right from) (others shard places)) _ (or_right (on right from (place left from)) _ (rw (eq-eqb right right refl, eq-eqb from from refl) refl))

  live-of : (x w : ℕ) (ps : List Place) → list_any (on x w) ps ≡ true → list_any (is_of x) ps ≡ true
  live-of x w [] is = is
  live-of x w (p ∷ ps) is = elim (or_cases (on x w p) (list_any (on x w) ps) is) [
    | inl here ↦ or_left (is_of x p) (list_any (is_of x) ps) (and_parts (p.shard == x) (p.worker == w) here).0
    | inr more ↦ or_right (is_of x p) (list_any (is_of x) ps) (live-of x w ps more)
  ]

  pub on-live : (x w : ℕ) → is_on site.workers (e ∷ h) x w ≡ true → is_live site.workers (e ∷ h) x ≡ true
  on-live x w is = live-of x w (frontier site.workers (e ∷ h)) is

  pub left-live : is_live site.workers (e ∷ h) left ≡ true
  left-live = on-live left from left-on

  pub right-live : is_live site.workers (e ∷ h) right ≡ true
  right-live = on-live right from right-on

  -- what stands on a worker stood there before, or is a child
  pub on-before : (x w : ℕ) → is_on site.workers (e ∷ h) x w ≡ true → ((is_on site.workers h x w ≡ true) × (x ≢ shard)) ⊎ (((x ≡ left) ⊎ (x ≡ right)) × (w ≡ from))
  on-before x w is = elim (or_cases (list_any (on x w) (others shard places)) (list_any (on x w) (place left from ∷ place right from ∷ [])) (sym (ap (list_any (on x w)) frontier-now ∙ list_any-append (on x w) (others shard places) (place left from ∷ place right from ∷ [])) ∙ is)) [
    | inl old ↦
        let o = was-there shard (on x w) places old in
        let its = eqb-true o.0.shard x (and_parts (o.0.shard == x) (o.0.worker == w) o.1).0 in
        inl (o.3, λ same. false≢true (sym o.2 ∙ eq-eqb o.0.shard shard (its ∙ same)))
    | inr new ↦ elim (or_cases (on x w (place left from)) _ new) [
      | inl here ↦ (let k = and_parts (left == x) (from == w) here in inr (inl (sym (eqb-true left x k.0)), sym (eqb-true from w k.1)))
      | inr more ↦ elim (or_cases (on x w (place right from)) false more) [
        | inl here ↦ (let k = and_parts (right == x) (from == w) here in inr (inr (sym (eqb-true right x k.0)), sym (eqb-true from w k.1)))
        | inr never ↦ absurd (false≢true never)
      ]
    ]
  ]

  pub live-before : (x : ℕ) → is_live site.workers (e ∷ h) x ≡ true → ((is_live site.workers h x ≡ true) × (x ≢ shard)) ⊎ ((x ≡ left) ⊎ (x ≡ right))
  live-before x is = elim (or_cases (list_any (is_of x) (others shard places)) (list_any (is_of x) (place left from ∷ place right from ∷ [])) (sym (ap (list_any (is_of x)) frontier-now ∙ list_any-append (is_of x) (others shard places) (place left from ∷ place right from ∷ [])) ∙ is)) [
    | inl old ↦
        let o = was-there shard (is_of x) places old in
        inl (o.3, λ same. false≢true (sym o.2 ∙ eq-eqb o.0.shard shard (eqb-true o.0.shard x o.1 ∙ same)))
    | inr new ↦ elim (or_cases (left == x) _ new) [
      | inl here ↦ inr (inl (sym (eqb-true left x here)))
      | inr more ↦ elim (or_cases (right == x) false more) [
        | inl here ↦ inr (inr (sym (eqb-true right x here)))
        | inr never ↦ absurd (false≢true never)
      ]
    ]
  ]

  -- the shard had its id before its children
  pub shard-made : shard < ids_made site.workers h
  shard-made = live-made site usable h shard each is_right.done.live

  pub off-left : (x : ℕ) → x < ids_made site.workers h → x ≢ left
  off-left x lt is = (let next = is_right.next in absurd (omega (arith, lt, is, next)))

  pub off-right : (x : ℕ) → x < ids_made site.workers h → x ≢ right
  off-right x lt is = (let after = is_right.after in absurd (omega (arith, lt, is, after)))

-- The list of the registry.

one-more : (n : ℕ) → 1 + n ≡ suc n
one-more n = omega arith

with-last : (z : Spot) (xs : List Spot) → Each (λ (x : Spot). x.shard < z.shard) xs → with_spot z xs ≡ xs ++ z ∷ []
with-last z [] below = refl
with-last z (x ∷ xs) below = (let rest = with-last z xs below.1 in let lt = below.0 in on_bool (nat_lt z.shard x.shard)
    (λ q. let no = ltb-true z.shard x.shard q in absurd (omega (arith, no, lt)))
    (λ q.
    let step : with_spot z (x ∷ xs) ≡ x ∷ with_spot z xs = rw q (ap (λ (k : ℕ). insert (x ∷ xs) k z) (one-more (position_or_len (λ (y : Spot). nat_lt z.shard y.shard) xs))) in
    step ∙ ap (λ (ys : List Spot). x ∷ ys) rest))

pub without-first : (id : ℕ) (x : Spot) (xs : List Spot) → (x.shard == id) ≡ true → without id (x ∷ xs) ≡ xs
without-first id x xs q = rw q refl

pub without-next : (id : ℕ) (x : Spot) (xs : List Spot) → (x.shard == id) ≡ false → without id (x ∷ xs) ≡ x ∷ without id xs
without-next id x xs q = rw q (ap (λ (k : ℕ). remove (x ∷ xs) k) (one-more (place_of id xs)))

none-of : (id : ℕ) (places : List Place) → AscendFrom (id + 1) places → others id places ≡ places
none-of id [] ascend = refl
none-of id (p ∷ places) ascend =
    let le = ascend.0 in
    let off : is_of id p ≡ false = on_bool (is_of id p) (λ q. let same : p.shard ≡ id = eqb-true p.shard id q in absurd (omega (arith, same, le))) (λ q. q) in
    rw off (ap (λ (ps : List Place). p ∷ ps) (none-of id places (lower (p.shard + 1) places (omega (arith, le)) ascend.1)))
  where
    lower : (high : ℕ) (places : List Place) → id + 1 ≤ high → AscendFrom high places → AscendFrom (id + 1) places
    lower high [] le ascend = tt
    lower high (p ∷ places) le ascend = (let first = ascend.0 in omega (arith, first, le), ascend.1)

without-places : (id from : ℕ) (xs : List Spot) → AscendFrom from (places_of xs) → places_of (without id xs) ≡ others id (places_of xs)
without-places id from [] ascend = refl
without-places id from (x ∷ xs) ascend = (let rest = without-places id (x.shard + 1) xs ascend.1 in on_bool (x.shard == id)
    (λ q.
    let same : x.shard ≡ id = eqb-true x.shard id q in
    let here = without-first id x xs q in
    ap places_of here ∙ sym (none-of id (places_of xs) (subst (λ (y : ℕ). AscendFrom (y + 1) (places_of xs)) same ascend.1)) ∙ rw q refl)
    (λ q.
    let later = without-next id x xs q in
    ap places_of later ∙ ap (λ (ps : List Place). place x.shard x.worker ∷ ps) rest ∙ rw q refl))

-- the spots that stay have ids that were made before
below-without : (id high : ℕ) (xs : List Spot) → Each (λ (x : Spot). x.shard < high) xs → Each (λ (x : Spot). x.shard < high) (without id xs)
below-without id high [] below = tt
below-without id high (x ∷ xs) below = (let rest = below-without id high xs below.1 in on_bool (x.shard == id)
    (λ q. let here = without-first id x xs q in subst (Each (λ (x : Spot). x.shard < high)) (sym here) below.1)
    (λ q.
    let later = without-next id x xs q in
    subst (Each (λ (x : Spot). x.shard < high)) (sym later) (below.0, rest)))

below-more : (high : ℕ) (z : Spot) (xs : List Spot) → z.shard < high → Each (λ (x : Spot). x.shard < high) xs → Each (λ (x : Spot). x.shard < high) (xs ++ z ∷ [])
below-more high z [] lt below = (lt, tt)
below-more high z (x ∷ xs) lt below = (below.0, below-more high z xs lt below.1)

raise : (low high : ℕ) (xs : List Spot) → low ≤ high → Each (λ (x : Spot). x.shard < low) xs → Each (λ (x : Spot). x.shard < high) xs
raise low high [] le below = tt
raise low high (x ∷ xs) le below = (let lt = below.0 in omega (arith, lt, le), raise low high xs le below.1)

-- with the two children behind the others
pub spots-split : (id : ℕ) (left right : Spot) (xs : List Spot) → Each (λ (x : Spot). x.shard < left.shard) xs → left.shard < right.shard → with_spot right (with_spot left (without id xs)) ≡ without id xs ++ left ∷ right ∷ []
spots-split id left right xs below more =
    let kept = below-without id left.shard xs below in
    let first = with-last left (without id xs) kept in
    let second = with-last right (without id xs ++ left ∷ []) (below-more right.shard left (without id xs) more (raise left.shard right.shard (without id xs) (omega (arith, more)) kept)) in
    ap (with_spot right) first ∙ second ∙ grouped (without id xs)
  where
    grouped : (ys : List Spot) → (ys ++ left ∷ []) ++ right ∷ [] ≡ ys ++ left ∷ right ∷ []
    grouped [] = refl
    grouped (y ∷ ys) = ap (λ (zs : List Spot). y ∷ zs) (grouped ys)

-- the places of that
pub places-split : (id from : ℕ) (left right : Spot) (xs : List Spot) → AscendFrom from (places_of xs) → places_of (without id xs ++ left ∷ right ∷ []) ≡ others id (places_of xs) ++ place left.shard left.worker ∷ place right.shard right.worker ∷ []
places-split id from left right xs ascend =
    map-append (λ (x : Spot). place x.shard x.worker) (without id xs) (left ∷ right ∷ []) ∙ ap (λ (ps : List Place). ps ++ place left.shard left.worker ∷ place right.shard right.worker ∷ []) (without-places id from xs ascend)

-- the worker of the spot that is found
pub spot-worker : (id : ℕ) (xs : List Spot) (spot : Spot) → slice_get xs (place_of id xs) ≡ Some spot → (spot.shard ≡ id) × (worker_of (places_of xs) id ≡ Some spot.worker)
spot-worker id [] spot is = (let no : ◌≡◌ {A = Option Spot} None (Some spot) = is in cc)
spot-worker id (x ∷ xs) spot is = (let later = spot-worker id xs spot in on_bool (x.shard == id)
    (λ q.
    let first : place_of id (x ∷ xs) ≡ 0 = rw q refl in
    let both : ◌≡◌ {A = Option Spot} (Some x) (Some spot) = sym (ap (slice_get (x ∷ xs)) first) ∙ is in
    let its : x ≡ spot = cc in
    (sym (ap (λ (y : Spot). y.shard) its) ∙ eqb-true x.shard id q, rw q (ap (λ (y : Spot). Some y.worker) its)))
    (λ q.
    let next : place_of id (x ∷ xs) ≡ suc (place_of id xs) = rw q (one-more (place_of id xs)) in
    let o = later (sym (ap (slice_get (x ∷ xs)) next) ∙ is) in
    (o.0, rw q o.1)))

-- spots of shards that were made
pub spots-made : (high : ℕ) (xs : List Spot) → ((x : ℕ) → list_any (is_of x) (places_of xs) ≡ true → x < high) → Each (λ (x : Spot). x.shard < high) xs
spots-made high [] made = tt
spots-made high (x ∷ xs) made = (made x.shard (or_left (x.shard == x.shard) (list_any (is_of x.shard) (places_of xs)) (eq-eqb x.shard x.shard refl)), spots-made high xs (λ z is. made z (or_right (x.shard == z) (list_any (is_of z) (places_of xs)) is)))
