-- What the parts of a query have counted when all are done is together a list of rows that its answer may be: each row once, all that
-- it must hold, and none but such as never fail and match its filter.
use Rattle.std.proofs.{Common.{◌≡◌, ◌≢◌, ℕ, ◌^◌, ◌<◌, ◌≤◌, List, [], ◌∷◌, ◌++◌, Bool, true, false, length, map, Some, None, refl, sym, ap, ◌∙◌, subst, arith, inl, inr, ◌==◌, ◌||◌, ◌⊎◌, All, Contains, IsTrue, eq-eqb}, lemmas.Bool.{cases_lt, false_from_ne_true, false≢true}, lemmas.Bool.Decides.nat_tests, lemmas.List.{length-map, map-append}, lemmas.List.Elements.{All-contains, All-contains_itself, All-map, All-weaker, Contains-append_right}, lemmas.List.Folds.list_any-from_Any}
use Rattle.std.specs.{List.{AllByRecursion, IsDistinct, list_any}, Prelude.{nat_eq, if◌then◌else◌}}
use Rattle.cell_stock.proofs.Cells.{length-le_from_distinct}
use Rattle.dim_hierarchy.specs.{Filter.matches, declared.row.Row.Row}
use Rattle.measure_agg.specs.{Aggregate.{Aggregate, agg}, Joining.join}
use Rattle.measure_agg.proofs.AggLaws.{agg-append}
use Rattle.query_router.specs.{Desk.{done_of, is_open, is_placed, is_refused, state_is_placed, state_is_refused, state_is_taken, state_waits, sum_of, verdict_of}, declared.part.Part.Part, declared.part.PartState.PartState}
use Rattle.query_router.specs.declared.part.PartState.TheVariants as state
use Rattle.query_router.specs.declared.part.Verdict.TheVariants as verdict
use Rattle.row_ledger.specs.{Bounds.{IsAllowed, known, may, must, numbers}, Past.{Ack, Query, acked, before, query_at}, Right.{EachEvent, Stands}, declared.event.Event.Event}
use Rattle.row_ledger.proofs.{Answering.All-acked_before, Descent.{comes_from-comparable, live-made}}
use Rattle.list_words.proofs.{Elements.{Contains-map, Contains-nil, Contains-first}, Times.{times-append, same_is, times-contains, contains-times}}
use Rattle.list_words.specs.Counts.{times}
use Rattle.volap_cell.specs.tree_shape.specs.Queries.{fits}
use Rattle.volap_cell.specs.{Desking.{AreLinesApart, AreUnrelated}, Ghost.Ghost, Growing.table_of, Invariant.InvWith, Querying.{HoldsOr, IsCounted, IsEndOfPart, must_hold}, Setting.{Setting, site_in}, View.{View, view}, World.World}
use Rattle.volap_cell.proofs.OneEvent.Known.{known-acked, older-rows}
use Rattle.core_image.proofs.Images.Valid.{acked-placed, placed-number, placed-usable}

-- Verdicts.

-- parts that come to a sum are none that is open, none without memory, and none that is placed
pub verdict-sum : (parts : List Part) (a : Aggregate) → verdict_of parts ≡ Some (verdict.Sum a) → (list_any is_open parts ≡ false) × (list_any is_refused parts ≡ false) × (list_any is_placed parts ≡ false) × (a ≡ sum_of parts)
verdict-sum parts a is = at (list_any is_open parts) refl (list_any is_refused parts) refl (list_any is_placed parts) refl is
  where
    at : (x : Bool) → list_any is_open parts ≡ x → (y : Bool) → list_any is_refused parts ≡ y → (z : Bool) → list_any is_placed parts ≡ z
        → (if x then None else if y then Some verdict.NoMemory else if z then Some verdict.Placed else Some (verdict.Sum (sum_of parts))) ≡ Some (verdict.Sum a)
        → (list_any is_open parts ≡ false) × (list_any is_refused parts ≡ false) × (list_any is_placed parts ≡ false) × (a ≡ sum_of parts)
    at true o y r z p is = absurd (cc)
    at false o true r z p is = absurd (cc)
    at false o false r true p is = absurd (cc)
    at false o false r false p is = (o, r, p, cc)

none-pass : (test : Part → Bool) (parts : List Part) → list_any test parts ≡ false → (p : Part) → Contains parts p → test p ≡ false
none-pass test parts none p has = false_from_ne_true (test p) (λ pass. false≢true (sym none ∙ list_any-from_Any test parts (has.0, p, has.1, has.2, pass)))

-- such a part is done
pub is-done : (st : PartState) → (state_waits st || state_is_taken st) ≡ false → state_is_refused st ≡ false → state_is_placed st ≡ false → (a : Aggregate) × (st ≡ state.Done a)
is-done (state.Waiting wanted) open_ refused placed = absurd (false≢true (sym open_))
is-done state.Taken open_ refused placed = absurd (false≢true (sym open_))
is-done (state.Done a) open_ refused placed = (a, refl)
is-done (state.Placed path) open_ refused placed = absurd (false≢true (sym placed))
is-done state.NoMemory open_ refused placed = absurd (false≢true (sym refused))

-- what is so, or else never
first-of : {P : Type 0} → P ⊎ ⊥ → P
first-of (inl is) = is
first-of (inr never) = absurd never

-- Lists of numbers.

-- what the parts have counted, one after the other
abbrev pub collected : (ℕ → List ℕ) → List Part → List ℕ
collected counted [] = []
collected counted (p ∷ ps) = counted p.shard ++ collected counted ps

in-part : (counted : ℕ → List ℕ) (parts : List Part) (r : ℕ) → 1 ≤ times r (collected counted parts) → (p : Part) × Contains parts p × (1 ≤ times r (counted p.shard))
in-part counted [] r some = absurd (omega (arith, some))
in-part counted (p ∷ ps) r some = elim (cases_lt 0 (times r (counted p.shard))) [
  | inl here ↦ (p, (0, omega arith, refl), omega (arith, here))
  | inr none ↦
      let both = times-append r (counted p.shard) (collected counted ps) in
      let later = in-part counted ps r (omega (arith, some, none, both)) in
      (later.0, Contains-append_right (p ∷ []) ps later.0 later.1, later.2)
]

from-part : (counted : ℕ → List ℕ) (parts : List Part) (p : Part) (r : ℕ) → Contains parts p → 1 ≤ times r (counted p.shard) → 1 ≤ times r (collected counted parts)
from-part counted [] p r has some = absurd (Contains-nil p has)
from-part counted (x ∷ xs) p r has some =
    let both = times-append r (counted x.shard) (collected counted xs) in
    elim (Contains-first x xs p has) [
      | inl here ↦ let first : 1 ≤ times r (counted x.shard) = subst (λ (y : Part). 1 ≤ times r (counted y.shard)) (sym here) some in omega (arith, both, first)
      | inr later ↦ let rest = from-part counted xs p r later some in omega (arith, both, rest)
    ]

-- numbers that are there once each differ

apart-from : (x : ℕ) (ys : List ℕ) → times x ys ≡ 0 → AllByRecursion (λ y. nat_eq x y ≡ false) ys
apart-from x [] none = tt
apart-from x (y ∷ ys) none =
    let ne : x ≢ y = (λ is. let one = same_is x y is in absurd (omega (arith, none, one))) in
    (grind (arith, nat_tests), apart-from x ys (omega (arith, none)))

pub distinct-once : (xs : List ℕ) → ((r : ℕ) → times r xs ≤ 1) → IsDistinct nat_eq xs
unfolding IsDistinct
distinct-once [] once = tt
distinct-once (x ∷ xs) once =
    (apart-from x xs (let one = same_is x x refl in let most = once x in omega (arith, one, most)), distinct-once xs (λ r. let most = once r in omega (arith, most)))

-- rows of their numbers
numbers-same : (row : ℕ → Row) (xs : List ℕ) → ((r : ℕ) → 1 ≤ times r xs → (row r).no ≡ r) → numbers (map row xs) ≡ xs
numbers-same row [] named = refl
numbers-same row (x ∷ xs) named =
    let here : (row x).no ≡ x = named x (let one = same_is x x refl in omega (arith, one)) in
    let rest : numbers (map row xs) ≡ xs = numbers-same row xs (λ r some. named r (omega (arith, some))) in
    λ k. here k ∷ rest k

-- The query.

module _ (s : Setting) (w : World) (g : Ghost) (i : InvWith s (view s w) g) (server of : ℕ) (q : Query) (within : server < s.servers) (op : ((view s w).desks server).op ≡ Some of) (asked : query_at (view s w).history of ≡ Some q)
    (answer : Aggregate) (sum : verdict_of ((view s w).desks server).parts ≡ Some (verdict.Sum answer)) where
  abbrev v : View
  v = view s w

  abbrev h : List Event
  h = v.history

  abbrev parts : List Part
  parts = (v.desks server).parts

  abbrev counted : ℕ → List ℕ
  counted = g.counted server

  each : EachEvent (Stands (site_in s) g.placed) h
  each = i.telling.right.right.each

  come : (list_any is_open parts ≡ false) × (list_any is_refused parts ≡ false) × (list_any is_placed parts ≡ false) × (answer ≡ sum_of parts)
  come = verdict-sum parts answer sum

  pub done : (p : Part) → Contains parts p → (a : Aggregate) × (p.state ≡ state.Done a)
  done p has = is-done p.state (none-pass is_open parts come.0 p has) (none-pass is_refused parts come.1 p has) (none-pass is_placed parts come.2 p has)

  counts : (p : Part) → Contains parts p → IsCounted s h v.row g.placed g.home q p.shard (counted p.shard)
  counts p has = All-contains (λ (x : Part). is_refused x ≡ false → IsCounted s h v.row g.placed g.home q x.shard (counted x.shard)) parts p (i.querying.counts server of q within op asked) has (none-pass is_refused parts come.1 p has)

  -- a part has what it counted, which is all that it had to
  ended : (p : Part) → Contains parts p → (done_of p.state ≡ agg (map v.row (counted p.shard))) × HoldsOr s h v.row g.placed g.home of q p.shard (counted p.shard) (λ r. ⊥)
  ended p has =
      let a = done p has in
      let end = All-contains (λ (x : Part). IsEndOfPart s h v.row g.placed g.home of q x.shard (counted x.shard) x.state) parts p (i.querying.ends server of q within op asked) has in
      let now : IsEndOfPart s h v.row g.placed g.home of q p.shard (counted p.shard) (state.Done a.0) = subst (IsEndOfPart s h v.row g.placed g.home of q p.shard (counted p.shard)) a.1 end in
      (ap done_of a.1 ∙ now.0, now.1)

  under : (r : ℕ) → 1 ≤ times r (collected counted parts) → (g.placed r ≡ true) × (fits (table_of s v.row) q.filter r ≡ true)
  under r some =
      let there = in-part counted parts r some in
      let c = counts there.0 there.1 in
      let u = c.under r there.2 in (u.is_placed, c.fitting r there.2)

  -- two parts of which no shard comes from the other have no row in common
  apart : (p other : Part) → Contains parts p → Contains parts other → AreUnrelated h p other → (r : ℕ) → 1 ≤ times r (counted p.shard) → 1 ≤ times r (counted other.shard) → ⊥
  apart p other a b unrelated r some some_other =
      let cp = counts p a in
      let co = counts other b in
      let u = cp.under r some in
      let x = co.under r some_other in
      let made = live-made (site_in s) g.placed h (g.home r) each (i.placing.stands r u.is_placed) in
      elim (comes_from-comparable (site_in s) g.placed h p.shard other.shard (g.home r) each made u.comes x.comes) [
        | inl below ↦ false≢true (sym unrelated.0 ∙ below)
        | inr below ↦ false≢true (sym unrelated.1 ∙ below)
      ]

  once-of : (ps : List Part) → ((p : Part) → Contains ps p → Contains parts p) → AreLinesApart h ps → (r : ℕ) → times r (collected counted ps) ≤ 1
  once-of [] inside lines r = omega arith
  once-of (p ∷ ps) inside lines r =
      let here : Contains parts p = inside p (0, omega arith, refl) in
      let later : (x : Part) → Contains ps x → Contains parts x = λ x has. inside x (Contains-append_right (p ∷ []) ps x has) in
      let both = times-append r (counted p.shard) (collected counted ps) in
      let c = counts p here in
      let most = c.once r in
      let rest = once-of ps later lines.1 r in
      elim (cases_lt 0 (times r (counted p.shard))) [
        | inl some ↦ elim (cases_lt 0 (times r (collected counted ps))) [
          | inl more ↦
              let other = in-part counted ps r (omega (arith, more)) in
              absurd (apart p other.0 here (later other.0 other.1) (All-contains (AreUnrelated h p) ps other.0 lines.0 other.1) r (omega (arith, some)) other.2)
          | inr none ↦ omega (arith, both, most, none)
        ]
        | inr none ↦ omega (arith, both, rest, none)
      ]

  once : (r : ℕ) → times r (collected counted parts) ≤ 1
  once r = (let desk = i.desking.query server of q within op asked in once-of parts (λ p has. has) desk.1 r)

  abbrev rows : List Row
  rows = map v.row (collected counted parts)

  same : numbers rows ≡ collected counted parts
  same = numbers-same v.row (collected counted parts) (λ r some. placed-number s w g i r (under r some).0)

  total-of : (ps : List Part) → ((p : Part) → Contains ps p → Contains parts p) → sum_of ps ≡ agg (map v.row (collected counted ps))
  total-of [] inside = refl
  total-of (p ∷ ps) inside =
      let first = (ended p (inside p (0, omega arith, refl))).0 in
      let rest = total-of ps (λ x has. inside x (Contains-append_right (p ∷ []) ps x has)) in
      (λ k. join (first k) (rest k)) ∙ sym (agg-append (map v.row (counted p.shard)) (map v.row (collected counted ps))) ∙ ap agg (sym (map-append v.row (counted p.shard) (collected counted ps)))

  total : answer ≡ agg rows
  total = come.3 ∙ total-of parts (λ p has. has)

  of-rows : (P : Row → Type 0) → ((r : ℕ) → 1 ≤ times r (collected counted parts) → P (v.row r)) → All P rows
  of-rows P f = All-map P v.row (collected counted parts)
      (All-weaker (Contains (collected counted parts)) (λ (r : ℕ). P (v.row r)) (λ r has. f r (contains-times r (collected counted parts) has)) (collected counted parts) (All-contains_itself (collected counted parts)))

  -- a row that the query must hold and that its filter matches is there
  holds : (k : Ack) → Contains (known s.hierarchy (before h of) q.server) k → IsTrue (matches s.hierarchy q.filter k.row.at) → Contains rows k.row
  holds k has match =
      let had : Contains (acked (before h of)) k = known-acked s.hierarchy (before h of) q.server k has in
      let now : Contains (acked h) k = All-contains (Contains (acked h)) (acked (before h of)) k (All-acked_before (Contains (acked h)) h of (All-contains_itself (acked h))) had in
      let placed = acked-placed s w g i k now in
      let r : ℕ = k.row.no in
      let must_ : must_hold s.hierarchy h of q r ≡ true =
      let c = Contains-map (λ (x : Ack). x.row) (known s.hierarchy (before h of) q.server) k has in
      list_any-from_Any (λ (x : Row). x.no == r) (must s.hierarchy (before h of) q.server) (c.0, k.row, c.1, c.2, eq-eqb r r refl) in
      let fit : fits (table_of s v.row) q.filter r ≡ true = ap (λ (x : Row). matches s.hierarchy q.filter x.at) placed.1 ∙ match in
      let found = i.querying.whole server of q within op asked r must_ fit in
      let there : Contains parts found.1 = (found.0, found.2, found.3) in
      let some : 1 ≤ times r (counted found.1.shard) = first-of ((ended found.1 there).1 r must_ fit found.4) in
      subst (Contains rows) placed.1 (Contains-map v.row (collected counted parts) r (times-contains r (collected counted parts) (from-part counted parts found.1 r there some)))

  pub allowed : IsAllowed s.hierarchy (must s.hierarchy (before h of) q.server) (may g.placed h) q.filter answer
  allowed = record {
    rows = rows;
    once = subst (IsDistinct nat_eq) (sym same) (distinct-once (collected counted parts) once);
    known = All-map (λ (r : Row). IsTrue (matches s.hierarchy q.filter r.at) → Contains rows r) (λ (k : Ack). k.row) (known s.hierarchy (before h of) q.server)
        (All-weaker (Contains (known s.hierarchy (before h of) q.server)) (λ (k : Ack). IsTrue (matches s.hierarchy q.filter k.row.at) → Contains rows k.row) holds
        (known s.hierarchy (before h of) q.server) (All-contains_itself (known s.hierarchy (before h of) q.server)));
    usable = of-rows (Contains (may g.placed h)) (λ r some. placed-usable s w g i r (under r some).0);
    matching = of-rows (λ (r : Row). IsTrue (matches s.hierarchy q.filter r.at)) (λ r some. (under r some).1);
    total = total;
  }

  -- there are fewer of them than events
  pub few : (sum_of parts).count < 2 ^ 63
  few =
      let older = older-rows s h i.placing in
      let below : All (λ (r : ℕ). r < length h) (collected counted parts) = All-weaker (Contains (collected counted parts)) (λ (r : ℕ). r < length h)
      (λ r has. older.placed_rows r (under r (contains-times r (collected counted parts) has)).0) (collected counted parts) (All-contains_itself (collected counted parts)) in
      let long = length-le_from_distinct (collected counted parts) (length h) (distinct-once (collected counted parts) once) below in
      let count : (sum_of parts).count ≡ length rows = ap (λ (a : Aggregate). a.count) (total-of parts (λ p has. has)) in
      let mapped : length rows ≡ length (collected counted parts) = length-map (collected counted parts) v.row in
      let most = i.owing.few in
      omega (arith, long, count, mapped, most)
