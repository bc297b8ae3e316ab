-- A settled answer is the aggregate of all matching rows that were acknowledged.
use Rattle.std.proofs.{Common.{◌≡◌, ℕ, zero, suc, ◌<◌, List, [], ◌∷◌, ◌++◌, Bool, true, false, not, IsTrue, length, refl, sym, ap, subst, arith, ◌==◌, ◌∙◌, inl, inr, map}, lemmas.Bool.{cases_lt, cond_both, eq-eqb, false≢true, or_right}, lemmas.List.Elements.All-contains}
use Rattle.std.specs.{List.{IsDistinct, cons_option, list_any}, Prelude.{Option, Some, None, nat_eq, nat_lt, Contains, filter, filter_map, if◌then◌else◌, option_and_then}}
use Rattle.dim_hierarchy.specs.{Filter.matches, declared.row.Row.Row}
use Rattle.measure_agg.specs.Aggregate.{Aggregate, agg}
use Rattle.row_ledger.specs.{Bounds.{must, may, numbers, IsAllowed}, Past.{Insert, Query, acked_rows, begun, insert_in, insert_at, query_in, query_at, event_at, before, since, failed, failed_in, has_ended, is_kept}, Right.{Site, EachEvent, Stands, IsRight}, Settled.IsSettled, declared.event.Event.Event, declared.event.Event.TheVariants.{Begun, Answered}}
use Rattle.list_words.proofs.Elements.{Contains-nil, Contains-cons_option, Contains-filter, Contains-filtered, IsTrue-filtered}
use Rattle.row_ledger.proofs.{Answering.{IsDistinct-filter, IsAllowed-right}, Ended.{AckedOrFailed, acked-distinct, ended-cases}, Fresh.{event_at-within, kind-within}, Positions.{event_at-here, event_at-older, before-older, before-all, since-inside}, SameRows.agg-same}

-- Rows that have begun.

begun_at-older : (past : List Event) (m s : ℕ) (e : Event) (r : Row) → event_at past r.no ≡ Some (Begun m s r) → event_at (e ∷ past) r.no ≡ Some (Begun m s r)
begun_at-older past m s e r q = event_at-older e past r.no (event_at-within past r.no (λ none. cc)) ∙ q

-- a begun row stands at its number
pub begun-at : (site : Site) (usable : ℕ → Bool) (past : List Event) (r : Row) → EachEvent (Stands site usable) past → Contains (begun past) r → (m : ℕ) × (s : ℕ) × (event_at past r.no ≡ Some (Begun m s r))
begun-at site usable [] r w c = absurd (Contains-nil r c)
begun-at site usable (Begun m s r' ∷ past) r w (zero, b, e) =
    let here : r' ≡ r = e in
    let number : r'.no ≡ length past = w.0 in
    subst (λ (x : Row). (m' : ℕ) × (s' : ℕ) × (event_at (Begun m s r' ∷ past) x.no ≡ Some (Begun m' s' x))) here (m, s, subst (λ k. event_at (Begun m s r' ∷ past) k ≡ Some (Begun m s r')) (sym number) (event_at-here (Begun m s r') past))
begun-at site usable (Begun m s r' ∷ past) r w (suc k, b, e) =
    let f = begun-at site usable past r w.1 (k, omega arith, e) in (f.0, f.1, begun_at-older past f.0 f.1 (Begun m s r') r f.2)
begun-at site usable (e ∷ past) r w c = let f = begun-at site usable past r w.1 c in (f.0, f.1, begun_at-older past f.0 f.1 e r f.2)

-- what events owe they owe before a position
pub EachEvent-past : (P : List Event → Event → Type 0) (past : List Event) (o : ℕ) → EachEvent P past → EachEvent P (before past o)
EachEvent-past P [] o w = tt
EachEvent-past P (e ∷ past) o w = go (EachEvent-past P past o w.1) (nat_lt (length past) o)
  where
    go : EachEvent P (before past o) → (v : Bool) → EachEvent P (if v then e ∷ past else before past o)
    go rest true = w
    go rest false = rest

pub EachEvent-before : (site : Site) (usable : ℕ → Bool) (past : List Event) (o : ℕ) → EachEvent (Stands site usable) past → EachEvent (Stands site usable) (before past o)
EachEvent-before site usable past o each = EachEvent-past (Stands site usable) past o each

-- where none began since, what is begun was so before
begun-before : (past : List Event) (o : ℕ) (r : Row) → o < length past → insert_at past o ≡ None → filter_map insert_in (since past o) ≡ [] → Contains (begun past) r → Contains (begun (before past o)) r
begun-before [] o r b n q c = absurd (omega arith)
begun-before (e ∷ past) o r b n q c = elim (cases_lt o (length past)) [
  | inl d ↦
      let inside : filter_map insert_in (e ∷ since past o) ≡ [] = subst (λ (l : List Event). filter_map insert_in l ≡ []) (since-inside e past o d) q in
      let n' : insert_at past o ≡ None = ap (option_and_then insert_in) (sym (event_at-older e past o d)) ∙ n in
      subst (λ (l : List Event). Contains (begun l) r) (sym (before-older e past o (omega arith)))
      (go (begun-before past o r d n') (insert_in e) inside c)
  | inr d ↦
      let here : o ≡ length past = omega arith in
      let none : insert_in e ≡ None =
      ap (option_and_then insert_in) (sym (event_at-here e past)) ∙ subst (λ k. insert_at (e ∷ past) k ≡ None) here n in
      let c' : Contains (begun past) r = subst (λ (i : Option Insert). Contains (map (λ (i : Insert). i.row) (cons_option i (filter_map insert_in past))) r) none c in
      subst (λ (l : List Event). Contains (begun l) r) (sym (before-older e past o (omega arith) ∙ ap (before past) here ∙ before-all past)) c'
]
  where
    go : (filter_map insert_in (since past o) ≡ [] → Contains (begun past) r → Contains (begun (before past o)) r) → (i : Option Insert) → cons_option i (filter_map insert_in (since past o)) ≡ [] → Contains (map (λ (i : Insert). i.row) (cons_option i (filter_map insert_in past))) r → Contains (begun (before past o)) r
    go rest None q c = rest q c
    go rest (Some i) q c = cc

query_no_insert : (e : Option Event) (q : Query) → option_and_then query_in e ≡ Some q → option_and_then insert_in e ≡ None
query_no_insert None q p = refl
query_no_insert (Some (Begun n s r)) q p = cc
query_no_insert (Some _) q p = refl

-- Failures.

-- what failed before failed
failed-before : (past : List Event) (p n : ℕ) → Contains (failed (before past p)) n → Contains (failed past) n
failed-before [] p n has = has
failed-before (e ∷ past) p n has =
    cond_both (nat_lt (length past) p) (e ∷ past) (before past p) (λ l. Contains (failed l) n → Contains (failed (e ∷ past)) n)
    (λ _. λ has. has)
    (λ _. λ has. Contains-cons_option (failed_in e) (failed past) n (failed-before past p n has)) has

failed-later : (later past : List Event) (n : ℕ) → Contains (failed past) n → Contains (failed (later ++ past)) n
failed-later [] past n has = has
failed-later (e ∷ later) past n has = Contains-cons_option (failed_in e) (failed (later ++ past)) n (failed-later later past n has)

is_failed : (ns : List ℕ) (n : ℕ) → Contains ns n → list_any (λ of. of == n) ns ≡ true
is_failed [] n has = absurd (Contains-nil n has)
is_failed (m ∷ ns) n (zero, within, here) = rw (eq-eqb m n here) refl
is_failed (m ∷ ns) n (suc k, within, here) = or_right (m == n) (list_any (λ of. of == n) ns) (is_failed ns n (k, omega arith, here))

kept-not_failed : (h : List Event) (n : ℕ) → IsTrue (is_kept h n) → Contains (failed h) n → ⊥
kept-not_failed h n kept has = false≢true (ap not (sym (is_failed (failed h) n has)) ∙ kept)

-- what an event of a right history owes, it owes behind its past
pub EachEvent-later : (P : List Event → Event → Type 0) (later past : List Event) → EachEvent P (later ++ past) → EachEvent P past
EachEvent-later P [] past each = each
EachEvent-later P (e ∷ later) past each = EachEvent-later P later past each.1

-- Settled answers.

settled-allowed : (site : Site) (usable : ℕ → Bool) (past : List Event) (of : ℕ) (answer : Aggregate) (query : Query)
    → EachEvent (Stands site usable) past → ((n : ℕ) → IsTrue (usable n) → Contains (failed (before past of)) n → ⊥)
    → query_at past of ≡ Some query → IsSettled site past of query
    → (allowed : IsAllowed site.hierarchy (must site.hierarchy (before past of) query.server) (may usable past) query.filter answer)
    → answer ≡ agg (filter (λ (r : Row). matches site.hierarchy query.filter r.at) (acked_rows (before past of)))
settled-allowed site usable past of answer query each kept asked settled allowed =
    allowed.total ∙ agg-same allowed.rows (filter matching known) allowed.once once into out
  where
    matching : Row → Bool
    matching r = matches site.hierarchy query.filter r.at

    known : List Row
    known = acked_rows (before past of)

    early : EachEvent (Stands site usable) (before past of)
    early = EachEvent-before site usable past of each

    once : IsDistinct nat_eq (numbers (filter matching known))
    once = IsDistinct-filter matching known (acked-distinct site usable (before past of) early)

    out : (r : Row) → Contains (filter matching known) r → Contains allowed.rows r
    out r has =
        let is_known : Contains (must site.hierarchy (before past of) query.server) r =
        All-contains (Contains (must site.hierarchy (before past of) query.server)) known r settled.known (Contains-filtered matching known r has) in
        All-contains (λ r. IsTrue (matching r) → Contains allowed.rows r) (must site.hierarchy (before past of) query.server) r allowed.known is_known
        (IsTrue-filtered matching known r has)

    ended : (r : Row) → Contains (begun (before past of)) r → AckedOrFailed (before past of) r.no r
    ended r has =
        let at = begun-at site usable (before past of) r early has in
        ended-cases site usable (before past of) r.no at.0 at.1 r early at.2
        (All-contains (λ (r : Row). IsTrue (has_ended (before past of) r.no)) (begun (before past of)) r settled.none_open has)

    into : (r : Row) → Contains allowed.rows r → Contains (filter matching known) r
    into r has =
        let may_count : Contains (may usable past) r = All-contains (Contains (may usable past)) allowed.rows r allowed.usable has in
        let inside : of < length past = kind-within query_in past of query asked in
        let has_begun : Contains (begun past) r = Contains-filtered (λ r. usable r.no) (begun past) r may_count in
        let early_row : Contains (begun (before past of)) r =
        begun-before past of r inside (query_no_insert (event_at past of) query asked) settled.none_begun has_begun in
        Contains-filter matching known r
        (elim (ended r early_row) [ inl acked ↦ acked | inr failed ↦ absurd (kept r.no (IsTrue-filtered (λ r. usable r.no) (begun past) r may_count) failed) ])
        (All-contains (λ r. IsTrue (matching r)) allowed.rows r allowed.matching has)

pub settled-is_all : (site : Site) (later past : List Event) (of : ℕ) (answer : Aggregate) (query : Query)
    → IsRight site (later ++ Answered of answer ∷ past) → query_at past of ≡ Some query → IsSettled site past of query
    → answer ≡ agg (filter (λ (r : Row). matches site.hierarchy query.filter r.at) (acked_rows (before past of)))
settled-is_all site later past of answer query right asked settled =
    let h : List Event = later ++ Answered of answer ∷ past in
    let each : EachEvent (Stands site (is_kept h)) (Answered of answer ∷ past) = EachEvent-later (Stands site (is_kept h)) later (Answered of answer ∷ past) right.each in
    settled-allowed site (is_kept h) past of answer query each.1
    (λ n kept has. kept-not_failed h n kept (failed-later later (Answered of answer ∷ past) n (failed-before past of n has)))
    asked settled (IsAllowed-right site (is_kept h) past of answer each.0 query asked)
