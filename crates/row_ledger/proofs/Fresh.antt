-- No event names a command that begins behind it.
use Rattle.std.proofs.{Common.{◌≡◌, ◌≢◌, ℕ, zero, suc, ◌≤◌, ◌<◌, List, [], ◌∷◌, Bool, true, false, length, refl, ap, arith, ◌==◌, inl, inr}, lemmas.Bool.{cases_lt, false≢true, or_parts, or_from}, lemmas.Bool.Decides.nat_tests}
use Rattle.std.specs.Prelude.{Option, Some, None, Contains, option_and_then}
use Rattle.dim_hierarchy.specs.declared.row.Row.{Row}
use Rattle.measure_agg.specs.Aggregate.{Aggregate}
use Rattle.row_ledger.specs.{Past.{insert_in, query_in, call_in, event_at, is_end_of, has_ended, is_work_of, work, page_in, page_of, begun, is_kept}, Right.{Site, EachEvent, IsRightAck, IsRightAnswer, IsRightFailure, Stands}, declared.event.Event.Event, declared.event.Event.TheVariants.{Begun, Acked, Answered, Failed, Split, Moved, Left, Shown, Ended}}
use Rattle.row_ledger.proofs.Positions.{event_at-past}

-- where an event stands is within the past
pub event_at-within : (past : List Event) (of : ℕ) → event_at past of ≢ None → of < length past
event_at-within past of some = elim (cases_lt of (length past)) [ inl before ↦ before | inr beyond ↦ absurd (some (event_at-past past of beyond)) ]

-- where an event of some kind stands is
pub kind-within : {X : Type 0} (kind : Event → Option X) (past : List Event) (of : ℕ) (x : X)
    → option_and_then kind (event_at past of) ≡ Some x → of < length past
kind-within {X} kind past of x found = event_at-within past of (λ none.
    let nothing : option_and_then kind (event_at past of) ≡ None = rw none refl in
    cc)

IsRightAck-within : (past : List Event) (of : ℕ) (path : List ℕ) → IsRightAck past of path → of < length past
IsRightAck-within past of path right = kind-within insert_in past of right.insert right.begun

IsRightAnswer-within : (site : Site) (usable : ℕ → Bool) (past : List Event) (of : ℕ) (answer : Aggregate)
    → IsRightAnswer site usable past of answer → of < length past
IsRightAnswer-within site usable past of answer right = kind-within query_in past of right.query right.asked

IsRightFailure-within : (past : List Event) (of : ℕ) → IsRightFailure past of → of < length past
IsRightFailure-within past of right = event_at-within past of (λ none. false≢true (rw none at right.begun))

-- Ends.

is_end_of-fresh : (site : Site) (usable : ℕ → Bool) (past : List Event) (e : Event)
    → Stands site usable past e → (p : ℕ) → length past ≤ p → is_end_of p e ≡ false
is_end_of-fresh site usable past (Acked of path) right p beyond =
    let within : of < length past = IsRightAck-within past of path right in grind (arith, nat_tests)
is_end_of-fresh site usable past (Answered of answer) right p beyond =
    let within : of < length past = IsRightAnswer-within site usable past of answer right in grind (arith, nat_tests)
is_end_of-fresh site usable past (Failed of) right p beyond =
    let within : of < length past = IsRightFailure-within past of right in grind (arith, nat_tests)
is_end_of-fresh site usable past (Ended of how) right p beyond =
    let within : of < length past = kind-within call_in past of right.call right.called in grind (arith, nat_tests)
is_end_of-fresh site usable past _ right p beyond = refl

-- nothing ends a command that begins behind it
pub fresh : (site : Site) (usable : ℕ → Bool) (h : List Event) → EachEvent (Stands site usable) h → (p : ℕ) → length h ≤ p → has_ended h p ≡ false
fresh site usable [] each p beyond = refl
fresh site usable (e ∷ past) each p beyond =
    or_from (is_end_of p e) (has_ended past p)
    (is_end_of-fresh site usable past e each.0 p (omega arith))
    (fresh site usable past each.1 p (omega arith))

pub fresh-newest : (site : Site) (usable : ℕ → Bool) (e : Event) (past : List Event) → EachEvent (Stands site usable) (e ∷ past)
    → (p : ℕ) → length past ≤ p → has_ended (e ∷ past) p ≡ false
fresh-newest site usable e past each p beyond =
    or_from (is_end_of p e) (has_ended past p) (is_end_of-fresh site usable past e each.0 p beyond) (fresh site usable past each.1 p beyond)

-- Pages.

page_in-fresh : (site : Site) (usable : ℕ → Bool) (past : List Event) (e : Event)
    → Stands site usable past e → (p : ℕ) → length past ≤ p → page_in p e ≡ None
page_in-fresh site usable past (Shown of page) right p beyond =
    let within : of < length past = kind-within call_in past of right.call right.called in grind (arith, nat_tests)
page_in-fresh site usable past _ right p beyond = refl

-- no page is shown for one
pub pageless : (site : Site) (usable : ℕ → Bool) (h : List Event) → EachEvent (Stands site usable) h → (p : ℕ) → length h ≤ p → page_of h p ≡ None
pageless site usable [] each p beyond = refl
pageless site usable (e ∷ past) each p beyond =
    rw (page_in-fresh site usable past e each.0 p (omega arith))
    (pageless site usable past each.1 p (omega arith))

-- Work.

is_work_of-fresh : (site : Site) (usable : ℕ → Bool) (past : List Event) (e : Event)
    → Stands site usable past e → (p : ℕ) → length past ≤ p → is_work_of p e ≡ false
is_work_of-fresh site usable past (Split of shard left right) is_right p beyond =
    let within : of < length past = kind-within call_in past of is_right.done.call is_right.done.called in grind (arith, nat_tests)
is_work_of-fresh site usable past (Moved of shard worker) is_right p beyond =
    let within : of < length past = kind-within call_in past of is_right.call is_right.called in grind (arith, nat_tests)
is_work_of-fresh site usable past (Left of shard how) is_right p beyond =
    let within : of < length past = kind-within call_in past of is_right.call is_right.called in grind (arith, nat_tests)
is_work_of-fresh site usable past _ is_right p beyond = refl

-- nor is work done for one
pub workless : (site : Site) (usable : ℕ → Bool) (h : List Event) → EachEvent (Stands site usable) h → (p : ℕ) → length h ≤ p → work h p ≡ []
workless site usable [] each p beyond = refl
workless site usable (e ∷ past) each p beyond =
    rw (is_work_of-fresh site usable past e each.0 p (omega arith))
    (workless site usable past each.1 p (omega arith))

-- Rows.

-- no row has begun there
pub begun-within : (site : Site) (usable : ℕ → Bool) (h : List Event) → EachEvent (Stands site usable) h → (r : Row) → Contains (begun h) r → r.no < length h
begun-within site usable [] each r has = absurd (omega arith)
begun-within site usable (Begun session server row ∷ past) each r (zero, within, here) =
    let numbered : row.no ≡ length past = each.0 in omega (arith, ap (λ (r : Row). r.no) here)
begun-within site usable (Begun session server row ∷ past) each r (suc k, within, here) =
    let older : r.no < length past = begun-within site usable past each.1 r (k, omega arith, here) in omega arith
begun-within site usable (_ ∷ past) each r has =
    let older : r.no < length past = begun-within site usable past each.1 r has in omega arith

-- a row whose insert hasn't ended is kept
pub is_kept-open : (h : List Event) (p : ℕ) → has_ended h p ≡ false → is_kept h p ≡ true
is_kept-open [] p is_open = refl
is_kept-open (Failed of ∷ past) p is_open =
    let parts = or_parts (of == p) (has_ended past p) is_open in rw parts.0 (is_kept-open past p parts.1)
is_kept-open (e ∷ past) p is_open = is_kept-open past p (or_parts (is_end_of p e) (has_ended past p) is_open).1
