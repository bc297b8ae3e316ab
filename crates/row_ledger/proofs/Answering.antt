-- A flat list of rows answers rightly, and is kept by whole commands.
use Rattle.std.proofs.{Common.{◌≡◌, ℕ, ◌<◌, List, [], ◌∷◌, ◌++◌, Bool, false, IsTrue, length, refl, subst, arith, ◌==◌}, lemmas.Bool.cond_both, lemmas.Bool.Decides.nat_tests, lemmas.List.Elements.{All-nil, All-cons, All-append, All-contains_itself, Contains-append_right, All-head, All-tail, All-filter, All-map, All-weaker, filter_passes}}
use Rattle.std.specs.{List.{IsDistinct, AllByRecursion}, Option.option_map_or, Prelude.{Option, Some, None, if◌then◌else◌, nat_lt, nat_eq, All, Contains, filter}}
use Rattle.dim_hierarchy.specs.{Dimension.Dimension, Filter.matches, declared.filter.Pick.Pick, declared.row.Row.Row}
use Rattle.measure_agg.specs.Aggregate.{Aggregate, agg}
use Rattle.row_ledger.specs.{Bounds.{own, published, passed, listing_of, is_listed, listed, known, must, may, numbers, IsAllowed}, Kept.{CanAnswer, KeepsRight}, Past.{Ack, Query, Pull, begun, before, query_at, ack_in, pull_in, acked, has_ended}, Right.{Site, EachEvent, Stands, IsRightAnswer}, Shards.is_path, declared.event.Event.Event, declared.event.Event.TheVariants.{Begun, Acked, Asked, Answered}}
use Rattle.list_words.proofs.Elements.{All-cons_option, Contains-filter, Contains-filtered}
use Rattle.row_ledger.proofs.{Fresh.{fresh, begun-within}, Growth.{KeepsRight-begun, KeepsRight-acked, KeepsRight-asked, KeepsRight-answered}, Older.{may-older, is_path-older}, Positions.event_at-here}

apart-filter : (number : ℕ) (test : Row → Bool) (rows : List Row)
    → AllByRecursion (λ other. nat_eq number other ≡ false) (numbers rows)
    → AllByRecursion (λ other. nat_eq number other ≡ false) (numbers (filter test rows))
apart-filter number test [] apart = apart
apart-filter number test (r ∷ rows) apart =
    let rest = apart-filter number test rows apart.1 in
    cond_both (test r) (r ∷ filter test rows) (filter test rows) (λ kept. AllByRecursion (λ other. nat_eq number other ≡ false) (numbers kept))
    (λ _. (apart.0, rest))
    (λ _. rest)

pub IsDistinct-filter : (test : Row → Bool) (rows : List Row) → IsDistinct nat_eq (numbers rows) → IsDistinct nat_eq (numbers (filter test rows))
unfolding IsDistinct
IsDistinct-filter test [] once = once
IsDistinct-filter test (r ∷ rows) once =
    let rest : IsDistinct nat_eq (numbers (filter test rows)) = IsDistinct-filter test rows once.1 in
    cond_both (test r) (r ∷ filter test rows) (filter test rows) (λ kept. IsDistinct nat_eq (numbers kept))
    (λ _. (apart-filter r.no test rows once.0, rest))
    (λ _. rest)

-- what holds of all that was acknowledged holds of what was before a position
pub All-acked_before : (P : Ack → Type 0) (past : List Event) (of : ℕ) → All P (acked past) → All P (acked (before past of))
All-acked_before P [] of all = all
All-acked_before P (e ∷ past) of all =
    cond_both (nat_lt (length past) of) (e ∷ past) (before past of) (λ earlier. All P (acked earlier))
    (λ _. all)
    (λ _. All-acked_before P past of (All-cons_option P (ack_in past e) (acked past) all))

-- and what holds of all that was acknowledged holds of what a server must know

All-own : (P : Ack → Type 0) (past : List Event) (server : ℕ) → All P (acked past) → All P (own past server)
All-own P past server all = All-filter (λ (a : Ack). a.server == server) P (acked past) all

pub All-published : (P : Ack → Type 0) (past : List Event) → All P (acked past) → All P (published past)
All-published P [] all = All-nil P
All-published P (e ∷ past) all =
    let older : All P (acked past) = All-cons_option P (ack_in past e) (acked past) all in
    All-append P (told (pull_in e)) (published past) (here (pull_in e) older) (All-published P past older)
  where
    told : Option Pull → List Ack
    told o = option_map_or (λ (p : Pull). own past p.server) o []

    here : (o : Option Pull) → All P (acked past) → All P (told o)
    here None older = All-nil P
    here (Some p) older = All-own P past p.server older

All-passed : (P : Ack → Type 0) (past : List Event) (server : ℕ) → All P (acked past) → All P (passed past server)
All-passed P [] server all = All-nil P
All-passed P (e ∷ past) server all =
    let older : All P (acked past) = All-cons_option P (ack_in past e) (acked past) all in
    All-append P (told (pull_in e)) (passed past server) (here (pull_in e) older) (All-passed P past server older)
  where
    told : Option Pull → List Ack
    told o = option_map_or (λ (p : Pull). if p.server == server then published past else []) o []

    here : (o : Option Pull) → All P (acked past) → All P (told o)
    here None older = All-nil P
    here (Some p) older = cond_both (p.server == server) (published past) [] (All P) (λ _. All-published P past older) (λ _. All-nil P)

pub All-known : (P : Ack → Type 0) (h : List Dimension) (past : List Event) (server : ℕ) → All P (acked past) → All P (known h past server)
All-known P h past server all =
    All-append P (own past server ++ passed past server) (listed h past server)
    (All-append P (own past server) (passed past server) (All-own P past server all) (All-passed P past server all))
    (All-filter (is_listed h (listing_of past server)) P (acked past) all)

pub IsAllowed-flat : (h : List Dimension) (usable : ℕ → Bool) (past : List Event) (rows : List Row) → CanAnswer usable past rows → (of server : ℕ) (filter_ : List Pick)
    → IsAllowed h (must h (before past of) server) (may usable past) filter_ (agg (filter (λ r. matches h filter_ r.at) rows))
IsAllowed-flat h usable past rows can of server filter_ = record {
  rows = filter test rows;
  once = IsDistinct-filter test rows can.once;
  known = All-map IsCounted (λ (a : Ack). a.row) (known h (before past of) server)
      (All-known (λ (a : Ack). IsCounted a.row) h (before past of) server
      (All-acked_before (λ (a : Ack). IsCounted a.row) past of counted));
  usable = All-filter test (Contains (may usable past)) rows can.allowed;
  matching = filter_passes test rows;
  total = refl;
}
  where
    test : Row → Bool
    test r = matches h filter_ r.at

    IsCounted : Row → Type 0
    IsCounted r = IsTrue (test r) → Contains (filter test rows) r

    counted : All (λ (a : Ack). IsCounted a.row) (acked past)
    counted = All-weaker (λ (a : Ack). Contains rows a.row) (λ (a : Ack). IsCounted a.row)
        (λ a has. Contains-filter test rows a.row has) (acked past) can.known

pub IsRightAnswer-flat : (site : Site) (usable : ℕ → Bool) (past : List Event) (rows : List Row) → CanAnswer usable past rows
    → (of : ℕ) (query : Query) → query_at past of ≡ Some query → has_ended past of ≡ false
    → IsRightAnswer site usable past of (agg (filter (λ r. matches site.hierarchy query.filter r.at) rows))
IsRightAnswer-flat site usable past rows can of query asked is_open = record {
  query = query;
  asked = asked;
  is_open = is_open;
  allowed = IsAllowed-flat site.hierarchy usable past rows can of query.server query.filter;
}

-- a right answer is allowed for the query that it answers
pub IsAllowed-right : (site : Site) (usable : ℕ → Bool) (past : List Event) (of : ℕ) (answer : Aggregate) → IsRightAnswer site usable past of answer
    → (query : Query) → query_at past of ≡ Some query → IsAllowed site.hierarchy (must site.hierarchy (before past of) query.server) (may usable past) query.filter answer
IsAllowed-right site usable past of answer right query asked =
    let found : query_at past of ≡ Some right.query = right.asked in
    let same : right.query ≡ query = cc in
    subst (λ (q : Query). IsAllowed site.hierarchy (must site.hierarchy (before past of) q.server) (may usable past) q.filter answer) same right.allowed

-- How such a list grows with the history.

pub CanAnswer-nil : (usable : ℕ → Bool) → CanAnswer usable [] []
unfolding IsDistinct
CanAnswer-nil usable = record { once = tt; allowed = All-nil (Contains (may usable [])); known = All-nil (λ (a : Ack). Contains [] a.row) }

-- behind an event that acknowledges nothing the same rows can answer
pub CanAnswer-older : (usable : ℕ → Bool) (e : Event) (past : List Event) (rows : List Row)
    → CanAnswer usable past rows → acked (e ∷ past) ≡ acked past → CanAnswer usable (e ∷ past) rows
CanAnswer-older usable e past rows can same = record {
  once = can.once;
  allowed = All-weaker (Contains (may usable past)) (Contains (may usable (e ∷ past))) (may-older usable e past) rows can.allowed;
  known = rw same can.known;
}

-- a number above those of all rows is none of them
apart-above : (number : ℕ) (rows : List Row) → All (λ r. r.no < number) rows → AllByRecursion (λ other. nat_eq number other ≡ false) (numbers rows)
apart-above number [] below = tt
apart-above number (r ∷ rows) below =
    let first : r.no < number = All-head (λ (r : Row). r.no < number) r rows below in (
      grind (arith, nat_tests),
      apart-above number rows (All-tail (λ (r : Row). r.no < number) r rows below),
    )

pub distinct-above : (row : Row) (rows : List Row) → All (λ r. r.no < row.no) rows → IsDistinct nat_eq (numbers rows) → IsDistinct nat_eq (numbers (row ∷ rows))
unfolding IsDistinct
distinct-above row rows below once = (apart-above row.no rows below, once)

-- no row begins twice
pub begun-distinct : (site : Site) (usable : ℕ → Bool) (past : List Event) → EachEvent (Stands site usable) past → IsDistinct nat_eq (numbers (begun past))
unfolding IsDistinct
begun-distinct site usable [] each = tt
begun-distinct site usable (Begun session server row ∷ past) each =
    let numbered : row.no ≡ length past = each.0 in
    let below : All (λ r. r.no < row.no) (begun past) =
    All-weaker (Contains (begun past)) (λ r. r.no < row.no) (λ r has. rw numbered (begun-within site usable past each.1 r has)) (begun past) (All-contains_itself (begun past)) in
    distinct-above row (begun past) below (begun-distinct site usable past each.1)
begun-distinct site usable (_ ∷ past) each = begun-distinct site usable past each.1

-- behind an insert its own row and these can
pub CanAnswer-insert : (site : Site) (placed : ℕ → Bool) (h : List Event) (rows : List Row) (session server : ℕ) (row : Row) (path : List ℕ)
    → KeepsRight site placed h → CanAnswer placed h rows → row.no ≡ length h → IsTrue (placed row.no)
    → CanAnswer placed (Acked (length h) path ∷ Begun session server row ∷ h) (row ∷ rows)
CanAnswer-insert site placed h rows session server row path keeps can numbered is_placed =
    let inserting = Begun session server row ∷ h in
    let older : (r : Row) → Contains (may placed h) r → r.no < row.no =
    λ r has. rw numbered (begun-within site placed h keeps.right.each r (Contains-filtered (λ r. placed r.no) (begun h) r has)) in
    let below : All (λ r. r.no < row.no) rows = All-weaker (Contains (may placed h)) (λ r. r.no < row.no) older rows can.allowed in
    let new : Contains (may placed inserting) row = rw is_placed (0, omega arith, refl) in
    record {
      once = distinct-above row rows below can.once;
      allowed = All-cons (Contains (may placed inserting)) row rows new (CanAnswer-older placed (Begun session server row) h rows can refl).allowed;
      known = rw event_at-here
          (All-cons (λ (a : Ack). Contains (row ∷ rows) a.row) (record { server = server; row = row; path = path }) (acked h) (0, omega arith, refl)
          (All-weaker (λ (a : Ack). Contains rows a.row) (λ (a : Ack). Contains (row ∷ rows) a.row)
          (λ a has. Contains-append_right (row ∷ []) rows a.row has) (acked h) can.known));
    }

-- Whole commands, the end right behind the beginning.

pub KeepsRight-insert : (site : Site) (placed : ℕ → Bool) (h : List Event) (session server : ℕ) (row : Row) (path : List ℕ)
    → KeepsRight site placed h → row.no ≡ length h → IsTrue (is_path h server path)
    → KeepsRight site placed (Acked (length h) path ∷ Begun session server row ∷ h)
KeepsRight-insert site placed h session server row path keeps numbered descends =
    KeepsRight-acked site placed (Begun session server row ∷ h) (length h) path
    (KeepsRight-begun site placed h session server row keeps numbered)
    (record {
      insert = record { server = server; row = row };
      begun = rw event_at-here refl;
      is_open = fresh site placed h keeps.right.each (length h) (omega arith);
      descends = is_path-older (Begun session server row) h server path descends;
    })

pub KeepsRight-query : (site : Site) (placed : ℕ → Bool) (h : List Event) (session server : ℕ) (filter_ : List Pick) (rows : List Row) (answer : Aggregate)
    → KeepsRight site placed h → CanAnswer placed h rows → answer ≡ agg (filter (λ r. matches site.hierarchy filter_ r.at) rows)
    → KeepsRight site placed (Answered (length h) answer ∷ Asked session server filter_ ∷ h)
KeepsRight-query site placed h session server filter_ rows answer keeps can total =
    KeepsRight-answered site placed (Asked session server filter_ ∷ h) (length h) answer
    (KeepsRight-asked site placed h session server filter_ keeps)
    (rw total (IsRightAnswer-flat site placed (Asked session server filter_ ∷ h) rows
    (CanAnswer-older placed (Asked session server filter_) h rows can refl)
    (length h) (record { server = server; filter = filter_ })
    (rw event_at-here refl)
    (fresh site placed h keeps.right.each (length h) (omega arith))))
