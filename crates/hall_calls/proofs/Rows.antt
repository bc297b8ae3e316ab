-- A session's own rows stay in a history, and its answers count them.
use Rattle.std.proofs.{Common.{◌≡◌, ◌∙◌, ℕ, ◌+◌, ◌<◌, ◌≤◌, Bool, true, false, IsTrue, List, [], ◌∷◌, ◌++◌, length, refl, sym, ap, subst, arith, ◌==◌}, lemmas.Bool.eq-eqb, lemmas.List.Elements.{All-cons, All-contains, All-nil, All-weaker, Contains-append_left}}
use Rattle.std.specs.{List.{IsDistinct, cons_option}, Prelude.{Option, Some, Contains, option_and_then, option_map, if◌then◌else◌}}
use Rattle.dim_hierarchy.specs.{Dimension.Dimension, Filter.{IsFilterNamed, matches}, declared.filter.{NamePick.NamePick, Pick.Pick}, declared.row.Row.Row}
use Rattle.measure_agg.specs.Aggregate.{Aggregate}
use Rattle.list_words.proofs.Elements.{Contains-filter, Contains-map, Some-same}
use Rattle.row_ledger.proofs.{Answering.distinct-above, Before.{at-later, before-behind}, Fresh.event_at-within, Older.acked-older, Positions.before-older}
use Rattle.row_ledger.specs.{Bounds.{known, listed, must, own, passed}, Past.{Ack, Query, ack_of, acked, before, event_at, insert_at, insert_in, query_at, query_in}, Right.{IsRight, Site}, declared.event.Event.Event, declared.event.Event.TheVariants.{Acked, Answered, Asked, Begun}}
use Rattle.hall_calls.specs.Rows.{AreOwn, Counts, IsOwnRow, Teller}

-- Rows.

acked-later : (newer past : List Event) (a : Ack) → Contains (acked past) a → Contains (acked (newer ++ past)) a
acked-later [] past a has = has
acked-later (x ∷ newer) past a has = acked-older x (newer ++ past) a (acked-later newer past a has)

pub own-later : (t : Teller) (newer past : List Event) (r : Row) → IsOwnRow t past r → IsOwnRow t (newer ++ past) r
own-later t newer past r is = record {
  begun = at-later newer past r.no (Begun t.number t.server r) is.begun;
  path = is.path;
  is_acked = acked-later newer past (record { server = t.server; row = r; path = is.path }) is.is_acked;
}

pub are-own-later : (t : Teller) (newer past : List Event) (n : ℕ) (rows : List Row) → AreOwn t past n rows → AreOwn t (newer ++ past) n rows
are-own-later t newer past n rows are = record { count_is = are.count_is; own = All-weaker (IsOwnRow t past) (IsOwnRow t (newer ++ past)) (own-later t newer past) rows are.own; once = are.once }

-- what stands at a position in front of which the newest event is another one
behind-acked : (of p : ℕ) (path : List ℕ) (older : List Event) (m s : ℕ) (r : Row) → event_at (Acked of path ∷ older) p ≡ Some (Begun m s r) → event_at older p ≡ Some (Begun m s r)
behind-acked of p path older m s r at = go (p == length older) (event_at older p) at
  where
    go : (t : Bool) (o : Option Event) → (if t then Some (Acked of path) else o) ≡ Some (Begun m s r) → o ≡ Some (Begun m s r)
    go true o is = cc
    go false o is = is

behind-answered : (of p : ℕ) (answer : Aggregate) (older : List Event) (m s : ℕ) (f : List Pick) → event_at (Answered of answer ∷ older) p ≡ Some (Asked m s f) → event_at older p ≡ Some (Asked m s f)
behind-answered of p answer older m s f at = go (p == length older) (event_at older p) at
  where
    go : (t : Bool) (o : Option Event) → (if t then Some (Answered of answer) else o) ≡ Some (Asked m s f) → o ≡ Some (Asked m s f)
    go true o is = cc
    go false o is = is

-- a row whose acknowledgement is the newest event
pub own-newest : (t : Teller) (older : List Event) (r : Row) (path : List ℕ) → event_at (Acked r.no path ∷ older) r.no ≡ Some (Begun t.number t.server r) → IsOwnRow t (Acked r.no path ∷ older) r
own-newest t older r path at =
    let there : event_at older r.no ≡ Some (Begun t.number t.server r) = behind-acked r.no r.no path older t.number t.server r at in
    let its : insert_at older r.no ≡ Some (record { server = t.server; row = r }) = ap (option_and_then insert_in) there in
    record {
      begun = at;
      path = path;
      is_acked = subst (λ o. Contains (cons_option (option_map (ack_of path) o) (acked older)) (record { server = t.server; row = r; path = path })) (sym its) (0, omega arith, refl);
    }

pub no-own : (t : Teller) (history : List Event) → AreOwn t history 0 []
unfolding IsDistinct
no-own t history = record { count_is = refl; own = All-nil (IsOwnRow t history); once = tt }

pub one-more : (t : Teller) (newer past : List Event) (n : ℕ) (rows : List Row) (r : Row) → AreOwn t past n rows → IsOwnRow t (newer ++ past) r → length past ≤ r.no
    → AreOwn t (newer ++ past) (n + 1) (r ∷ rows)
one-more t newer past n rows r are is late =
    let later = are-own-later t newer past n rows are in
    record {
      count_is = omega (arith, are.count_is);
      own = All-cons (IsOwnRow t (newer ++ past)) r rows is later.own;
      once = distinct-above r rows (All-weaker (IsOwnRow t past) (λ x. x.no < r.no) (λ x own. (let within : x.no < length past = event_at-within past x.no (λ none. cc) in omega (arith, within, late))) rows are.own) are.once;
    }

-- Answers.

must-own : (h : List Dimension) (t : Teller) (past : List Event) (r : Row) → IsOwnRow t past r → Contains (must h past t.server) r
must-own h t past r is =
    let a : Ack = record { server = t.server; row = r; path = is.path } in
    let mine : Contains (own past t.server) a = Contains-filter (λ (b : Ack). b.server == t.server) (acked past) a is.is_acked (eq-eqb t.server t.server refl) in
    Contains-map (λ (b : Ack). b.row) (known h past t.server) a
    (Contains-append_left (own past t.server ++ passed past t.server) (listed h past t.server) a
    (Contains-append_left (own past t.server) (passed past t.server) a mine))

-- an answer counts the rows that the session had as its own before it asked
pub counts-own : (site : Site) (t : Teller) (newer was past : List Event) (of : ℕ) (answer : Aggregate) (names : List NamePick) (filter : List Pick) (n : ℕ) (rows : List Row)
    → IsRight site (Answered of answer ∷ past) → Answered of answer ∷ past ≡ newer ++ was → event_at (Answered of answer ∷ past) of ≡ Some (Asked t.number t.server filter) → length was ≤ of
    → IsFilterNamed site.hierarchy names filter → AreOwn t was n rows → Counts site.hierarchy names rows answer
counts-own site t newer was past of answer names filter n rows right split at late named are =
    let h = site.hierarchy in
    let stands = right.each.0 in
    let asked_at : event_at past of ≡ Some (Asked t.number t.server filter) = behind-answered of of answer past t.number t.server filter at in
    let asks : query_at past of ≡ Some (record { server = t.server; filter = filter }) = ap (option_and_then query_in) asked_at in
    let query : stands.query ≡ record { server = t.server; filter = filter } = Some-same (record { server = t.server; filter = filter }) stands.query (sym asks ∙ stands.asked) in
    let within : of < length past = event_at-within past of (λ none. cc) in
    let early = before-behind newer was of late in
    let early_is : before past of ≡ early.0 ++ was = sym (before-older (Answered of answer) past of (omega (arith, within))) ∙ ap (λ l. before l of) split ∙ early.1 in
    let allowed = stands.allowed in
    let must_is : must h (before past of) stands.query.server ≡ must h (early.0 ++ was) t.server = ap (λ l. must h l stands.query.server) early_is ∙ ap (λ (q : Query). must h (early.0 ++ was) q.server) query in
    let before_all = All-weaker (IsOwnRow t was) (Contains (must h (early.0 ++ was) t.server)) (λ r is. must-own h t (early.0 ++ was) r (own-later t early.0 was r is)) rows are.own in
    record {
      filter = filter;
      named = named;
      counted = allowed.rows;
      once = allowed.once;
      own = All-weaker (Contains (must h (early.0 ++ was) t.server)) (λ r. IsTrue (matches h filter r.at) → Contains allowed.rows r)
          (λ r has matching. All-contains (λ x. IsTrue (matches h stands.query.filter x.at) → Contains allowed.rows x) (must h (before past of) stands.query.server) r allowed.known
          (subst (λ l. Contains l r) (sym must_is) has) (subst (λ (q : Query). IsTrue (matches h q.filter r.at)) (sym query) matching)) rows before_all;
      total = allowed.total;
    }
