-- In a right history in which the commands of one server go one after the other, each answer is of all.
use Rattle.std.proofs.{Common.{◌≡◌, ◌∙◌, ℕ, ◌<◌, ◌≤◌, inl, inr, Bool, true, IsTrue, List, [], ◌∷◌, ◌++◌, length, length-append, refl, sym, ap, subst, arith, ◌==◌}, lemmas.Bool.{cases_lt, eq-eqb, false≢true}, lemmas.List.Elements.{All-contains_itself, All-weaker, Contains-append_left}, lemmas.Option.slice_get_within}
use Rattle.std.specs.Prelude.{Option, Some, Contains, option_and_then, slice_get}
use Rattle.dim_hierarchy.specs.{Dimension.Dimension, declared.row.Row.Row}
use Rattle.measure_agg.specs.Aggregate.{Aggregate}
use Rattle.row_ledger.proofs.{Before.{at-later, at-older, before-at, before-later, begins-query, BeginsQuery, ended-before, insert-at-later, no-insert, none-since, over-ended}, Fresh.{event_at-within, kind-within}, Positions.before-older, SettledAnswer.{EachEvent-before, EachEvent-later, begun-at, settled-is_all}}
use Rattle.list_words.proofs.Elements.{Contains-filter, Contains-map, Contains-mapped, Some-same}
use Rattle.row_ledger.specs.{Bounds.{known, listed, must, own, passed}, Past.{Ack, Insert, Query, acked, acked_rows, before, begun, event_at, has_ended, insert_at, is_beginning, is_over, query_at, query_in}, Right.{EachEvent, IsRight, Stands}, Settled.IsSettled, Site.site_of, declared.event.Event.Event, declared.event.Event.TheVariants.{Answered, Begun}, declared.settings.Use.Use}
use Rattle.script_form.specs.declared.script.Command.{Command}
use Rattle.script_run.specs.{Between.{IsInOrder, IsThrough}, Parts.place_in, Runs.{BeginsAt, EndsBefore}}
use Rattle.olap_top.specs.volap_cell.proofs.Histories.Knowing.{acked-begun}
use Rattle.library_runs.specs.Index.{AnswersAreOfAll}

-- Beginnings and ends.

-- of two commands that have begun the one ended before the other
ends : (history : List Event) (a b : Option ℕ) (p q : ℕ) → a ≡ Some p → b ≡ Some q → EndsBefore history a b → (p < q) × IsTrue (is_over (before history q) p)
ends history a b p q a_is b_is before_ends = subst (λ (o : Option ℕ). EndsBefore history (Some p) o) b_is (subst (λ (o : Option ℕ). EndsBefore history o b) a_is before_ends)

-- Where commands go in order, the one that began before another one was over when that began.
over-before : (with : Use) (h : List Dimension) (commands : List Command) (history : List Event) → IsInOrder with h commands history → (p q : ℕ) (d e : Event)
    → event_at history p ≡ Some d → IsTrue (is_beginning d) → event_at history q ≡ Some e → IsTrue (is_beginning e) → p < q → IsTrue (is_over (before history q) p)
over-before with h commands history order p q d e at_p begins_p at_q begins_q low =
    let place = place_in with commands history in
    let i = order.only p d at_p begins_p in
    let j = order.only q e at_q begins_q in
    elim (cases_lt i.0 j.0) [
      | inl first ↦ (ends history (place i.0) (place j.0) p q i.3 j.3 (order.in_turn i.0 j.0 i.1 j.1 i.2 j.2 first)).1
      | inr late ↦ elim (cases_lt j.0 i.0) [
        | inl turned ↦
            let back = (ends history (place j.0) (place i.0) q p j.3 i.3 (order.in_turn j.0 i.0 j.1 i.1 j.2 i.2 turned)).0 in
            absurd (omega (arith, back, low))
        | inr early ↦
            let same : i.0 ≡ j.0 = omega (arith, late, early) in
            let one : q ≡ p = Some-same p q (sym i.3 ∙ ap place same ∙ j.3) in
            absurd (omega (arith, low, one))
      ]
    ]

-- One server.

-- inserts and queries are of server 0
pub record AreOfOne (history : List Event) : Type 0 where
  pub inserts : (p : ℕ) (i : Insert) → insert_at history p ≡ Some i → i.server ≡ 0
  pub queries : (p : ℕ) (q : Query) → query_at history p ≡ Some q → q.server ≡ 0

settled : (with : Use) (h : List Dimension) (commands : List Command) (usable : ℕ → Bool) (later past : List Event) (of : ℕ) (answer : Aggregate) (query : Query)
    → EachEvent (Stands (site_of with h) usable) (later ++ Answered of answer ∷ past) → IsInOrder with h commands (later ++ Answered of answer ∷ past) → AreOfOne (later ++ Answered of answer ∷ past)
    → query_at past of ≡ Some query → IsSettled (site_of with h) past of query
settled with h commands usable later past of answer query each order one asked =
    let now = begins-query (event_at past of) query asked in
    record {
      none_begun = none-since past of (λ p e at low. no-insert e (none-begins now p e at low));
      none_open = All-weaker (Contains (begun early)) (λ (r : Row). IsTrue (has_ended early r.no)) (open-none now) (begun early) (All-contains_itself (begun early));
      known = All-weaker (Contains (acked_rows early)) (Contains (must h early query.server)) known-all (acked_rows early) (All-contains_itself (acked_rows early));
    }
  where
    whole : List Event
    whole = later ++ Answered of answer ∷ past

    early : List Event
    early = before past of

    behind : EachEvent (Stands (site_of with h) usable) (Answered of answer ∷ past)
    behind = EachEvent-later (Stands (site_of with h) usable) later (Answered of answer ∷ past) each

    within : of < length past
    within = kind-within query_in past of query asked

    in-whole : (p : ℕ) (e : Event) → event_at past p ≡ Some e → event_at whole p ≡ Some e
    in-whole p e at = at-later later (Answered of answer ∷ past) p e (at-older (Answered of answer) past p e at)

    same-before : (p : ℕ) → p ≤ length past → before whole p ≡ before past p
    same-before p low = before-later later (Answered of answer ∷ past) p (omega (arith, low)) ∙ before-older (Answered of answer) past p low

    none-begins : BeginsQuery (event_at past of) → (p : ℕ) (e : Event) → event_at past p ≡ Some e → of < p → IsTrue (is_beginning e) → ⊥
    none-begins now p e at low begins =
        let at_of : event_at whole of ≡ Some now.event = in-whole of now.event now.is in
        let over = over-before with h commands whole order of p now.event e at_of now.begins (in-whole p e at) begins low in
        let inside : p < length past = event_at-within past p (λ none. cc) in
        let there : has_ended (before past p) of ≡ true = subst (λ (l : List Event). has_ended l of ≡ true) (same-before p (omega (arith, inside))) (over-ended whole p of now.event at_of now.no_end over) in
        false≢true (sym behind.0.is_open ∙ ended-before past p of there)

    open-none : BeginsQuery (event_at past of) → (r : Row) → Contains (begun early) r → IsTrue (has_ended early r.no)
    open-none now r has =
        let at = begun-at (site_of with h) usable early r (EachEvent-before (site_of with h) usable past of behind.1) has in
        let there = before-at past of r.no (Begun at.0 at.1 r) at.2 in
        let at_row : event_at whole r.no ≡ Some (Begun at.0 at.1 r) = in-whole r.no (Begun at.0 at.1 r) there.0 in
        let over = over-before with h commands whole order r.no of (Begun at.0 at.1 r) now.event at_row refl (in-whole of now.event now.is) now.begins there.1 in
        subst (λ (l : List Event). has_ended l r.no ≡ true) (same-before of (omega (arith, within))) (over-ended whole of r.no (Begun at.0 at.1 r) at_row refl over)

    of-one : (a : Ack) → Contains (acked early) a → a.server ≡ query.server
    of-one a has =
        let i : Insert = record { server = a.server; row = a.row } in
        let begun_there : insert_at early a.row.no ≡ Some i = acked-begun (site_of with h) usable early a (EachEvent-before (site_of with h) usable past of behind.1) has in
        let in_past : insert_at past a.row.no ≡ Some i = insert-at-later past of a.row.no i begun_there in
        let in_early : insert_at (before whole of) a.row.no ≡ Some i = subst (λ (l : List Event). insert_at l a.row.no ≡ Some i) (sym (same-before of (omega (arith, within)))) begun_there in
        let server : a.server ≡ 0 = one.inserts a.row.no i (insert-at-later whole of a.row.no i in_early) in
        let now = begins-query (event_at past of) query asked in
        let query_there : query_at whole of ≡ Some query = ap (option_and_then query_in) (in-whole of now.event now.is ∙ sym now.is) ∙ asked in
        server ∙ sym (one.queries of query query_there)

    known-all : (r : Row) → Contains (acked_rows early) r → Contains (must h early query.server) r
    known-all r has =
        let a = Contains-mapped (λ (b : Ack). b.row) (acked early) r has in
        let mine : Contains (own early query.server) a.0 = Contains-filter (λ (b : Ack). b.server == query.server) (acked early) a.0 a.1 (eq-eqb a.0.server query.server (of-one a.0 a.1)) in
        subst (Contains (must h early query.server)) a.2
        (Contains-map (λ (b : Ack). b.row) (known h early query.server) a.0
        (Contains-append_left (own early query.server ++ passed early query.server) (listed h early query.server) a.0
        (Contains-append_left (own early query.server) (passed early query.server) a.0 mine)))

pub answers-of-all : (with : Use) (h : List Dimension) (commands : List Command) (usable : ℕ → Bool) (history : List Event) → EachEvent (Stands (site_of with h) usable) history
    → IsRight (site_of with h) history → IsInOrder with h commands history → AreOfOne history → AnswersAreOfAll h history
answers-of-all with h commands usable history each right order one = λ later past of answer query whole asked.
    settled-is_all (site_of with h) later past of answer query (subst (IsRight (site_of with h)) whole right) asked
    (settled with h commands usable later past of answer query
    (subst (EachEvent (Stands (site_of with h) usable)) whole each) (subst (IsInOrder with h commands) whole order) (subst AreOfOne whole one) asked)

-- The last command.

get-last : (done : List Command) (c : Command) → slice_get (done ++ c ∷ []) (length done) ≡ Some c
get-last [] c = refl
get-last (d ∷ done) c = get-last done c

begun-within : (with : Use) (h : List Dimension) (history : List Event) (c : Command) (place : Option ℕ) (p : ℕ) → place ≡ Some p → BeginsAt with h history c place → p < length history
begun-within with h history c place p is begins =
    let here = subst (λ (o : Option ℕ). BeginsAt with h history c o) is begins in
    let at : event_at history p ≡ Some here.0 = here.1 in
    event_at-within history p (λ none. cc)

-- the newest event answers the query as which the last command began
pub last-begun : (with : Use) (h : List Dimension) (done : List Command) (c : Command) (usable : ℕ → Bool) (past : List Event) (of : ℕ) (answer : Aggregate) (query : Query)
    → EachEvent (Stands (site_of with h) usable) (Answered of answer ∷ past) → IsInOrder with h (done ++ c ∷ []) (Answered of answer ∷ past) → IsThrough with h (done ++ c ∷ []) (Answered of answer ∷ past)
    → query_at past of ≡ Some query → BeginsAt with h (Answered of answer ∷ past) c (Some of)
last-begun with h done c usable past of answer query each order through asked =
    let history = Answered of answer ∷ past in
    let commands = done ++ c ∷ [] in
    let place = place_in with commands history in
    let now = begins-query (event_at past of) query asked in
    let at_of : event_at history of ≡ Some now.event = at-older (Answered of answer) past of now.event now.is in
    let i = order.only of now.event at_of now.begins in
    let low : i.0 < length commands = slice_get_within commands i.0 i.1 i.2 in
    let last = length done in
    let at_last : slice_get commands last ≡ Some c = get-last done c in
    let end = through.over last c at_last in
    elim (cases_lt i.0 last) [
      | inl first ↦
          let over = (ends history (place i.0) (place last) of end.0 i.3 end.1 (order.in_turn i.0 last i.1 c i.2 at_last first)).1 in
          let inside : end.0 < length history = begun-within with h history c (place last) end.0 end.1 (order.begun last c at_last) in
          let there : has_ended (before past end.0) of ≡ true = subst (λ (l : List Event). has_ended l of ≡ true) (before-older (Answered of answer) past end.0 (omega (arith, inside))) (over-ended history end.0 of now.event at_of now.no_end over) in
          absurd (false≢true (sym each.0.is_open ∙ ended-before past end.0 of there))
      | inr late ↦
          let here : i.0 ≡ last = omega (arith, late, low, length-append done (c ∷ [])) in
          subst (λ (o : Option ℕ). BeginsAt with h history c o) (ap place (sym here) ∙ i.3) (order.begun last c at_last)
    ]
