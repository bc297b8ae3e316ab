-- Behind a settle that was fine, while no insert has begun since, each answer is of all that was acknowledged.
use Rattle.std.proofs.{Common.{◌≡◌, ◌≢◌, ◌∙◌, ℕ, suc, ◌+◌, ◌<◌, ◌≤◌, ◌⊎◌, inl, inr, Bool, true, false, IsTrue, List, [], ◌∷◌, ◌++◌, length, length-append, refl, sym, ap, subst, arith, append_assoc}, lemmas.Bool.{cases_lt, false≢true}, lemmas.List.Elements.{All-contains_itself, All-weaker}}
use Rattle.std.specs.{List.cons_option, Prelude.{Contains, Option, Some, None, filter, filter_map, map, option_and_then}}
use Rattle.dim_hierarchy.specs.{Dimension.Dimension, Filter.matches, declared.row.Row.Row}
use Rattle.measure_agg.specs.Aggregate.{Aggregate, agg}
use Rattle.row_ledger.proofs.{Before.{acks-stay, at-later, at-older, before-at, before-behind, before-later, before-rest, begins-query, ended-before, insert-at-later, none-since, over-ended}, Ended.insert_at-is, Fresh.kind-within, Positions.{before-older, event_at-here, event_at-older}, SettledAnswer.{EachEvent-before, EachEvent-later, begun-at, settled-is_all}}
use Rattle.list_words.proofs.Elements.{Contains-mapped}
use Rattle.row_ledger.specs.{Bounds.must, Past.{Ack, Insert, Query, acked, acked_rows, before, begun, call_at, call_in, ends_itself, event_at, has_ended, insert_at, insert_in, is_beginning, is_kept, query_at, query_in, since}, Right.{EachEvent, IsRight, IsRightEnd, Stands}, Settled.IsSettled, Site.{Site, site_of}, declared.event.Event.Event, declared.event.Event.TheVariants.{Answered, Begun, Called, Ended}, declared.settings.Call.Call, declared.settings.Call.TheVariants.Settle, declared.settings.How.TheVariants.Fine, declared.settings.Use.Use}
use Rattle.script_form.specs.declared.script.Command.{Command}
use Rattle.script_run.proofs.Closing.{closing-law}
use Rattle.script_run.specs.Runs.{IsRunSoFar}
use Rattle.olap_top.specs.{Outcomes.AreOfAllBehindSettles, Settles.SettlesTell}

-- Kinds of events.

call-is : (o : Option Event) (c : Call) → option_and_then call_in o ≡ Some c → (session : ℕ) × (o ≡ Some (Called session c))
call-is None c is = cc
call-is (Some (Called n d)) c is = (n, (let same : d ≡ c = cc in ap (λ x. Some (Called n x)) same))
call-is (Some _) c is = cc

query-no-call : (past : List Event) (p session : ℕ) (call : Call) (q : Query) → event_at past p ≡ Some (Called session call) → query_at past p ≡ Some q → ⊥
query-no-call past p session call q at is = (let none : ◌≡◌ {A = Option Query} None (Some q) = sym (ap (option_and_then query_in) at) ∙ is in cc)

insert-no-call : (past : List Event) (p session : ℕ) (call : Call) (i : Insert) → event_at past p ≡ Some (Called session call) → insert_at past p ≡ Some i → ⊥
insert-no-call past p session call i at is = (let none : ◌≡◌ {A = Option Insert} None (Some i) = sym (ap (option_and_then insert_in) at) ∙ is in cc)

-- where no insert is among the newer events, each stands further back
insert-back : (newer past : List Event) (p : ℕ) (i : Insert) → begun newer ≡ [] → insert_at (newer ++ past) p ≡ Some i → p < length past
insert-back [] past p i none is = kind-within insert_in past p i is
insert-back (e ∷ newer) past p i none is = by (insert-back newer past p i) (insert_in e) refl none
  where
    by : (begun newer ≡ [] → insert_at (newer ++ past) p ≡ Some i → p < length past) → (o : Option Insert) → insert_in e ≡ o → map (λ (x : Insert). x.row) (cons_option o (filter_map insert_in newer)) ≡ [] → p < length past
    by rest (Some x) here none = cc
    by rest None here none = elim (cases_lt p (length (newer ++ past))) [
      | inl older ↦ rest none (by-older older)
      | inr high ↦
          let within : p < length (e ∷ newer ++ past) = kind-within insert_in (e ∷ newer ++ past) p i is in
          let same : length (newer ++ past) ≡ p = omega (arith, within, high) in
          absurd (let no : ◌≡◌ {A = Option Insert} None (Some i) = sym (ap (option_and_then insert_in) (event_at-here e (newer ++ past)) ∙ here) ∙ ap (insert_at (e ∷ newer ++ past)) same ∙ is in cc)
    ]
      where
        by-older : p < length (newer ++ past) → insert_at (newer ++ past) p ≡ Some i
        by-older older = ap (option_and_then insert_in) (sym (event_at-older e (newer ++ past) p older)) ∙ is

-- An answer behind the newer events and the end of the settle.
whole-answer : (with : Use) (h : List Dimension) (commands : List Command) (later newer earlier : List Event) (settle of : ℕ) (answer : Aggregate) (query : Query)
    → IsRight (site_of with h) (later ++ Answered of answer ∷ (newer ++ Ended settle Fine ∷ earlier))
    → IsRunSoFar with h commands (later ++ Answered of answer ∷ (newer ++ Ended settle Fine ∷ earlier))
    → SettlesTell (site_of with h) (later ++ Answered of answer ∷ (newer ++ Ended settle Fine ∷ earlier))
    → call_at earlier settle ≡ Some Settle → begun newer ≡ [] → query_at (newer ++ Ended settle Fine ∷ earlier) of ≡ Some query → query.server < with.servers
    → answer ≡ agg (filter (λ (r : Row). matches h query.filter r.at) (acked_rows (newer ++ Ended settle Fine ∷ earlier)))
whole-answer with h commands later newer earlier settle of answer query right part tell called none asked server =
    settled-is_all site later past of answer query right asked settled
    ∙ ap (λ acks. agg (filter (λ (r : Row). matches h query.filter r.at) (map (λ (a : Ack). a.row) acks))) (sym acked-same)
  where
    site : Site
    site = site_of with h

    fine : List Event
    fine = Ended settle Fine ∷ earlier

    past : List Event
    past = newer ++ fine

    whole : List Event
    whole = later ++ Answered of answer ∷ past

    usable : ℕ → Bool
    usable = is_kept whole

    start : List Event
    start = before past settle

    asking : List Event
    asking = before past of

    each : EachEvent (Stands site usable) (Answered of answer ∷ past)
    each = EachEvent-later (Stands site usable) later (Answered of answer ∷ past) right.each

    ended : IsRightEnd site usable earlier settle Fine
    ended = (EachEvent-later (Stands site usable) newer fine each.1).0

    in-whole : (p : ℕ) (e : Event) → event_at past p ≡ Some e → event_at whole p ≡ Some e
    in-whole p e at = at-later later (Answered of answer ∷ past) p e (at-older (Answered of answer) past p e at)

    same-before : (p : ℕ) → p ≤ length past → before whole p ≡ before past p
    same-before p low = before-later later (Answered of answer ∷ past) p (omega (arith, low)) ∙ before-older (Answered of answer) past p low

    session : ℕ
    session = (call-is (event_at earlier settle) Settle called).0

    at-settle : event_at past settle ≡ Some (Called session Settle)
    at-settle = at-later newer fine settle (Called session Settle) (at-older (Ended settle Fine) earlier settle (Called session Settle) (call-is (event_at earlier settle) Settle called).1)

    settle-within : settle < length earlier
    settle-within = kind-within call_in earlier settle Settle called

    long : length past ≡ length newer + suc (length earlier)
    long = length-append newer fine

    -- an insert or a query was over when the settle began, or began behind its end
    apart : (p : ℕ) (e : Event) → event_at past p ≡ Some e → IsTrue (is_beginning e) → ends_itself e ≡ false → p ≢ settle → ((p < settle) × (has_ended start p ≡ true)) ⊎ (length earlier < p)
    apart p e at begins no_end other = elim (closing-law with h commands whole settle p session Settle e part (in-whole settle (Called session Settle) at-settle) refl (in-whole p e at) begins other) [
      | inl early ↦ inl (early.0, subst (λ (l : List Event). has_ended l p ≡ true) (same-before settle (omega (arith, settle-within, long))) (over-ended whole settle p e (in-whole p e at) no_end early.1))
      | inr late ↦ elim (cases_lt (length earlier) p) [
        | inl behind ↦ inr behind
        | inr inside ↦
            let over = over-ended whole p settle (Called session Settle) (in-whole settle (Called session Settle) at-settle) refl late.1 in
            let same : before whole p ≡ before earlier p = same-before p (omega (arith, inside, long)) ∙ before-later newer fine p (omega (arith, inside)) ∙ before-older (Ended settle Fine) earlier p inside in
            absurd (false≢true (sym ended.is_open ∙ ended-before earlier p settle (subst (λ (l : List Event). has_ended l settle ≡ true) same over)))
      ]
    ]

    -- each insert had ended when the settle began
    insert-over : (p : ℕ) (i : Insert) → insert_at past p ≡ Some i → has_ended start p ≡ true
    insert-over p i is =
        let its = insert_at-is (event_at past p) i is in
        let other : p ≢ settle = λ same. insert-no-call past settle session Settle i at-settle (subst (λ n. insert_at past n ≡ Some i) same is) in
        let back : p < length fine = insert-back newer fine p i none is in
        elim (apart p (Begun its.0 i.server i.row) its.1 refl refl other) [
          | inl over ↦ over.1
          | inr behind ↦ absurd (omega (arith, back, behind))
        ]

    -- the query began behind the settle's end
    query-behind : length earlier < of
    query-behind =
        let now = begins-query (event_at past of) query asked in
        let other : of ≢ settle = λ same. query-no-call past settle session Settle query at-settle (subst (λ n. query_at past n ≡ Some query) same asked) in
        elim (apart of now.event now.is now.begins now.no_end other) [
          | inl over ↦ absurd (false≢true (sym each.0.is_open ∙ ended-before past settle of over.1))
          | inr behind ↦ behind
        ]

    of-within : of < length past
    of-within = kind-within query_in past of query asked

    -- what stood when the settle began, and when the query did
    asking-is : (between : List Event) × (asking ≡ between ++ fine)
    asking-is = before-behind newer fine of (omega (arith, query-behind))

    start-asking : before asking settle ≡ start
    start-asking = ap (λ l. before l settle) asking-is.1 ∙ before-later asking-is.0 fine settle (omega (arith, settle-within)) ∙ sym (before-later newer fine settle (omega (arith, settle-within)))

    over-asking : (p : ℕ) → has_ended start p ≡ true → has_ended asking p ≡ true
    over-asking p over = ended-before asking settle p (subst (λ (l : List Event). has_ended l p ≡ true) (sym start-asking) over)

    acked-same : acked past ≡ acked asking
    acked-same =
        let rest = before-rest past of in
        ap acked rest.1
        ∙ acks-stay site usable rest.0 asking (subst (EachEvent (Stands site usable)) rest.1 each.1)
        (λ p i is. over-asking p (insert-over p i (subst (λ (l : List Event). insert_at l p ≡ Some i) (sym rest.1) is)))

    asking-right : EachEvent (Stands site usable) asking
    asking-right = EachEvent-before site usable past of each.1

    acked-early : acked asking ≡ acked start
    acked-early =
        let rest = before-rest asking settle in
        let all : asking ≡ rest.0 ++ start = rest.1 ∙ ap (λ l. rest.0 ++ l) start-asking in
        ap acked all
        ∙ acks-stay site usable rest.0 start (subst (EachEvent (Stands site usable)) all asking-right)
        (λ p i is. insert-over p i (insert-at-later past of p i (subst (λ (l : List Event). insert_at l p ≡ Some i) (sym all) is)))

    -- so the query is settled

    none-begun : (p : ℕ) (e : Event) → event_at past p ≡ Some e → of < p → insert_in e ≡ None
    none-begun p e at low = by (insert_in e) refl
      where
        by : (o : Option Insert) → insert_in e ≡ o → insert_in e ≡ None
        by None is = is
        by (Some i) is =
            let back : p < length fine = insert-back newer fine p i none (ap (option_and_then insert_in) at ∙ is) in
            absurd (omega (arith, back, low, query-behind))

    none-open : (r : Row) → Contains (begun asking) r → IsTrue (has_ended asking r.no)
    none-open r has =
        let at = begun-at site usable asking r asking-right has in
        let there : insert_at past r.no ≡ Some (record { server = at.1; row = r }) = ap (option_and_then insert_in) (before-at past of r.no (Begun at.0 at.1 r) at.2).0 in
        over-asking r.no (insert-over r.no (record { server = at.1; row = r }) there)

    known-all : (r : Row) → Contains (acked_rows asking) r → Contains (must h asking query.server) r
    known-all r has =
        let a = Contains-mapped (λ (b : Ack). b.row) (acked asking) r has in
        let early : Contains (acked (before earlier settle)) a.0 = subst (λ (l : List Ack). Contains l a.0) (acked-early ∙ ap acked (before-later newer fine settle (omega (arith, settle-within)) ∙ before-older (Ended settle Fine) earlier settle (omega (arith, settle-within)))) a.1 in
        let front = before-rest past of in
        let all : whole ≡ (later ++ Answered of answer ∷ front.0) ++ (asking-is.0 ++ fine) =
        ap (λ l. later ++ Answered of answer ∷ l) (front.1 ∙ ap (λ l. front.0 ++ l) asking-is.1)
        ∙ sym (append_assoc later (Answered of answer ∷ front.0) (asking-is.0 ++ fine)) in
        let told = tell (later ++ Answered of answer ∷ front.0) asking-is.0 earlier settle query.server a.0 all called server early in
        subst (Contains (must h asking query.server)) a.2 (subst (λ (l : List Event). Contains (must h l query.server) a.0.row) (sym asking-is.1) told)

    settled : IsSettled site past of query
    settled = record {
      none_begun = none-since past of none-begun;
      none_open = All-weaker (Contains (begun asking)) (λ (r : Row). IsTrue (has_ended asking r.no)) none-open (begun asking) (All-contains_itself (begun asking));
      known = All-weaker (Contains (acked_rows asking)) (Contains (must h asking query.server)) known-all (acked_rows asking) (All-contains_itself (acked_rows asking));
    }

pub of-all-behind : (with : Use) (h : List Dimension) (commands : List Command) (history : List Event) → IsRight (site_of with h) history → IsRunSoFar with h commands history
    → SettlesTell (site_of with h) history → ((p : ℕ) (q : Query) → query_at history p ≡ Some q → q.server < with.servers) → AreOfAllBehindSettles h history
of-all-behind with h commands history right part tell servers = λ later past of answer query whole asked behind.
    let site = site_of with h in
    let past_is : history ≡ later ++ Answered of answer ∷ (behind.since ++ Ended behind.of Fine ∷ behind.before) = whole ∙ ap (λ l. later ++ Answered of answer ∷ l) behind.ended in
    let asked_there : query_at (behind.since ++ Ended behind.of Fine ∷ behind.before) of ≡ Some query = ap (λ l. query_at l of) (sym behind.ended) ∙ asked in
    let in_history : query_at history of ≡ Some query =
    ap (λ l. query_at l of) whole ∙ query-later later (Answered of answer ∷ past) of query (query-later (Answered of answer ∷ []) past of query asked) in
    whole-answer with h commands later behind.since behind.before behind.of of answer query (subst (IsRight site) past_is right) (subst (IsRunSoFar with h commands) past_is part) (subst (SettlesTell site) past_is tell)
    behind.called behind.none_begun asked_there (servers of query in_history)
    ∙ ap (λ l. agg (filter (λ (r : Row). matches h query.filter r.at) (acked_rows l))) (sym behind.ended)
  where
    query-later : (later past : List Event) (p : ℕ) (q : Query) → query_at past p ≡ Some q → query_at (later ++ past) p ≡ Some q
    query-later [] past p q is = is
    query-later (e ∷ later) past p q is =
        let there = query-later later past p q is in
        ap (option_and_then query_in) (event_at-older e (later ++ past) p (kind-within query_in (later ++ past) p q there)) ∙ there
