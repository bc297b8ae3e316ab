-- Where each session has done its first commands, the history is a part of a run; where it has done all, it is through with them.
use Rattle.std.proofs.{Common.{◌≡◌, ◌∙◌, ℕ, suc, ◌+◌, ◌-◌, ◌<◌, ◌≤◌, ◌⊎◌, inl, inr, Bool, true, false, List, [], ◌∷◌, ◌++◌, length, take, get_or, Option, Some, None, refl, sym, ap, subst, arith, append-nil, length-append}, lemmas.Option.{slice_get_past, slice_get_within}}
use Rattle.std.specs.Prelude.{IsTrue, IfSome, is_some, slice_get}
use Rattle.dim_hierarchy.specs.Dimension.{Dimension}
use Rattle.row_ledger.proofs.Before.{before-at}
use Rattle.row_ledger.specs.{Classes.class_of, Past.{before, event_at, is_beginning, is_over, session_in}, Right.{EachEvent, IsRightEnd, Site, Stands}, Settled.pulls_since, declared.event.Event.Event, declared.event.Event.TheVariants.{Called, Ended}, declared.settings.Call.Call, declared.settings.How.How, declared.settings.Use.Use}
use Rattle.script_form.specs.declared.script.Command.{Command}
use Rattle.script_form.specs.declared.script.Command.TheVariants.{Insert, Query, Control, Group}
use Rattle.script_run.proofs.{Begin.bool-or, Between.get-behind, Grow.{below-or, ends-none, within}, NextCommand.some-eq, PhaseEnds.{first-place, get-first, start_law}, PlaceFacts.{GoesOn, HaveBegun, count_of-append, places_behind-kept}, Whole.get-some}
use Rattle.script_run.specs.{Between.IsThrough, Parts.{IsPartAt, Waits, place_in}, Places.{begins_of, count_of, session_of}, Runs.{ArePulls, Begins, BeginsAt, EndsBefore, HasPulls, is_pulling}}
use Rattle.session_runs.proofs.{Later.{at-first, before-then, begins-then, behind-or, begins-within, each-at, each-from, ends-behind, ends-then, has-begun, more-from, over-then}, Pulls.{PullsAloneTo, ends-once, is-called, plain-pulls}, Streams.{among, count-past, in-stream, place-behind, stream-length}, Turns.{AreDone, IsDone, in-turn}}
use Rattle.session_runs.specs.Sessions.{EachDoes, EachDoesFirst, IsLater, stream_of}

get-more : (xs ys : List ℕ) (j : ℕ) → slice_get (xs ++ ys) (length xs + j) ≡ slice_get ys j
get-more [] ys j = let is : 0 + j ≡ j = omega arith in ap (slice_get ys) is
get-more (x ∷ xs) ys j = let is : suc (length xs) + j ≡ suc (length xs + j) = omega arith in ap (slice_get (x ∷ (xs ++ ys))) is ∙ get-more xs ys j

some-session : (o : Option ℕ) → is_some o ≡ true → (s : ℕ) × (o ≡ Some s)
some-session None is = cc
some-session (Some s) is = (s, refl)

order-of : (a b : ℕ) → (a < b) ⊎ (a ≡ b) ⊎ (b < a)
order-of a b = grind arith

-- the command that begins with a call that pulls
called-command : (with : Use) (h : List Dimension) (past : List Event) (session : ℕ) (call : Call) (c : Command) → Begins with h past c (Called session call) → is_pulling (class_of call) ≡ true → c ≡ Control call
called-command with h past session call (Insert new) begins pulls = absurd begins
called-command with h past session call (Query question) begins pulls = absurd begins
called-command with h past session call (Control called) begins pulls = ap Control (sym begins.1)
called-command with h past session call (Group dim level names) begins pulls =
    absurd (let never : false ≡ true = sym (ap (λ (c : Call). is_pulling (class_of c)) begins.1.2) ∙ pulls in cc)

-- Commands of which one waits for another only where both are of one session, and those that pull are of one too.
pub record GoTogether (with : Use) (done commands : List Command) : Type 0 where
  pub waiting : (i j : ℕ) (c d : Command) → slice_get commands i ≡ Some c → slice_get commands j ≡ Some d → Waits with (done ++ commands) (length done + i) (length done + j) → session_of with c ≡ session_of with d
  pub pulling : (i j : ℕ) (a b : Call) → slice_get commands i ≡ Some (Control a) → slice_get commands j ≡ Some (Control b)
      → is_pulling (class_of a) ≡ true → is_pulling (class_of b) ≡ true → session_of with (Control a) ≡ session_of with (Control b)

module _ (site : Site) (usable : ℕ → Bool) (with : Use) (h : List Dimension) (done commands : List Command) (past now : List Event) (right : EachEvent (Stands site usable) now)
    (through : IsThrough with h done past) (does : EachDoesFirst with h commands past now) where
  abbrev all : List Command
  all = done ++ commands

  of-session : (s : ℕ) → AreDone with h s (does s).first past now
  of-session s = in-turn site usable with h s (does s).first past now right (does s).does

  abbrev places_of : ℕ → List ℕ
  places_of s = (of-session s).places

  later : IsLater past now
  later = (of-session 0).later

  -- the first ones of a stream stand there
  first-of : (s k : ℕ) → k < length (places_of s) → slice_get (stream_of with commands s) k ≡ slice_get (does s).first k
  first-of s k low = ap (λ l. slice_get l k) (does s).split ∙ get-first (does s).first (does s).others k (omega (arith, low, (of-session s).count))

  few : (s : ℕ) → length (places_of s) ≤ count_of with s commands
  few s = omega (arith, (of-session s).count, ap length (does s).split, length-append (does s).first (does s).others, stream-length with commands s)

  -- The commands before.

  old-place : (i : ℕ) → i < length done → place_in with all now i ≡ place_in with done past i
  old-place i low =
      let on : GoesOn past now = record { more = λ s. (places_of s, (of-session s).are) } in
      let begun : HaveBegun with done past = record { counts = λ s. omega (arith, through.counts s) } in
      first-place with done commands now i low ∙ ap (λ ps. get_or ps i None) (places_behind-kept with [] done past now on begun)

  record IsOld (i : ℕ) (c : Command) : Type 0 where
    place : ℕ
    was : place_in with done past i ≡ Some place
    begins : BeginsAt with h past c (Some place)
    over : IsTrue (is_over past place)
    inside : place < length past

  old : (i : ℕ) (c : Command) → slice_get all i ≡ Some c → i < length done → IsOld i c
  old i c at low =
      let before_at : slice_get done i ≡ Some c = sym (get-first done commands i low) ∙ at in
      let found = through.over i c before_at in
      let begins : BeginsAt with h past c (Some found.0) = subst (BeginsAt with h past c) found.1 (through.part.begun i c before_at) in
      record { place = found.0; was = found.1; begins = begins; over = found.2; inside = within past found.0 begins.0 begins.1 }

  -- what began before is over
  begun-over : (p : ℕ) (e : Event) → event_at past p ≡ Some e → IsTrue (is_beginning e) → IsTrue (is_over past p)
  begun-over p e at beginning =
      let found = through.part.only p e at beginning in
      let over = through.over found.0 found.1 found.2 in
      let same : over.0 ≡ p = some-place over.0 p (place_in with done past found.0) over.1 found.3 in
      subst (λ q. IsTrue (is_over past q)) same over.2
    where
      some-place : (a b : ℕ) (o : Option ℕ) → o ≡ Some a → o ≡ Some b → a ≡ b
      some-place a b o x y = cc

  -- The commands that were done.

  -- the i-th of them, of a session, is done at a position
  record IsNew (s i : ℕ) (c : Command) (p : ℕ) : Type 0 where
    at : slice_get commands i ≡ Some c
    own : session_of with c ≡ s
    here : slice_get (places_of s) (count_of with s (take i commands)) ≡ Some p
    is : IsDone with h c now (places_of s) (count_of with s (take i commands)) p
    from : length past ≤ p

  new-at : (s i : ℕ) (c : Command) (p : ℕ) → slice_get commands i ≡ Some c → session_of with c ≡ s → slice_get (places_of s) (count_of with s (take i commands)) ≡ Some p → IsNew s i c p
  new-at s i c p at own here = record {
    at = at;
    own = own;
    here = here;
    is = (of-session s).each (count_of with s (take i commands)) c p
        (sym (first-of s (count_of with s (take i commands)) (slice_get_within (places_of s) (count_of with s (take i commands)) p here)) ∙ in-stream with s commands i c at own) here;
    from = more-from s past now (places_of s) later (of-session s).are (count_of with s (take i commands)) p here;
  }

  new : (s i : ℕ) (c : Command) → slice_get commands i ≡ Some c → session_of with c ≡ s → count_of with s (take i commands) < length (places_of s) → (p : ℕ) × IsNew s i c p
  new s i c at own low =
      let found = get-some (places_of s) (count_of with s (take i commands)) low in
      (found.0, new-at s i c found.0 at own found.1)

  late-place : (s i : ℕ) (c : Command) → slice_get commands i ≡ Some c → session_of with c ≡ s → place_in with all now (length done + i) ≡ slice_get (places_of s) (count_of with s (take i commands))
  late-place s i c at own =
      let k = count_of with s (take i commands) in
      let count : count_of with s done + k ≡ length (begins_of past s) + k = omega (arith, through.counts s) in
      place-behind with done commands now i c at
      ∙ ap (λ x. slice_get (begins_of now x) (count_of with x done + count_of with x (take i commands))) own
      ∙ ap (slice_get (begins_of now s)) count
      ∙ ap (λ l. slice_get l (length (begins_of past s) + k)) (of-session s).are
      ∙ get-more (begins_of past s) (places_of s) k

  new-place : (s i : ℕ) (c : Command) (p : ℕ) → IsNew s i c p → place_in with all now (length done + i) ≡ Some p
  new-place s i c p is = late-place s i c is.at is.own ∙ is.here

  -- what begins behind the earlier history is one of them
  record IsFound (p : ℕ) : Type 0 where
    session : ℕ
    place : ℕ
    command : Command
    is : IsNew session place command p

  found-at : (p : ℕ) (e : Event) → event_at now p ≡ Some e → IsTrue (is_beginning e) → length past ≤ p → IsFound p
  found-at p e at beginning high =
      let session = some-session (session_in e) beginning in
      let s = session.0 in
      let begun = has-begun now p e s at session.1 in
      elim (behind-or (begins_of past s) (places_of s) begun.0 p (ap (λ l. slice_get l begun.0) (sym (of-session s).are) ∙ begun.1)) [
        | inl old ↦ absurd (let low = begins-within past s begun.0 p old in omega arith)
        | inr (k, here) ↦
            let low : k < length (places_of s) = slice_get_within (places_of s) k p here in
            let command = get-some (does s).first k (omega (arith, low, (of-session s).count)) in
            let stands = among with s commands k command.0 (first-of s k low ∙ command.1) in
            record {
              session = s;
              place = stands.place;
              command = command.0;
              is = new-at s stands.place command.0 p stands.at stands.own (ap (slice_get (places_of s)) stands.count ∙ here);
            }
      ]

  -- All.

  record IsThere (i : ℕ) (c : Command) : Type 0 where
    place : ℕ
    at : place_in with all now i ≡ Some place
    begins : BeginsAt with h now c (Some place)
    over : IsTrue (is_over now place)

  split-at : (i : ℕ) → (i < length done) ⊎ ((j : ℕ) × (i ≡ length done + j))
  split-at i = elim (below-or i (length done)) [ inl low ↦ inl low | inr high ↦ inr (i - length done, omega arith) ]

  late : (i j : ℕ) (c : Command) → slice_get all i ≡ Some c → i ≡ length done + j → slice_get commands j ≡ Some c
  late i j c at is = sym (get-behind done commands j) ∙ ap (slice_get all) (sym is) ∙ at

  there-old : (i : ℕ) (c : Command) → slice_get all i ≡ Some c → i < length done → IsThere i c
  there-old i c at low =
      let was = old i c at low in
      record {
        place = was.place;
        at = old-place i low ∙ was.was;
        begins = begins-then with h past now later c was.place was.begins;
        over = over-then past now later was.place was.over;
      }

  there-new : (i j : ℕ) (c : Command) → slice_get all i ≡ Some c → i ≡ length done + j → count_of with (session_of with c) (take j commands) < length (places_of (session_of with c)) → IsThere i c
  there-new i j c at is low =
      let found = new (session_of with c) j c (late i j c at is) refl low in
      record {
        place = found.0;
        at = ap (place_in with all now) is ∙ new-place (session_of with c) j c found.0 found.1;
        begins = found.1.is.begins;
        over = found.1.is.over;
      }

  -- a command is there, or its session stopped before it
  there-or : (i : ℕ) (c : Command) → slice_get all i ≡ Some c → IsThere i c ⊎ (place_in with all now i ≡ None)
  there-or i c at = elim (split-at i) [
    | inl low ↦ inl (there-old i c at low)
    | inr (j, is) ↦
        let s = session_of with c in
        let k = count_of with s (take j commands) in
        elim (below-or k (length (places_of s))) [
          | inl low ↦ inl (there-new i j c at is low)
          | inr high ↦ inr (ap (place_in with all now) is ∙ late-place s j c (late i j c at is) refl ∙ slice_get_past (places_of s) k high)
        ]
  ]

  begun-at : (i : ℕ) (c : Command) → slice_get all i ≡ Some c → BeginsAt with h now c (place_in with all now i)
  begun-at i c at = elim (there-or i c at) [
    | inl is ↦ subst (BeginsAt with h now c) (sym is.at) is.begins
    | inr none ↦ subst (BeginsAt with h now c) (sym none) tt
  ]

  only : (p : ℕ) (e : Event) → event_at now p ≡ Some e → IsTrue (is_beginning e) → (i : ℕ) × (c : Command) × (slice_get all i ≡ Some c) × (place_in with all now i ≡ Some p)
  only p e at beginning = elim (below-or p (length past)) [
    | inl low ↦
        let found = through.part.only p e (sym (at-first past now later p low) ∙ at) beginning in
        let inside = slice_get_within done found.0 found.1 found.2 in
        (found.0, found.1, get-first done commands found.0 inside ∙ found.2, old-place found.0 inside ∙ found.3)
    | inr high ↦
        let found = found-at p e at beginning high in (
          length done + found.place,
          found.command,
          get-behind done commands found.place ∙ found.is.at,
          new-place found.session found.place found.command p found.is,
        )
  ]

  module _ (together : GoTogether with done commands) where
    places-end : (i j p q : ℕ) → place_in with all now i ≡ Some p → place_in with all now j ≡ Some q → EndsBefore now (Some p) (Some q) → EndsBefore now (place_in with all now i) (place_in with all now j)
    places-end i j p q at_p at_q ends = subst (λ o. EndsBefore now o (place_in with all now j)) (sym at_p) (subst (λ o. EndsBefore now (Some p) o) (sym at_q) ends)

    -- what one of these commands waits for ends before it begins
    late-ends : (i j l : ℕ) (c d : Command) → slice_get all i ≡ Some c → slice_get commands l ≡ Some d → j ≡ length done + l → Waits with all i j → (q : ℕ) × IsNew (session_of with d) l d q
        → EndsBefore now (place_in with all now i) (place_in with all now j)
    late-ends i j l c d at_i at_l is_j w (q, then) =
        let s = session_of with d in
        let then_at : place_in with all now j ≡ Some q = ap (place_in with all now) is_j ∙ new-place s l d q then in
        elim (split-at i) [
          | inl low_i ↦
              let first = old i c at_i low_i in
              places-end i j first.place q (old-place i low_i ∙ first.was) then_at
              (ends-behind past now later first.place q first.inside then.from first.over)
          | inr (k, is_i) ↦
              let at_k = late i k c at_i is_i in
              let own : session_of with c ≡ s = together.waiting k l c d at_k at_l (subst (λ n. Waits with all n (length done + l)) is_i (subst (λ n. Waits with all i n) is_j w)) in
              let less : count_of with s (take k commands) < count_of with s (take l commands) = count-past with s commands k l c at_k own (omega (arith, w.0, is_i, is_j)) in
              let low : count_of with s (take l commands) < length (places_of s) = slice_get_within (places_of s) (count_of with s (take l commands)) q then.here in
              let first = new s k c at_k own (omega (arith, less, low)) in
              places-end i j first.0 q (ap (place_in with all now) is_i ∙ new-place s k c first.0 first.1) then_at
              (first.1.is.others (count_of with s (take l commands)) q less then.here).1
        ]

    in-order : (i j : ℕ) (c d : Command) → slice_get all i ≡ Some c → slice_get all j ≡ Some d → Waits with all i j → EndsBefore now (place_in with all now i) (place_in with all now j)
    in-order i j c d at_i at_j w = elim (split-at j) [
      | inl low_j ↦
          let low_i : i < length done = omega (arith, w.0, low_j) in
          let first = old i c at_i low_i in
          let then = old j d at_j low_j in
          let part = start_law with h done commands past (λ s. omega (arith, through.counts s)) through.part in
          let before_ends : EndsBefore past (place_in with all past i) (place_in with all past j) = part.in_turn i j c d at_i at_j w in
          let ends : EndsBefore past (Some first.place) (Some then.place) =
          subst (λ o. EndsBefore past o (Some then.place)) (first-place with done commands past i low_i ∙ first.was)
          (subst (λ o. EndsBefore past (place_in with all past i) o) (first-place with done commands past j low_j ∙ then.was) before_ends) in
          places-end i j first.place then.place (old-place i low_i ∙ first.was) (old-place j low_j ∙ then.was)
          (ends-then past now later first.place then.place (let inside = then.inside in omega arith) ends)
      | inr (l, is_j) ↦
          let s = session_of with d in
          let at_l = late j l d at_j is_j in
          let at_place = ap (place_in with all now) is_j ∙ late-place s l d at_l refl in
          elim (below-or (count_of with s (take l commands)) (length (places_of s))) [
            | inl low ↦ late-ends i j l c d at_i at_l is_j w (new s l d at_l refl low)
            | inr high ↦ ends-none now (place_in with all now i) (place_in with all now j) (at_place ∙ slice_get_past (places_of s) (count_of with s (take l commands)) high)
          ]
    ]

    -- no other pull was open beside one of these commands, from its beginning until its call ended
    alone : (s i : ℕ) (call : Call) (of : ℕ) → (is : IsNew s i (Control call) of) → is_pulling (class_of call) ≡ true → PullsAloneTo is.is.until now of
    alone s i call of is pulling p other low at other_pulls differs =
        let called = is-called (event_at now p) other at in
        let event = Called called.session other in
        elim (below-or p (length past)) [
          | inl inside ↦ ends-behind past now later p of inside is.from (begun-over p event (sym (at-first past now later p inside) ∙ called.is) refl)
          | inr high ↦
              let found = found-at p event called.is refl high in
              let begins = found.is.is.begins in
              let same_event : begins.0 ≡ event = some-eq begins.0 event (event_at now p) begins.1 called.is in
              let command : found.command ≡ Control other = called-command with h (before now p) called.session other found.command (subst (Begins with h (before now p) found.command) same_event begins.2) other_pulls in
              let there : slice_get commands found.place ≡ Some (Control other) = found.is.at ∙ ap Some command in
              let one : found.session ≡ s = sym found.is.own ∙ ap (session_of with) command ∙ together.pulling found.place i other call there is.at other_pulls pulling ∙ is.own in
              let there_now : IsNew s found.place found.command p = subst (λ x. IsNew x found.place found.command p) one found.is in
              elim (order-of (count_of with s (take found.place commands)) (count_of with s (take i commands))) [
                | inl less ↦ (there_now.is.others (count_of with s (take i commands)) of less is.here).1
                | inr (inl same) ↦ absurd (differs (some-number p of (slice_get (places_of s) (count_of with s (take i commands))) (ap (slice_get (places_of s)) (sym same) ∙ there_now.here) is.here))
                | inr (inr more) ↦ absurd (let late = (is.is.others (count_of with s (take found.place commands)) p more there_now.here).0 in omega (arith, low))
              ]
        ]
      where
        some-number : (a b : ℕ) (o : Option ℕ) → o ≡ Some a → o ≡ Some b → a ≡ b
        some-number a b o x y = cc

    -- what an end tells of pulls
    ended-pulls : (p of : ℕ) (how : How) → event_at now p ≡ Some (Ended of how) → HasPulls with (before now p) (Ended of how)
    ended-pulls p of how at = elim (below-or p (length past)) [
      | inl low ↦
          subst (λ l. HasPulls with l (Ended of how)) (sym (before-then past now later p (omega arith)))
          (each-at (HasPulls with) past p (Ended of how) through.part.pulls (sym (at-first past now later p low) ∙ at))
      | inr high ↦
          let end : IsRightEnd site usable (before now p) of how = each-at (Stands site usable) now p (Ended of how) right at in
          let called = is-called (event_at (before now p) of) end.call end.called in
          let event = Called called.session end.call in
          let at_of : event_at now of ≡ Some event = (before-at now p of event called.is).0 in
          elim (below-or of (length past)) [
            | inl inside ↦
                let over = begun-over of event (sym (at-first past now later of inside) ∙ at_of) refl in
                let low = ends-once site usable past now later of inside right over p how at in
                absurd (omega arith)
            | inr behind ↦ elim (bool-or (is_pulling (class_of end.call))) [
              | inr plain ↦ subst (λ o. IfSome o (λ call. ArePulls with.servers (class_of call) how (pulls_since (before now p) of))) (sym end.called)
                  (plain-pulls with.servers (class_of end.call) how (pulls_since (before now p) of) plain)
              | inl pulling ↦
                  let found = found-at of event at_of refl behind in
                  let begins = found.is.is.begins in
                  let same_event : begins.0 ≡ event = some-eq begins.0 event (event_at now of) begins.1 at_of in
                  let command : found.command ≡ Control end.call = called-command with h (before now of) called.session end.call found.command (subst (Begins with h (before now of) found.command) same_event begins.2) pulling in
                  let is_new : IsNew found.session found.place (Control end.call) of = subst (λ c. IsNew found.session found.place c of) command found.is in
                  is_new.is.pulls (alone found.session found.place end.call of is_new pulling) p how at
            ]
          ]
    ]

    pulls-at : (p : ℕ) (e : Event) → event_at now p ≡ Some e → HasPulls with (before now p) e
    pulls-at p (Ended of how) at = ended-pulls p of how at
    pulls-at p _ at = tt

    pub part-now : IsPartAt with h all (Waits with all) now (place_in with all now)
    part-now = record { begun = begun-at; only = only; in_turn = in-order; pulls = each-from (HasPulls with) now pulls-at }

    pub few-now : (s : ℕ) → length (begins_of now s) ≤ count_of with s all
    few-now s =
        let ran = of-session s in
        omega (arith, ap length ran.are, length-append (begins_of past s) ran.places, few s, through.counts s, count_of-append with s done commands)

    -- and where no session stopped all is over
    pub through-now : ((s : ℕ) → (does s).others ≡ []) → IsThrough with h all now
    through-now none = record {
      part = part-now;
      counts = λ s.
          let ran = of-session s in
          omega (arith, ap length ran.are, length-append (begins_of past s) ran.places, whole-count s, through.counts s, count_of-append with s done commands);
      over = over-at;
    }
      where
        whole-count : (s : ℕ) → length (places_of s) ≡ count_of with s commands
        whole-count s = omega (arith, (of-session s).count, ap length (does s).split, length-append (does s).first (does s).others, ap length (none s), stream-length with commands s)

        over-at : (i : ℕ) (c : Command) → slice_get all i ≡ Some c → (p : ℕ) × (place_in with all now i ≡ Some p) × IsTrue (is_over now p)
        over-at i c at = elim (split-at i) [
          | inl low ↦ let is = there-old i c at low in (is.place, is.at, is.over)
          | inr (j, is_j) ↦
              let s = session_of with c in
              let at_j = late i j c at is_j in
              let low : count_of with s (take j commands) < length (stream_of with commands s) = slice_get_within (stream_of with commands s) (count_of with s (take j commands)) c (in-stream with s commands j c at_j refl) in
              let is = there-new i j c at is_j (omega (arith, low, whole-count s, stream-length with commands s)) in
              (is.place, is.at, is.over)
        ]

-- Where each session has done all of its commands.
abbrev all-first : (with : Use) (h : List Dimension) (commands : List Command) (past now : List Event) → EachDoes with h commands past now → EachDoesFirst with h commands past now
all-first with h commands past now does s = record { first = stream_of with commands s; others = []; split = sym (append-nil (stream_of with commands s)); does = does s }

pub through-all : (site : Site) (usable : ℕ → Bool) (with : Use) (h : List Dimension) (done commands : List Command) (past now : List Event) → EachEvent (Stands site usable) now
    → IsThrough with h done past → EachDoes with h commands past now → GoTogether with done commands → IsThrough with h (done ++ commands) now
through-all site usable with h done commands past now right through does together =
    let firsts = all-first with h commands past now does in
    through-now site usable with h done commands past now right through firsts together (λ s. refl)
