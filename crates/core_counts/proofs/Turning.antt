-- A part that is taken leaves what is ahead of its desk's parts; one that goes on or ends makes it less.
use Rattle.std.proofs.{Common.{◌≡◌, ◌≢◌, ◌∙◌, inl, inr, ℕ, ◌+◌, ◌≤◌, List, [], ◌∷◌, ◌++◌, Bool, true, false, take, drop, Option, Some, None, refl, sym, ap, subst, arith, ◌||◌, eqb}, lemmas.Bool.{eqb-false, eqb-true, or_right}, lemmas.List.Sums.sum_by-cons}
use Rattle.std.specs.Prelude.{if◌then◌else◌, slice_set}
use Rattle.query_router.specs.{Desk.{DeskValue, expanded, is_open, is_taken, is_waiting, is_with, state_is_taken, state_waits, taken_from}, declared.part.Part.Part, declared.part.PartState.PartState}
use Rattle.query_router.specs.declared.part.Want.TheVariants as want
use Rattle.row_ledger.specs.declared.event.Event.{Event}
use Rattle.list_words.proofs.Truth.{on_bool}
use Rattle.core_shard.proofs.{BackFacts.{in-place, one-turned}, FarLess.far-split, ForwardsPart.far-forward}
use Rattle.core_shard.specs.volap_cell.proofs.{Desks.Facts.with-parts, Desks.Lists.{place-set, place-splits, sum-exchanged}, Desks.Shared.{TurnsParts, turned-parts}, Histories.Books.{gate-desk, one-desk, table-desk}, Views.Fields.IsNewAt, Views.Frames.actor-at, Views.Parts.{view-expand, view-finish_part, view-forward, view-take_part}, Views.Shown.held-leads}
use Rattle.core_shard.specs.volap_cell.specs.{Cells.tag_of, Falls.far, Ghost.Ghost, Invariant.InvWith, Setting.{Setting, site_in}, ShardKinds.{DoesExpand, DoesFinishPart, DoesForward, DoesTakePart, IsDeskFor, IsOutcome, PutsChildren, Unpins, child_for, errand_for, path_in, pin_of, waiting}, Steps.history_in, Values.{ActorValue, ErrandValue, OfRow, Read, TaskValue, Unread}, View.{View, view}, World.{Agrees, Change, World, after}, declared.command.Command.Command, declared.role.Role.Role, declared.role.Role.TheVariants.Session}
use Rattle.core_counts.specs.Ahead.{ahead, ahead_of}

-- an actor takes a part, of its own server's desk where it is a session
pub record TakesPart (s : Setting) (n : ℕ) (w now : World) : Type 0 where
  pub history : history_in now ≡ history_in w
  pub command : (now.actors n).command ≡ (w.actors n).command
  pub e : ErrandValue
  pub errand : (now.actors n).errand ≡ Some e
  pub own : (server : ℕ) → (w.actors n).role ≡ Session server → e.server ≡ server
  pub few : (server : ℕ) → ahead s.workers (history_in w) ((view s now).desks server).parts ≤ ahead s.workers (history_in w) ((view s w).desks server).parts

-- an actor sends its part on, or ends it
pub record EndsPart (s : Setting) (n : ℕ) (w now : World) : Type 0 where
  pub history : history_in now ≡ history_in w
  pub command : (now.actors n).command ≡ (w.actors n).command
  pub e : ErrandValue
  pub had : (w.actors n).errand ≡ Some e
  pub none : (now.actors n).errand ≡ None
  pub fewer : ahead s.workers (history_in w) ((view s now).desks e.server).parts + 1 ≤ ahead s.workers (history_in w) ((view s w).desks e.server).parts
  pub elsewhere : (server : ℕ) → server ≢ e.server → (view s now).desks server ≡ (view s w).desks server

-- What is ahead of one part.

module _ (workers : ℕ) (h : List Event) where
  open-ahead : (p : Part) → is_open p ≡ true → ahead_of workers h p ≡ far workers h p.shard p.worker
  open-ahead p is = rw is refl

  ended-ahead : (p : Part) → is_open p ≡ false → ahead_of workers h p ≡ 0
  ended-ahead p is = rw is refl

  -- one that is with a worker
  with-ahead : (shard worker : ℕ) (p : Part) → is_with shard worker p ≡ true → ahead_of workers h p ≡ far workers h shard worker
  with-ahead shard worker p is =
      let parts = with-parts shard worker p is in
      open-ahead p (or_right (is_waiting p) (is_taken p) parts.2) ∙ (λ k. far workers h (parts.0 k) (parts.1 k))

  far-least : (x w : ℕ) → 1 ≤ far workers h x w
  far-least x w = omega arith

  one-ahead : (p : Part) → ahead workers h (p ∷ []) ≡ ahead_of workers h p
  one-ahead p = (let all = sum_by-cons (ahead_of workers h) p [] in omega (arith, all))

  two-ahead : (p q : Part) → ahead workers h (p ∷ q ∷ []) ≡ ahead_of workers h p + ahead_of workers h q
  two-ahead p q = (let all = sum_by-cons (ahead_of workers h) p (q ∷ []) in let rest = one-ahead q in omega (arith, all, rest))

  -- where others stand in the place of one
  turn-ahead : (desks desks_now : ℕ → DeskValue) (server : ℕ) (front : List Part) (old : Part) (news behind : List Part) → TurnsParts desks desks_now server front old news behind
      → ahead workers h (desks_now server).parts + ahead_of workers h old ≡ ahead workers h (desks server).parts + ahead workers h news
  turn-ahead desks desks_now server front old news behind turn =
      let sums = sum-exchanged (ahead_of workers h) front news behind old in
      let now : ahead workers h (desks_now server).parts ≡ ahead workers h (front ++ (news ++ behind)) = ap (λ (d : DeskValue). ahead workers h d.parts) turn.is in
      let was : ahead workers h (desks server).parts ≡ ahead workers h (front ++ old ∷ behind) = ap (ahead workers h) turn.was in
      omega (arith, sums, now, was)

-- a session takes parts of its own server's desk
desk-own : (r : Role) (server : ℕ) (desk : DeskValue) (command : Option Command) → IsDeskFor r server desk command → (x : ℕ) → r ≡ Session x → server ≡ x
desk-own (Session y) server desk (Some c) its x is = (let same : y ≡ x = cc in its.0 ∙ same)
desk-own (Session y) server desk None its x is = absurd its
desk-own _ server desk command its x is = absurd (cc)

-- a part at its end is open no more
outcome-ends : (task : TaskValue) (st : PartState) → IsOutcome task st → (state_waits st || state_is_taken st) ≡ false
outcome-ends (OfRow r) st (inl done) = rw (done.1) refl
outcome-ends (OfRow r) st (inr refused) = rw (refused.1) refl
outcome-ends (Unread f) st done = rw done refl
outcome-ends (Read r) st (inl done) = rw (done.1) refl
outcome-ends (Read r) st (inr refused) = rw (refused.1) refl

module _ (s : Setting) (w : World) (n : ℕ) (b : ActorValue) (g : Ghost) (i : InvWith s (view s w) g) where
  abbrev v : View
  v = view s w

  abbrev h : List Event
  h = history_in w

  field-at : {A : Type 0} (f : ActorValue → A) (cs : List Change) → f ((after w cs n b).actors n) ≡ f b
  field-at f cs = ap f (actor-at w.actors n b)

  by-place : (desks desks_now : ℕ → DeskValue) (server : ℕ) → ((x : ℕ) → x ≢ server → desks_now x ≡ desks x) → ahead s.workers h (desks_now server).parts ≤ ahead s.workers h (desks server).parts
      → (x : ℕ) → ahead s.workers h (desks_now x).parts ≤ ahead s.workers h (desks x).parts
  by-place desks desks_now server off here x = on_bool (eqb x server)
      (λ q. subst (λ (y : ℕ). ahead s.workers h (desks_now y).parts ≤ ahead s.workers h (desks y).parts) (sym (eqb-true x server q)) here)
      (λ q. let out = off x (eqb-false x server q) in let even = ap (λ (d : DeskValue). ahead s.workers h d.parts) out in omega (arith, even))

  pub takes-part : (d : Change) → Agrees w (d ∷ []) n (w.actors n) → DoesTakePart d (w.actors n) b → TakesPart s n w (after w (d ∷ []) n b)
  takes-part d ag does =
      let desk = does.desk in
      let part = does.part in
      let front = take does.place desk.parts in
      let behind = drop (does.place + 1) desk.parts in
      let u = view s (after w (d ∷ []) n b) in
      let books = one-desk s w n b i.numbering.tag d ag.cells does.turns in
      let turn : TurnsParts v.desks u.desks does.server front part (taken_from part ∷ []) behind =
      turned-parts v.desks u.desks does.server desk (slice_set desk.parts does.place (taken_from part)) front part (taken_from part ∷ []) behind books.1
      (place-splits desk.parts does.place part does.part_at) (place-set desk.parts does.place part (taken_from part) does.part_at) in
      let waits : is_open part ≡ true = ap (λ (st : PartState). state_waits st || state_is_taken st) does.waits in
      let was = open-ahead s.workers h part waits in
      let now = one-ahead s.workers h (taken_from part) in
      let sums = turn-ahead s.workers h v.desks u.desks does.server front part (taken_from part ∷ []) behind turn in
      let here : ahead s.workers h (u.desks does.server).parts ≤ ahead s.workers h (v.desks does.server).parts = omega (arith, was, now, sums) in
      record {
        history = ap (λ (z : View). z.history) (view-take_part s w n d (w.actors n) b ag does);
        command = field-at (λ (x : ActorValue). x.command) (d ∷ []) ∙ ap (λ (x : ActorValue). x.command) does.actor_is;
        e = errand_for does.server part does.wanted;
        errand = field-at (λ (x : ActorValue). x.errand) (d ∷ []) ∙ ap (λ (x : ActorValue). x.errand) does.actor_is;
        own = desk-own (w.actors n).role does.server desk (w.actors n).command does.for;
        few = by-place v.desks u.desks does.server turn.elsewhere here;
      }

  -- others stand in the place of the part of an errand, and less is ahead of them
  ends-part : (cs : List Change) (e : ErrandValue) (front : List Part) (old : Part) (news behind : List Part) → TurnsParts v.desks (view s (after w cs n b)).desks e.server front old news behind → is_with e.shard e.worker old ≡ true
      → ahead s.workers h news + 1 ≤ far s.workers h e.shard e.worker → (w.actors n).errand ≡ Some e → b.errand ≡ None → b.command ≡ (w.actors n).command → history_in (after w cs n b) ≡ h → EndsPart s n w (after w cs n b)
  ends-part cs e front old news behind turn with less had none command history =
      let sums = turn-ahead s.workers h v.desks (view s (after w cs n b)).desks e.server front old news behind turn in
      let was = with-ahead s.workers h e.shard e.worker old with in
      record {
        history = history;
        command = field-at (λ (x : ActorValue). x.command) cs ∙ command;
        e = e;
        had = had;
        none = field-at (λ (x : ActorValue). x.errand) cs ∙ none;
        fewer = omega (arith, sums, was, less);
        elsewhere = turn.elsewhere;
      }

  pub forwards-part : (m d : Change) → Agrees w (m ∷ d ∷ []) n (w.actors n) → DoesForward m d (w.actors n) b → EndsPart s n w (after w (m ∷ d ∷ []) n b)
  forwards-part m d ag does =
      let e = does.e in
      let part = waiting e.shard does.to does.path does.wanted in
      let place = does.puts.0 in
      let desk = does.puts.1.desk in
      let leads = held-leads s w i.numbering.tag m ag.cells.0 e.worker e.shard _ does.leads in
      let new = table-desk s w n b i.numbering.tag m d ag.cells e.worker (ap tag_of does.leads.was) does.leads.same does.puts.1.turns in
      let found = in-place e desk.parts place does.puts.1.found in
      let turn = one-turned v.desks (view s (after w (m ∷ d ∷ []) n b)).desks e.server desk e place found.0 part new.1 found.1 in
      let fewer = far-forward s v g i e.shard e.worker does.to leads.1 in
      let one = one-ahead s.workers h part in
      ends-part (m ∷ d ∷ []) e (take place desk.parts) found.0 (part ∷ []) (drop (place + 1) desk.parts) turn found.1.with (omega (arith, fewer, one))
      does.errand (ap (λ (x : ActorValue). x.errand) does.actor_is) (ap (λ (x : ActorValue). x.command) does.actor_is) (ap (λ (z : View). z.history) (view-forward s w n m d (w.actors n) b ag does))

  module _ (pinned : List Change) (d : Change) (ag : Agrees w (pinned ++ d ∷ []) n (w.actors n)) (does : DoesFinishPart pinned d (w.actors n) b) where
    abbrev e : ErrandValue
    e = does.e

    abbrev ended : Part
    ended = record { shard = e.shard; worker = e.worker; path = path_in e.task; state = does.outcome }

    abbrev desk : DeskValue
    desk = does.puts.1.desk

    abbrev u : View
    u = view s (after w (pinned ++ d ∷ []) n b)

    finishes-so : IsNewAt u.desks v.desks e.server desk (record desk { parts = slice_set desk.parts does.puts.0 ended }) → EndsPart s n w (after w (pinned ++ d ∷ []) n b)
    finishes-so new =
        let place = does.puts.0 in
        let found = in-place e desk.parts place does.puts.1.found in
        let turn = one-turned v.desks u.desks e.server desk e place found.0 ended new found.1 in
        let none = ended-ahead s.workers h ended (outcome-ends e.task does.outcome does.is_outcome) in
        let one = one-ahead s.workers h ended in
        let some = far-least s.workers h e.shard e.worker in
        ends-part (pinned ++ d ∷ []) e (take place desk.parts) found.0 (ended ∷ []) (drop (place + 1) desk.parts) turn found.1.with (omega (arith, none, one, some))
        does.errand (ap (λ (x : ActorValue). x.errand) does.actor_is) (ap (λ (x : ActorValue). x.command) does.actor_is) (ap (λ (z : View). z.history) (view-finish_part s w n pinned d (w.actors n) b ag does))

  pub finishes-part : (d : Change) → Agrees w (d ∷ []) n (w.actors n) → DoesFinishPart [] d (w.actors n) b → EndsPart s n w (after w (d ∷ []) n b)
  finishes-part d ag does = (let new = one-desk s w n b i.numbering.tag d ag.cells does.puts.1.turns in finishes-so [] d ag does new.1)

  pub finishes-pinned : (p d : Change) → Agrees w (p ∷ d ∷ []) n (w.actors n) → DoesFinishPart (p ∷ []) d (w.actors n) b → EndsPart s n w (after w (p ∷ d ∷ []) n b)
  finishes-pinned p d ag does = with-pin (pin_of does.e.task) does.unpins
    where
      with-pin : (pin : Option ℕ) → Unpins pin (p ∷ []) → EndsPart s n w (after w (p ∷ d ∷ []) n b)
      with-pin None none = absurd none
      with-pin (Some c) (number, gates) =
          let (gate, gate_now, turns, less) = gates in
          let books = gate-desk s w n b i.numbering.tag p d ag.cells turns does.puts.1.turns in
          finishes-so (p ∷ []) d ag does books.1

  module _ (m d : Change) (ag : Agrees w (m ∷ d ∷ []) n (w.actors n)) (does : DoesExpand s.hierarchy m d (w.actors n) b) where
    abbrev x : ErrandValue
    x = does.e

    split-far : far s.workers h does.left x.worker + far s.workers h does.right x.worker + 1 ≤ far s.workers h x.shard x.worker
    split-far =
        let leads = held-leads s w i.numbering.tag m ag.cells.0 x.worker x.shard _ does.leads in
        far-split (site_in s) g.placed h i.telling.right.right.each x.shard does.left does.right (i.lineage.divided x.worker x.shard does.left does.right does.plane leads.1).1 x.worker

    expands-so : (front : List Part) (old : Part) (news behind : List Part) → TurnsParts v.desks (view s (after w (m ∷ d ∷ []) n b)).desks x.server front old news behind → is_with x.shard x.worker old ≡ true
        → ahead s.workers h news + 1 ≤ far s.workers h x.shard x.worker → EndsPart s n w (after w (m ∷ d ∷ []) n b)
    expands-so front old news behind turn with less =
        ends-part (m ∷ d ∷ []) x front old news behind turn with less does.errand (ap (λ (y : ActorValue). y.errand) does.actor_is) (ap (λ (y : ActorValue). y.command) does.actor_is)
        (ap (λ (z : View). z.history) (view-expand s w n s.hierarchy m d (w.actors n) b ag does))

    -- the child on either side is nearer
    child-far : (c : Bool) → far s.workers h (if c then does.left else does.right) x.worker + 1 ≤ far s.workers h x.shard x.worker
    child-far true = (let both = split-far in omega (arith, both))
    child-far false = (let both = split-far in omega (arith, both))

    expands-task : (task : TaskValue) → PutsChildren s.hierarchy x task does.plane does.left does.right d → EndsPart s n w (after w (m ∷ d ∷ []) n b)
    expands-task (OfRow r) (place, puts) =
        let child = child_for s.hierarchy does.plane does.left does.right r in
        let part = waiting child x.worker (r.path ++ child ∷ []) (want.Row r.row) in
        let new = table-desk s w n b i.numbering.tag m d ag.cells x.worker (ap tag_of does.leads.was) does.leads.same puts.turns in
        let found = in-place x puts.desk.parts place puts.found in
        let turn = one-turned v.desks (view s (after w (m ∷ d ∷ []) n b)).desks x.server puts.desk x place found.0 part new.1 found.1 in
        let one = one-ahead s.workers h part in
        let nearer : far s.workers h child x.worker + 1 ≤ far s.workers h x.shard x.worker = child-far _ in
        expands-so (take place puts.desk.parts) found.0 (part ∷ []) (drop (place + 1) puts.desk.parts) turn found.1.with (omega (arith, one, nearer))
    expands-task (Unread f) (place, puts) =
        let left = waiting does.left x.worker [] (want.Filter f) in
        let right = waiting does.right x.worker [] (want.Filter f) in
        let new = table-desk s w n b i.numbering.tag m d ag.cells x.worker (ap tag_of does.leads.was) does.leads.same puts.turns in
        let found = in-place x puts.desk.parts place puts.found in
        let turn = turned-parts v.desks (view s (after w (m ∷ d ∷ []) n b)).desks x.server puts.desk (expanded puts.desk.parts place left right) (take place puts.desk.parts) found.0 (left ∷ right ∷ []) (drop (place + 1) puts.desk.parts) new.1
        (place-splits puts.desk.parts place found.0 found.1.here) refl in
        let two = two-ahead s.workers h left right in
        let both = split-far in
        expands-so (take place puts.desk.parts) found.0 (left ∷ right ∷ []) (drop (place + 1) puts.desk.parts) turn found.1.with (omega (arith, two, both))
    expands-task (Read r) puts = absurd puts

    pub expands-part : EndsPart s n w (after w (m ∷ d ∷ []) n b)
    expands-part = expands-task x.task does.puts
