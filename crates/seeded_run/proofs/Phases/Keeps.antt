-- What a step keeps of what holds between the steps of a phase.
use Rattle.std.proofs.{Common.{◌≡◌, ◌≢◌, ◌∙◌, ℕ, ◌+◌, ◌-◌, ◌<◌, ◌≤◌, ◌⊎◌, inl, inr, Bool, true, false, List, [], ◌∷◌, ◌++◌, length, drop, Option, Some, None, refl, sym, ap, subst, arith}, lemmas.Bool.{eq-eqb, eqb-true}}
use Rattle.std.specs.{Option.option_map_or, Prelude.{◌==◌, ◌||◌, IfSome, IsTrue, is_some, option_map, option_and_then, slice_get, if◌then◌else◌}}
use Rattle.dim_hierarchy.specs.Dimension.{Dimension}
use Rattle.list_words.proofs.Elements.{Some-same}
use Rattle.row_ledger.proofs.Positions.{event_at-older, event_at-past}
use Rattle.row_ledger.specs.{Classes.class_of, Past.{before, call_at, call_in, end_in, ends_itself, event_at, has_ended, is_end_of, is_over, pull_in, session_in}, Settled.pulls_since, declared.event.Event.Event, declared.settings.Call.Call, declared.settings.How.How, declared.settings.Use.Use}
use Rattle.row_ledger.specs.declared.event.Event.TheVariants as event
use Rattle.row_ledger.specs.declared.class.Class.TheVariants as class_is
use Rattle.row_ledger.specs.declared.class.Subject.TheVariants.{Groups}
use Rattle.script_form.specs.declared.script.Command.{Command}
use Rattle.script_form.specs.declared.script.Command.TheVariants as script
use Rattle.script_run.proofs.{Begin.begins-none, Between.order-other-law, InPhase.phase_other_law, PlaceFacts.begins_of-other}
use Rattle.script_run.specs.{Between.IsInOrder, Places.{begins_of, count_of, session_of, session_of_call}, Runs.{ArePulls, HasPulls, Begins, BeginsAt}, Streams.IsInPhase}
use Rattle.core_pages.specs.volap_cell.specs.{Commands.{MayNoteEnd, due_pull, once_shown, pulled_once}, Ghost.Ghost, ImageKinds.doing, Invariant.InvWith, Kinds.Does, Setting.Setting, Sights.IsIdle, Steps.{Step, history_in}, Telling.IsProgress, Values.ActorValue, View.view, World.{Change, World}, declared.command.Command.Command as OpenCommand, declared.command.Work.Work}
use Rattle.core_pages.specs.volap_cell.specs.declared.command.Work.TheVariants as work_is
use Rattle.core_pages.specs.volap_cell.specs.declared.kind.Kind.TheVariants as kind
use Rattle.core_told.proofs.{Pulled.{deed-ends, deed-pulls, deed-right, deed-session, end-pulls-none, end-right, plain-pulled, pull-next, pulled-more, pulled-same, right-if, shown-pulled}, Told.{doing-is, none-some, others-law, reuse-tells, told-law}}
use Rattle.core_told.specs.Told.{GoesFurther, HasPulled, OfBeginning, OfDeed, OfEnd, OfNothing, OfPage, OfPull, TellsDeed, TellsEnd, TellsNothing, TellsPage, TellsPull, Told, is_closing_work, is_of_part, is_plain}
use Rattle.seeded_run.proofs.{Holding.LeftAlone.{IsAtCommand, alone-from, alone-parts, apart, at-command, both-parts, closing-off, does-nothing, is-idle, page-closing, plain-open, same-or-not, stuck, true-or, within-of}, Instead.made-as-due, Phases.InTurn.{nobody-else, own-or-over}}
use Rattle.core_due.specs.Due.{does_nothing}
use Rattle.seeded_run.specs.{Can.{can, can_step, is_turn_of}, Cursors.HasCursors, Due.{due, is_alone}, Instead.in_place_of, Kept.{IsTurn, KeepsOtherLaw}, Rests.{PhaseRun, first_open_behind, first_open, is_over_behind, rest_of, stream_of}, Running.{AreAtOwn, AreOthersIdle, IsRunning, RunsBehind, behind, opened_in}, Steps.is_for_part}
use Rattle.core_pages.specs.volap_cell.proofs.{OneEvent.Noted.end-begins-none, Views.Frames.actor-at}

-- Events that neither begin nor end a command.

pub ends-itself-none : (e : Event) → session_in e ≡ None → ends_itself e ≡ false
ends-itself-none (event.Unknown session server dim) none = cc
ends-itself-none (event.Refused session) none = cc
ends-itself-none (event.Begun session server row) none = refl
ends-itself-none (event.Called session call) none = refl
ends-itself-none (event.Asked session server filter) none = refl
ends-itself-none (event.Acked of path) none = refl
ends-itself-none (event.Answered of agg) none = refl
ends-itself-none (event.Failed of) none = refl
ends-itself-none (event.Ended of how) none = refl
ends-itself-none (event.Split of shard left right) none = refl
ends-itself-none (event.Moved of shard worker) none = refl
ends-itself-none (event.Left of shard how) none = refl
ends-itself-none (event.Synced server listing) none = refl
ends-itself-none (event.Shown of page) none = refl

-- what is over is so behind an event that ends nothing, and nothing else is
pub over-same : (e : Event) (past : List Event) (q : ℕ) → end_in e ≡ None → ends_itself e ≡ false → is_over (e ∷ past) q ≡ is_over past q
over-same e past q none itself =
    ap (λ o. (option_map_or (λ of. of == q) o false || has_ended past q) || option_map_or ends_itself (event_at (e ∷ past) q) false) none
    ∙ ap (λ b. has_ended past q || b) (by (q == length past) refl)
  where
    by : (b : Bool) → (q == length past) ≡ b → option_map_or ends_itself (event_at (e ∷ past) q) false ≡ option_map_or ends_itself (event_at past q) false
    by true at =
        let past_at : length past ≤ q = omega (arith, eqb-true q (length past) at) in
        rw at (itself ∙ sym (ap (λ o. option_map_or ends_itself o false) (event_at-past past q past_at)))
    by false at = rw at refl

pub over-end : (e : Event) (past : List Event) (of : ℕ) → end_in e ≡ Some of → is_over (e ∷ past) of ≡ true
over-end e past of end =
    true-or (is_end_of of e || has_ended past of) (option_map_or ends_itself (event_at (e ∷ past) of) false)
    (true-or (is_end_of of e) (has_ended past of) (ap (λ o. option_map_or (λ x. x == of) o false) end ∙ eq-eqb of of refl))

over-or : (o : Option ℕ) (x y : List Event) → ((q : ℕ) → is_over x q ≡ is_over y q) → option_map_or (is_over x) o false ≡ option_map_or (is_over y) o false
over-or None x y same = refl
over-or (Some q) x y same = same q

behind-same : (p : PhaseRun) (e : Event) (past : List Event) (front : List Command) (c : Command) → session_in e ≡ None → end_in e ≡ None → is_over_behind p (e ∷ past) front c ≡ is_over_behind p past front c
behind-same p e past front c none ends =
    let s = session_of p.with c in
    let k = length (begins_of p.before s) + count_of p.with s front in
    ap (λ l. option_map_or (is_over (e ∷ past)) (slice_get l k) false) (begins_of-other e past s (begins-none s e none))
    ∙ over-or (slice_get (begins_of past s) k) (e ∷ past) past (λ q. over-same e past q ends (ends-itself-none e none))

first-behind-same : (p : PhaseRun) (e : Event) (past : List Event) (front cs : List Command) → session_in e ≡ None → end_in e ≡ None → first_open_behind p (e ∷ past) front cs ≡ first_open_behind p past front cs
first-behind-same p e past front [] none ends = refl
first-behind-same p e past front (c ∷ cs) none ends =
    ap (λ b. if b then first_open_behind p (e ∷ past) (front ++ c ∷ []) cs else Some (session_of p.with c)) (behind-same p e past front c none ends)
    ∙ ap (λ o. if is_over_behind p past front c then o else Some (session_of p.with c)) (first-behind-same p e past (front ++ c ∷ []) cs none ends)

pub first-same : (p : PhaseRun) (e : Event) (past : List Event) → session_in e ≡ None → end_in e ≡ None → first_open p (e ∷ past) ≡ first_open p past
first-same p e past none ends = first-behind-same p e past [] p.commands none ends

-- Work.

shown-once : (work work_now : Work) → once_shown work ≡ Some work_now → is_some (once_shown work_now) ≡ false
shown-once (work_is.Page subject true false) work_now is = let same : work_is.Page subject true true ≡ work_now = cc in ap (λ x. is_some (once_shown x)) (sym same)
shown-once (work_is.Page subject true true) work_now is = cc
shown-once (work_is.Page subject false shown) work_now is = cc
shown-once (work_is.Insert row routed) work_now is = cc
shown-once work_is.Query work_now is = cc
shown-once (work_is.Sync server pulled) work_now is = cc
shown-once work_is.Bare work_now is = cc
shown-once (work_is.Settle pulls) work_now is = cc
shown-once (work_is.Action act) work_now is = cc
shown-once (work_is.Balance b) work_now is = cc

-- a pull is a sync's or a settle's
pull-kinds : (servers server : ℕ) (work : Work) → due_pull servers work ≡ Some server
    → ((x : ℕ) × (did : Bool) × (work ≡ work_is.Sync x did)) ⊎ (is_closing_work work ≡ true)
pull-kinds servers server (work_is.Sync x did) is = inl (x, did, refl)
pull-kinds servers server (work_is.Settle pulls) is = inr refl
pull-kinds servers server (work_is.Insert row routed) is = cc
pull-kinds servers server work_is.Query is = cc
pull-kinds servers server work_is.Bare is = cc
pull-kinds servers server (work_is.Action act) is = cc
pull-kinds servers server (work_is.Balance b) is = cc
pull-kinds servers server (work_is.Page subject there shown) is = cc

pulled-closing : (work : Work) → is_closing_work (pulled_once work) ≡ is_closing_work work
pulled-closing (work_is.Sync x did) = refl
pulled-closing (work_is.Settle pulls) = refl
pulled-closing (work_is.Insert row routed) = refl
pulled-closing work_is.Query = refl
pulled-closing work_is.Bare = refl
pulled-closing (work_is.Action act) = refl
pulled-closing (work_is.Balance b) = refl
pulled-closing (work_is.Page subject there shown) = refl

pull-no-page : (servers server : ℕ) (work : Work) → due_pull servers work ≡ Some server → is_some (once_shown (pulled_once work)) ≡ false
pull-no-page servers server (work_is.Sync x did) is = refl
pull-no-page servers server (work_is.Settle pulls) is = refl
pull-no-page servers server (work_is.Insert row routed) is = cc
pull-no-page servers server work_is.Query is = cc
pull-no-page servers server work_is.Bare is = cc
pull-no-page servers server (work_is.Action act) is = cc
pull-no-page servers server (work_is.Balance b) is = cc
pull-no-page servers server (work_is.Page subject there shown) is = cc

-- Commands.

pub same-open : (o : Option ℕ) (a b : ℕ) → o ≡ Some a → o ≡ Some b → a ≡ b
same-open o a b x y = cc

begins-called : (with : Use) (h : List Dimension) (past : List Event) (c : Command) (session server : ℕ) (call : Call) → class_of call ≡ class_is.Sync server → Begins with h past c (event.Called session call) → session ≡ with.servers
begins-called with h past (script.Insert new) session server call class b = absurd b
begins-called with h past (script.Query question) session server call class b = absurd b
begins-called with h past (script.Control called) session server call class b = b.0 ∙ ap (λ (c : Call). session_of_call with (class_of c)) (sym b.1) ∙ ap (session_of_call with) class
begins-called with h past (script.Group dim level filter) session server call class b = absurd (let never : class_is.Page Groups ≡ class_is.Sync server = ap class_of (sym b.1.2) ∙ class in cc)

-- where a cell is used again its actor has to do what it had
reuse-keeps : (s : Setting) (n : ℕ) (w now : World) → Step s kind.Reuse n w now → does_nothing (now.actors n) ≡ does_nothing (w.actors n)
reuse-keeps s n w now step = ap (λ (x : World). does_nothing (x.actors n)) step.now_is ∙ ap does_nothing (actor-at w.actors n step.actor) ∙ by step.changes step.actor step.does
  where
    by : (cs : List Change) (b : ActorValue) → Does s.hierarchy kind.Reuse cs (w.actors n) b → does_nothing b ≡ does_nothing (w.actors n)
    by [] b d = absurd d
    by (c0 ∷ []) b d = absurd d
    by (x ∷ c ∷ []) b d = ap does_nothing d.actor_is
    by (x ∷ y ∷ c ∷ []) b d = ap does_nothing d.actor_is
    by (c0 ∷ c1 ∷ c2 ∷ c3 ∷ more) b d = absurd d

module _ (in_order : Bool) (s : Setting) (p : PhaseRun) (w now : World) (g g_now : Ghost) (next : ℕ → ℕ) (n : ℕ)
    (i : InvWith s (view s w) g) (i_now : InvWith s (view s now) g_now) (turn : IsTurn in_order s p w n now) (r : IsRunning in_order s p w next) where
  -- The other actors.

  pub others : (a : ℕ) → a ≢ n → now.actors a ≡ w.actors a
  others a differs = others-law s turn.made n w now a turn.step differs

  was-at : (a : ℕ) (c : OpenCommand) → a ≢ n → (now.actors a).command ≡ Some c → (w.actors a).command ≡ Some c
  was-at a c differs at = ap (λ (x : ActorValue). x.command) (sym (others a differs)) ∙ at

  pub opened-other : (t : ℕ) → t ≢ n → opened_in now t ≡ opened_in w t
  opened-other t differs = ap (λ (x : ActorValue). option_map (λ (c : OpenCommand). c.of) x.command) (others t differs)

  -- Where a cell is used again nothing is told, and the actor has as much to do as before.

  used-again : turn.due_kind ≡ kind.Reuse → turn.made ≡ kind.Reuse
  used-again is = made-as-due turn.due_kind turn.made (ap in_place_of is) turn.stands ∙ is

  same-history : turn.due_kind ≡ kind.Reuse → history_in now ≡ history_in w
  same-history is = (reuse-tells s n w now g g_now i i_now (subst (λ k. Step s k n w now) (used-again is) turn.step)).history

  same-work : turn.due_kind ≡ kind.Reuse → does_nothing (now.actors n) ≡ does_nothing (w.actors n)
  same-work is = reuse-keeps s n w now (subst (λ k. Step s k n w now) (used-again is) turn.step)

  -- beside an open command of another actor that closes the phase nothing else is made
  reuse-beside : (a : ℕ) (c : OpenCommand) → a ≢ n → (now.actors a).command ≡ Some c → is_closing_work c.work ≡ true → turn.due_kind ≡ kind.Reuse
  reuse-beside a c differs at closing =
      let was = was-at a c differs at in
      stuck s w g i (rest_of p (history_in w)) a n c turn.due_kind was (closing-off c.work closing) (r.closing a c was closing) turn.within (λ e. differs (sym e)) turn.is_due

  -- commands stand in the history
  pub of-within : (a : ℕ) (c : OpenCommand) → (w.actors a).command ≡ Some c → c.of < length (history_in w)
  of-within a c at = omega (arith, i.telling.last a c.of (i.telling.own a c at), i.telling.within a)

  -- What is told of the actor's own command.
  pub record Own : Type 0 where
    pub closing : (c : OpenCommand) → (now.actors n).command ≡ Some c → is_closing_work c.work ≡ true → is_alone s w (rest_of p (history_in w)) n ≡ true
    pub pages : (c : OpenCommand) → (now.actors n).command ≡ Some c → is_some (once_shown c.work) ≡ true → length (history_in now) ≡ c.of + 1

  own-further : GoesFurther (w.actors n).command (now.actors n).command → Own
  own-further f = record { closing = λ c at closing. absurd (not-plain c at closing); pages = λ c at page. absurd (not-plain c at (page-closing c.work page)) }
    where
      not-plain : (c : OpenCommand) → (now.actors n).command ≡ Some c → is_closing_work c.work ≡ true → ⊥
      not-plain c at closing =
          let same = (doing-is (now.actors n).command c f.of f.work_now at f.is).1 in
          plain-open f.work_now f.plain_now (ap is_closing_work (sym same) ∙ closing)

  own-nothing : TellsNothing n w now → Own
  own-nothing t = elim t.stays [
    | inl same ↦ record {
      closing = λ c at closing. r.closing n c (sym same ∙ at) closing;
      pages = λ c at page. ap length t.history ∙ (r.pages n c (sym same ∙ at) page).1;
    }
    | inr f ↦ own-further f
  ]

  own-page : TellsPage n w now → Own
  own-page t = record {
    closing = λ c at closing. r.closing n (record { of = t.of; work = t.work }) t.was (page-closing t.work (ap is_some t.once));
    pages = λ c at page. apart (is_some (once_shown c.work)) page (ap (λ x. is_some (once_shown x)) (doing-is (now.actors n).command c t.of t.work_now at t.is).1 ∙ shown-once t.work t.work_now t.once);
  }

  own-pull : TellsPull s n w now → Own
  own-pull t = record {
    closing = λ c at closing. r.closing n (record { of = t.of; work = t.work }) t.was
        (sym (pulled-closing t.work) ∙ ap is_closing_work (sym (doing-is (now.actors n).command c t.of (pulled_once t.work) at t.is).1) ∙ closing);
    pages = λ c at page. apart (is_some (once_shown c.work)) page (ap (λ x. is_some (once_shown x)) (doing-is (now.actors n).command c t.of (pulled_once t.work) at t.is).1 ∙ pull-no-page s.servers t.server t.work t.due);
  }

  own-end : TellsEnd s turn.made n w now → Own
  own-end t = record { closing = λ c at closing. none-some (now.actors n).command c t.command at; pages = λ c at page. none-some (now.actors n).command c t.command at }

  -- All of it again.

  module _ (next_now : ℕ → ℕ) (rest_others : (t : ℕ) → t ≢ n → rest_of p (history_in now) t ≡ rest_of p (history_in w) t) where
    alone-kept : is_alone s w (rest_of p (history_in w)) n ≡ true → is_alone s now (rest_of p (history_in now)) n ≡ true
    alone-kept alone = alone-from s now (rest_of p (history_in now)) n (λ a low differs.
        let parts = alone-parts s w (rest_of p (history_in w)) n a alone low differs in
        (subst IsIdle (sym (others a differs)) parts.0, rest_others a differs ∙ parts.1))

    -- beside a cell that is used again, so is each other actor
    alone-beside : turn.due_kind ≡ kind.Reuse → (a : ℕ) → is_alone s w (rest_of p (history_in w)) a ≡ true → is_alone s now (rest_of p (history_in now)) a ≡ true
    alone-beside reuse a alone = alone-from s now (rest_of p (history_in now)) a (λ b low differs.
        let parts = alone-parts s w (rest_of p (history_in w)) a b alone low differs in
        (still-idle b parts.0, ap (λ h. rest_of p h b) (same-history reuse) ∙ parts.1))
      where
        still-idle : (b : ℕ) → IsIdle (w.actors b) → IsIdle (now.actors b)
        still-idle b idle = elim (same-or-not b n) [
          | inl is ↦ is-idle (now.actors b) (ap (λ x. does_nothing (now.actors x)) is ∙ same-work reuse ∙ ap (λ x. does_nothing (w.actors x)) (sym is) ∙ does-nothing (w.actors b) idle)
          | inr other ↦ subst IsIdle (sym (others b other)) idle
        ]

    closing-now : Own → (a : ℕ) (c : OpenCommand) → (now.actors a).command ≡ Some c → is_closing_work c.work ≡ true → is_alone s now (rest_of p (history_in now)) a ≡ true
    closing-now own a c at closing = elim (same-or-not a n) [
      | inl is ↦ subst (λ x. is_alone s now (rest_of p (history_in now)) x ≡ true) (sym is) (alone-kept (own.closing c (ap (λ x. (now.actors x).command) (sym is) ∙ at) closing))
      | inr differs ↦ alone-beside (reuse-beside a c differs at closing) a (r.closing a c (was-at a c differs at) closing)
    ]

    pages-now : Own → (a : ℕ) (c : OpenCommand) → (now.actors a).command ≡ Some c → is_some (once_shown c.work) ≡ true → length (history_in now) ≡ c.of + 1
    pages-now own a c at page = elim (same-or-not a n) [
      | inl is ↦ own.pages c (ap (λ x. (now.actors x).command) (sym is) ∙ at) page
      | inr differs ↦ ap length (same-history (reuse-beside a c differs at (page-closing c.work page))) ∙ (r.pages a c (was-at a c differs at) page).1
    ]

    pub kept-by : (now.actors n).counted ≡ (w.actors n).counted → Own → HasCursors p (history_in now) next_now → AreAtOwn p next_now → (in_order ≡ true → AreOthersIdle p now) → IsRunning in_order s p now next_now
    kept-by counted own cursors at_own idle = record {
      roles = r.roles;
      phase = r.phase;
      cursors = cursors;
      own = at_own;
      closing = closing-now own;
      pages = λ a c at page. (closing-now own a c at (page-closing c.work page), pages-now own a c at page);
      nobody = λ a. elim (same-or-not a n) [
        | inl is ↦ ap (λ x. (now.actors x).counted) is ∙ counted ∙ r.nobody n
        | inr differs ↦ ap (λ (x : ActorValue). x.counted) (others a differs) ∙ r.nobody a
      ];
      idle = idle;
    }

  -- Histories without a beginning.

  -- no session has begun anything
  abbrev BeginsNone : Type 0
  BeginsNone = (t : ℕ) → begins_of (history_in now) t ≡ begins_of (history_in w) t

  no-event : history_in now ≡ history_in w → BeginsNone
  no-event is t = ap (λ x. begins_of x t) is

  one-event : (e : Event) → history_in now ≡ e ∷ history_in w → session_in e ≡ None → BeginsNone
  one-event e is none t = ap (λ x. begins_of x t) is ∙ begins_of-other e (history_in w) t (begins-none t e none)

  two-events : (e d : Event) → history_in now ≡ e ∷ d ∷ history_in w → session_in e ≡ None → session_in d ≡ None → BeginsNone
  two-events e d is none_e none_d t =
      ap (λ x. begins_of x t) is ∙ begins_of-other e (d ∷ history_in w) t (begins-none t e none_e) ∙ begins_of-other d (history_in w) t (begins-none t d none_d)

  none-with-end : TellsEnd s turn.made n w now → BeginsNone
  none-with-end t = elim t.are_deeds [
    | inl none ↦ one-event t.end_is (t.history ∙ ap (λ ds. t.end_is ∷ ds ++ history_in w) none) (end-begins-none t.end_is t.of t.ends.0)
    | inr (deed, is, that) ↦ two-events t.end_is deed (t.history ∙ ap (λ ds. t.end_is ∷ ds ++ history_in w) is) (end-begins-none t.end_is t.of t.ends.0) (deed-session deed that)
  ]

  rest-so : BeginsNone → (t : ℕ) → rest_of p (history_in now) t ≡ rest_of p (history_in w) t
  rest-so none t = ap (λ l. drop (length l - length (begins_of p.before t)) (stream_of p.with p.commands t)) (none t)

  -- One after the other.

  turn-of : in_order ≡ true → is_turn_of (first_open p (history_in w)) n (due s p w n) ≡ true
  turn-of order = (both-parts (is_turn_of (first_open p (history_in w)) n (due s p w n)) (can s p w n) (ap (λ b. can_step b s p w n) (sym order) ∙ turn.can)).0

  -- the first command that isn't over is the actor's, or all are over, and a cell is used again
  first-or-over : in_order ≡ true → (first_open p (history_in w) ≡ Some n) ⊎ ((first_open p (history_in w) ≡ None) × (turn.due_kind ≡ kind.Reuse))
  first-or-over order = elim (own-or-over (first_open p (history_in w)) n (due s p w n) (turn-of order)) [
    | inl own ↦ inl own
    | inr over ↦ inr (over.0, Some-same kind.Reuse turn.due_kind (sym over.1 ∙ turn.is_due))
  ]

  -- it is the actor's where the step is of its command
  pub can-first : is_of_part turn.made ≡ false → in_order ≡ true → first_open p (history_in w) ≡ Some n
  can-first of_command order = elim (first-or-over order) [
    | inl own ↦ own
    | inr over ↦ apart (is_of_part turn.made) (ap is_of_part (used-again over.1)) of_command
  ]

  pub idle-from : (first_open p (history_in now) ≢ Some n → does_nothing (now.actors n) ≡ true) → (order : in_order ≡ true) → (a : ℕ) → first_open p (history_in now) ≢ Some a → does_nothing (now.actors a) ≡ true
  idle-from own order a differs = elim (same-or-not a n) [
    | inl is ↦ ap (λ x. does_nothing (now.actors x)) is ∙ own (λ here. differs (here ∙ ap Some (sym is)))
    | inr other ↦ ap does_nothing (others a other) ∙ r.idle order a (nobody-else (first_open p (history_in w)) n (due s p w n) (turn-of order) a other)
  ]

  -- the actor is at its command
  pub is-at-command : is_of_part turn.made ≡ false → IsAtCommand s w (rest_of p (history_in w)) n turn.due_kind
  is-at-command other = at-command s w (rest_of p (history_in w)) n turn.due_kind turn.is_due (by (is_for_part (w.actors n).errand turn.due_kind) refl)
    where
      by : (b : Bool) → is_for_part (w.actors n).errand turn.due_kind ≡ b → is_for_part (w.actors n).errand turn.due_kind ≡ false
      by false is = is
      by true is = apart (is_of_part turn.made) (turn.of_part is) other

  end-idle : (now.actors n).counted ≡ (w.actors n).counted → TellsEnd s turn.made n w now → does_nothing (now.actors n) ≡ true
  end-idle counted t =
      let at = is-at-command t.of_command in
      does-nothing (now.actors n) (record {
        command = t.command;
        errand = t.errand ∙ at.errand;
        job = t.job;
        purse = elim t.purse [ inl none ↦ none | inr (same, job) ↦ same ∙ at.purse job ];
        counted = counted ∙ r.nobody n;
      })

  kept-quietly : (now.actors n).counted ≡ (w.actors n).counted → Own → BeginsNone → (in_order ≡ true → first_open p (history_in now) ≢ Some n → does_nothing (now.actors n) ≡ true) → IsRunning in_order s p now next
  kept-quietly counted own none idle =
      kept-by next (λ t differs. rest-so none t) counted own (record { counts = λ t. ap length (none t) ∙ r.cursors.counts t }) r.own (λ order. idle-from (idle order) order)

  clash : (o : Option ℕ) (a : ℕ) → o ≡ None → o ≡ Some a → ⊥
  clash o a x y = cc

  first-stays : first_open p (history_in now) ≡ first_open p (history_in w) → in_order ≡ true → first_open p (history_in now) ≢ Some n → does_nothing (now.actors n) ≡ true
  first-stays same order differs = elim (first-or-over order) [
    | inl own ↦ absurd (differs (same ∙ own))
    | inr over ↦ same-work over.1 ∙ r.idle order n (clash (first_open p (history_in w)) n over.0)
  ]

  pub keeps-other : ((e : Event) → history_in now ≡ e ∷ history_in w → session_in e ≡ None) → (now.actors n).counted ≡ (w.actors n).counted → Told s turn.made n w now → IsRunning in_order s p now next
  keeps-other none counted (OfNothing t) = kept-quietly counted (own-nothing t) (no-event t.history) (first-stays (ap (first_open p) t.history))
  keeps-other none counted (OfDeed t) = kept-quietly counted (own-further t.further) (one-event t.deed t.history (deed-session t.deed t.is_that))
      (first-stays (ap (first_open p) t.history ∙ first-same p t.deed (history_in w) (deed-session t.deed t.is_that) (deed-ends t.deed t.is_that)))
  keeps-other none counted (OfPull t) = kept-quietly counted (own-pull t) (one-event (event.Synced t.server t.listing) t.history refl)
      (first-stays (ap (first_open p) t.history ∙ first-same p (event.Synced t.server t.listing) (history_in w) refl refl))
  keeps-other none counted (OfPage t) = kept-quietly counted (own-page t) (one-event (event.Shown t.of t.page) t.history refl)
      (first-stays (ap (first_open p) t.history ∙ first-same p (event.Shown t.of t.page) (history_in w) refl refl))
  keeps-other none counted (OfEnd t) = kept-quietly counted (own-end t) (none-with-end t) (λ order differs. end-idle counted t)
  keeps-other none counted (OfBeginning t) = absurd (clash (session_in t.begins) n (none t.begins t.history) t.session)

  -- Behind commands that are done.

  module _ (done : List Command) (b : RunsBehind in_order s p done w next) where
    -- a sync is the puller's
    sync-owner : (a : ℕ) (c : OpenCommand) (server : ℕ) (did : Bool) → (w.actors a).command ≡ Some c → c.work ≡ work_is.Sync server did → a ≡ s.servers
    sync-owner a c server did at work =
        let progress = subst (λ x. IsProgress s (history_in w) c.of x (w.actors a).job (w.actors a).role) work (i.telling.progress a c at) in
        by progress.0.0 progress.0.2 (event_at (history_in w) c.of) refl progress.0.1 (i.telling.own a c at)
      where
        called : (call : Call) → class_of call ≡ class_is.Sync server → (session : ℕ) → event_at (history_in w) c.of ≡ Some (event.Called session call) → session ≡ s.servers
        called call class session here =
            let found = b.in_phase.part.only c.of (event.Called session call) here refl in
            let begins = subst (BeginsAt p.with s.hierarchy (history_in w) found.1) found.3 (b.in_phase.part.begun found.0 found.1 found.2) in
            begins-called p.with s.hierarchy (before (history_in w) c.of) found.1 session server call class (subst (Begins p.with s.hierarchy (before (history_in w) c.of) found.1) (same-event (event_at (history_in w) c.of) begins.0 (event.Called session call) begins.1 here) begins.2)
            ∙ r.phase.servers
          where
            same-event : (o : Option Event) (x y : Event) → o ≡ Some x → o ≡ Some y → x ≡ y
            same-event o x y e f = cc

        by : (call : Call) → class_of call ≡ class_is.Sync server → (o : Option Event) → event_at (history_in w) c.of ≡ o → option_and_then call_in o ≡ Some call → option_and_then session_in o ≡ Some a → a ≡ s.servers
        by call class None here is own = cc
        by call class (Some (event.Called session called_is)) here is own =
            let same : called_is ≡ call = cc in
            let whose : session ≡ a = cc in
            sym whose ∙ called call class session (here ∙ ap (λ x. Some (event.Called session x)) same)
        by call class (Some (event.Begun session x row)) here is own = cc
        by call class (Some (event.Asked session x filter)) here is own = cc
        by call class (Some (event.Unknown session x dim)) here is own = cc
        by call class (Some (event.Refused session)) here is own = cc
        by call class (Some (event.Acked of path)) here is own = cc
        by call class (Some (event.Answered of agg)) here is own = cc
        by call class (Some (event.Failed of)) here is own = cc
        by call class (Some (event.Ended of how)) here is own = cc
        by call class (Some (event.Split of shard left right)) here is own = cc
        by call class (Some (event.Moved of shard worker)) here is own = cc
        by call class (Some (event.Left of shard how)) here is own = cc
        by call class (Some (event.Synced x listing)) here is own = cc
        by call class (Some (event.Shown of page)) here is own = cc

    -- what is told of the pulls since the actor's own command began, and since those of others did
    pub record OwnPulls : Type 0 where
      pub pulled : (c : OpenCommand) → (now.actors n).command ≡ Some c → HasPulled s.servers c.work (pulls_since (history_in now) c.of)
      pub pulled_others : (a : ℕ) (c : OpenCommand) → a ≢ n → (w.actors a).command ≡ Some c → HasPulled s.servers c.work (pulls_since (history_in now) c.of)

    -- no pull was made
    no-pull : (e : Event) (past : List Event) → pull_in e ≡ None → (a : ℕ) (c : OpenCommand) → (w.actors a).command ≡ Some c → length (history_in w) ≤ length past
        → HasPulled s.servers c.work (pulls_since past c.of) → HasPulled s.servers c.work (pulls_since (e ∷ past) c.of)
    no-pull e past none a c at long has =
        let low = of-within a c at in
        subst (HasPulled s.servers c.work) (sym (pulled-same e past c.of none (omega (arith, low, long)))) has

    pub one-more : (e : Event) → history_in now ≡ e ∷ history_in w → pull_in e ≡ None → (a : ℕ) (c : OpenCommand) → (w.actors a).command ≡ Some c → HasPulled s.servers c.work (pulls_since (history_in now) c.of)
    one-more e is none a c at =
        subst (λ x. HasPulled s.servers c.work (pulls_since x c.of)) (sym is) (no-pull e (history_in w) none a c at (omega arith) (b.pulled a c at))

    same-pulls : history_in now ≡ history_in w → (a : ℕ) (c : OpenCommand) → (w.actors a).command ≡ Some c → HasPulled s.servers c.work (pulls_since (history_in now) c.of)
    same-pulls is a c at = subst (λ x. HasPulled s.servers c.work (pulls_since x c.of)) (sym is) (b.pulled a c at)

    pulls-further : (f : GoesFurther (w.actors n).command (now.actors n).command) → ((a : ℕ) (c : OpenCommand) → (w.actors a).command ≡ Some c → HasPulled s.servers c.work (pulls_since (history_in now) c.of)) → OwnPulls
    pulls-further f pulls = record {
      pulled = λ c at. plain-pulled s.servers c.work (pulls_since (history_in now) c.of) (ap is_plain (doing-is (now.actors n).command c f.of f.work_now at f.is).1 ∙ f.plain_now);
      pulled_others = λ a c differs at. pulls a c at;
    }

    pulls-nothing : TellsNothing n w now → OwnPulls
    pulls-nothing t = elim t.stays [
      | inl same ↦ record { pulled = λ c at. same-pulls t.history n c (sym same ∙ at); pulled_others = λ a c differs at. same-pulls t.history a c at }
      | inr f ↦ pulls-further f (same-pulls t.history)
    ]

    pulls-page : TellsPage n w now → OwnPulls
    pulls-page t = record {
      pulled = λ c at. subst (λ x. HasPulled s.servers x (pulls_since (history_in now) c.of)) (sym (doing-is (now.actors n).command c t.of t.work_now at t.is).1)
          (shown-pulled s.servers t.work t.work_now (pulls_since (history_in now) c.of) t.once);
      pulled_others = λ a c differs at. one-more (event.Shown t.of t.page) t.history refl a c at;
    }

    -- while the actor pulls nobody else is at a sync or a settle
    pull-alone : TellsPull s n w now → (a : ℕ) (c : OpenCommand) → a ≢ n → (w.actors a).command ≡ Some c → ((server : ℕ) (did : Bool) → c.work ≡ work_is.Sync server did → ⊥) × (is_closing_work c.work ≡ true → ⊥)
    pull-alone t a c differs at = (
      (λ server did work. elim (pull-kinds s.servers t.server t.work t.due) [
        | inl (x, own_did, own) ↦ differs (sync-owner a c server did at work ∙ sym (sync-owner n (record { of = t.of; work = t.work }) x own_did t.was own))
        | inr closing ↦ none-some (w.actors a).command c (alone-parts s w (rest_of p (history_in w)) n a (r.closing n (record { of = t.of; work = t.work }) t.was closing) (within-of s w g i a c at) differs).0.command at
      ]),
      (λ closing. none-some (w.actors n).command (record { of = t.of; work = t.work })
          (alone-parts s w (rest_of p (history_in w)) a n (r.closing a c at closing) turn.within (λ e. differs (sym e))).0.command t.was),
    )

    pulled-if : (servers : ℕ) (work : Work) (pulled : List ℕ) → ((server : ℕ) (did : Bool) → work ≡ work_is.Sync server did → ⊥) → (is_closing_work work ≡ true → ⊥) → HasPulled servers work pulled
    pulled-if servers (work_is.Sync server did) pulled sync closing = absurd (sync server did refl)
    pulled-if servers (work_is.Settle pulls) pulled sync closing = absurd (closing refl)
    pulled-if servers (work_is.Insert row routed) pulled sync closing = tt
    pulled-if servers work_is.Query pulled sync closing = tt
    pulled-if servers work_is.Bare pulled sync closing = tt
    pulled-if servers (work_is.Action act) pulled sync closing = tt
    pulled-if servers (work_is.Balance b) pulled sync closing = tt
    pulled-if servers (work_is.Page subject there shown) pulled sync closing = tt

    pulls-pull : TellsPull s n w now → OwnPulls
    pulls-pull t = record {
      pulled = λ c at.
          let is = doing-is (now.actors n).command c t.of (pulled_once t.work) at t.is in
          let old : OpenCommand = record { of = t.of; work = t.work } in
          let more : pulls_since (history_in now) t.of ≡ pulls_since (history_in w) t.of ++ t.server ∷ [] = ap (λ x. pulls_since x t.of) t.history ∙ pulled-more t.server t.listing (history_in w) t.of (of-within n old t.was) in
          let has : HasPulled s.servers (pulled_once t.work) (pulls_since (history_in now) t.of) = subst (HasPulled s.servers (pulled_once t.work)) (sym more) (pull-next s.servers t.server t.work (pulls_since (history_in w) t.of) t.due (b.pulled n old t.was)) in
          subst (λ x. HasPulled s.servers x (pulls_since (history_in now) c.of)) (sym is.1) (subst (λ x. HasPulled s.servers (pulled_once t.work) (pulls_since (history_in now) x)) (sym is.0) has);
      pulled_others = λ a c differs at. let alone = pull-alone t a c differs at in pulled-if s.servers c.work (pulls_since (history_in now) c.of) alone.0 alone.1;
    }

    pulls-end : TellsEnd s turn.made n w now → OwnPulls
    pulls-end t = record {
      pulled = λ c at. none-some (now.actors n).command c t.command at;
      pulled_others = λ a c differs at. subst (λ x. HasPulled s.servers c.work (pulls_since x c.of)) (sym t.history)
          (elim t.are_deeds [
            | inl none ↦ subst (λ ds. HasPulled s.servers c.work (pulls_since (t.end_is ∷ ds ++ history_in w) c.of)) (sym none)
                (no-pull t.end_is (history_in w) (end-pulls-none t.end_is t.of t.ends.0) a c at (omega arith) (b.pulled a c at))
            | inr (deed, is, that) ↦ subst (λ ds. HasPulled s.servers c.work (pulls_since (t.end_is ∷ ds ++ history_in w) c.of)) (sym is)
                (no-pull t.end_is (deed ∷ history_in w) (end-pulls-none t.end_is t.of t.ends.0) a c at (omega arith)
                (no-pull deed (history_in w) (deed-pulls deed that) a c at (omega arith) (b.pulled a c at)))
          ]);
    }

    -- all of it again
    pub behind-by : (next_now : ℕ → ℕ) → OwnPulls → IsInPhase p.with s.hierarchy (done ++ p.commands) (length done) (history_in now) (behind done next_now) (opened_in now)
        → (in_order ≡ true → IsInOrder p.with s.hierarchy (done ++ p.commands) (history_in now)) → RunsBehind in_order s p done now next_now
    behind-by next_now pulls phase ordered = record {
      through = b.through;
      in_phase = phase;
      pulled = λ a c at. elim (same-or-not a n) [
        | inl is ↦ pulls.pulled c (ap (λ x. (now.actors x).command) (sym is) ∙ at)
        | inr differs ↦ pulls.pulled_others a c differs (was-at a c differs at)
      ];
      ordered = ordered;
    }

    -- the history goes on without a beginning
    record GoesQuietly : Type 0 where
      phase : IsInPhase p.with s.hierarchy (done ++ p.commands) (length done) (history_in now) (behind done next) (opened_in now)
      order : IsInOrder p.with s.hierarchy (done ++ p.commands) (history_in w) → IsInOrder p.with s.hierarchy (done ++ p.commands) (history_in now)

    opened-all : opened_in now n ≡ opened_in w n → (t : ℕ) → opened_in now t ≡ opened_in w t
    opened-all own t = elim (same-or-not t n) [
      | inl is ↦ ap (opened_in now) is ∙ own ∙ ap (opened_in w) (sym is)
      | inr differs ↦ opened-other t differs
    ]

    quiet-still : history_in now ≡ history_in w → opened_in now n ≡ opened_in w n → GoesQuietly
    quiet-still is own = record {
      phase = subst (λ x. IsInPhase p.with s.hierarchy (done ++ p.commands) (length done) x (behind done next) (opened_in now)) (sym is) (record {
        part = b.in_phase.part;
        streams = record {
          counts = b.in_phase.streams.counts;
          begun = λ k c at low.
              let found = b.in_phase.streams.begun k c at low in
              (found.0, found.1, elim found.2 [ inl over ↦ inl over | inr opened ↦ inr (opened-all own (session_of p.with c) ∙ opened) ]);
        };
        past = b.in_phase.past;
      });
      order = λ order. subst (λ x. IsInOrder p.with s.hierarchy (done ++ p.commands) x) (sym is) order;
    }

    quiet-one : (e : Event) → history_in now ≡ e ∷ history_in w → session_in e ≡ None → HasPulls p.with (history_in w) e
        → ((t q : ℕ) → opened_in w t ≡ Some q → IsTrue (is_over (e ∷ history_in w) q) ⊎ (opened_in now t ≡ Some q)) → GoesQuietly
    quiet-one e is none right ends = record {
      phase = subst (λ x. IsInPhase p.with s.hierarchy (done ++ p.commands) (length done) x (behind done next) (opened_in now)) (sym is)
          (phase_other_law p.with s.hierarchy (done ++ p.commands) (length done) e (history_in w) (behind done next) (opened_in w) (opened_in now) b.in_phase none right ends);
      order = λ order. subst (λ x. IsInOrder p.with s.hierarchy (done ++ p.commands) x) (sym is) (order-other-law p.with s.hierarchy (done ++ p.commands) e (history_in w) none right order);
    }

    quiet-two : (e d : Event) → history_in now ≡ e ∷ d ∷ history_in w → session_in e ≡ None → session_in d ≡ None → HasPulls p.with (history_in w) d → HasPulls p.with (d ∷ history_in w) e
        → ((t q : ℕ) → opened_in w t ≡ Some q → IsTrue (is_over (e ∷ d ∷ history_in w) q) ⊎ (opened_in now t ≡ Some q)) → GoesQuietly
    quiet-two e d is none_e none_d right_d right_e ends = record {
      phase = subst (λ x. IsInPhase p.with s.hierarchy (done ++ p.commands) (length done) x (behind done next) (opened_in now)) (sym is)
          (phase_other_law p.with s.hierarchy (done ++ p.commands) (length done) e (d ∷ history_in w) (behind done next) (opened_in w) (opened_in now)
          (phase_other_law p.with s.hierarchy (done ++ p.commands) (length done) d (history_in w) (behind done next) (opened_in w) (opened_in w) b.in_phase none_d right_d (λ t q at. inr at)) none_e right_e ends);
      order = λ order. subst (λ x. IsInOrder p.with s.hierarchy (done ++ p.commands) x) (sym is)
          (order-other-law p.with s.hierarchy (done ++ p.commands) e (d ∷ history_in w) none_e right_e (order-other-law p.with s.hierarchy (done ++ p.commands) d (history_in w) none_d right_d order));
    }

    -- an actor's command stays open
    stays-open : (of : ℕ) (work work_now : Work) → (w.actors n).command ≡ doing of work → (now.actors n).command ≡ doing of work_now → opened_in now n ≡ opened_in w n
    stays-open of work work_now was is = ap (option_map (λ (c : OpenCommand). c.of)) is ∙ sym (ap (option_map (λ (c : OpenCommand). c.of)) was)

    quiet-nothing : TellsNothing n w now → GoesQuietly
    quiet-nothing t = elim t.stays [
      | inl same ↦ quiet-still t.history (ap (option_map (λ (c : OpenCommand). c.of)) same)
      | inr f ↦ quiet-still t.history (stays-open f.of f.work f.work_now f.was f.is)
    ]

    quiet-deed : TellsDeed n w now → GoesQuietly
    quiet-deed t = quiet-one t.deed t.history (deed-session t.deed t.is_that) (deed-right p.with (history_in w) t.deed t.is_that)
        (λ x q at. inr (opened-all (stays-open t.further.of t.further.work t.further.work_now t.further.was t.further.is) x ∙ at))

    quiet-pull : TellsPull s n w now → GoesQuietly
    quiet-pull t = quiet-one (event.Synced t.server t.listing) t.history refl tt (λ x q at. inr (opened-all (stays-open t.of t.work (pulled_once t.work) t.was t.is) x ∙ at))

    quiet-page : TellsPage n w now → GoesQuietly
    quiet-page t = quiet-one (event.Shown t.of t.page) t.history refl tt (λ x q at. inr (opened-all (stays-open t.of t.work t.work_now t.was t.is) x ∙ at))

    -- An end.
    module _ (t : TellsEnd s turn.made n w now) where
      ended : (past : List Event) (x q : ℕ) → opened_in w x ≡ Some q → IsTrue (is_over (t.end_is ∷ past) q) ⊎ (opened_in now x ≡ Some q)
      ended past x q at = elim (same-or-not x n) [
        | inr differs ↦ inr (opened-other x differs ∙ at)
        | inl is ↦
            let of_is : t.of ≡ q = same-open (opened_in w n) t.of q (ap (option_map (λ (c : OpenCommand). c.of)) t.was) (ap (opened_in w) (sym is) ∙ at) in
            inl (over-end t.end_is past q (t.ends.0 ∙ ap Some of_is))
      ]

      right : (past : List Event) → call_at past t.of ≡ call_at (history_in w) t.of → pulls_since past t.of ≡ pulls_since (history_in w) t.of → HasPulls p.with past t.end_is
      right past calls pulls = right-if p.with past t.end_is (λ of h is.
          let of_is : of ≡ t.of = same-open (end_in t.end_is) of t.of (ap end_in is) t.ends.0 in
          let may : (is_plain t.work ≡ true) ⊎ MayNoteEnd s.servers t.work (w.actors n).job h = elim t.ends.1 [
            | inl plain ↦ inl plain
            | inr (how, as_is, may) ↦ inr (subst (MayNoteEnd s.servers t.work (w.actors n).job) (same-how t.end_is of t.of h how is as_is) may)
          ] in
          let there = end-right s (history_in w) past t.of (w.actors n).job (w.actors n).role h calls pulls t.work (i.telling.progress n (record { of = t.of; work = t.work }) t.was) (b.pulled n (record { of = t.of; work = t.work }) t.was) may in
          subst (λ x. HasPulls p.with past (event.Ended x h)) (sym of_is) (subst (λ m. IfSome (call_at past t.of) (λ called. ArePulls m (class_of called) h (pulls_since past t.of))) (sym r.phase.servers) there))
        where
          same-how : (e : Event) (of of_now : ℕ) (h how : How) → e ≡ event.Ended of h → e ≡ event.Ended of_now how → how ≡ h
          same-how e of of_now h how x y = cc

      quiet-end : GoesQuietly
      quiet-end = elim t.are_deeds [
        | inl none ↦ quiet-one t.end_is (t.history ∙ ap (λ ds. t.end_is ∷ ds ++ history_in w) none) (end-begins-none t.end_is t.of t.ends.0) (right (history_in w) refl refl) (ended (history_in w))
        | inr (deed, is, that) ↦
            let low = of-within n (record { of = t.of; work = t.work }) t.was in
            quiet-two t.end_is deed (t.history ∙ ap (λ ds. t.end_is ∷ ds ++ history_in w) is) (end-begins-none t.end_is t.of t.ends.0) (deed-session deed that) (deed-right p.with (history_in w) deed that)
            (right (deed ∷ history_in w) (ap (option_and_then call_in) (event_at-older deed (history_in w) t.of low)) (pulled-same deed (history_in w) t.of (deed-pulls deed that) low))
            (ended (deed ∷ history_in w))
      ]

    other-behind : ((e : Event) → history_in now ≡ e ∷ history_in w → session_in e ≡ None) → Told s turn.made n w now → RunsBehind in_order s p done now next
    other-behind none told = by told
      where
        kept : OwnPulls → GoesQuietly → RunsBehind in_order s p done now next
        kept pulls quiet = behind-by next pulls quiet.phase (λ order. quiet.order (b.ordered order))

        by : Told s turn.made n w now → RunsBehind in_order s p done now next
        by (OfNothing t) = kept (pulls-nothing t) (quiet-nothing t)
        by (OfDeed t) = kept (pulls-further t.further (one-more t.deed t.history (deed-pulls t.deed t.is_that))) (quiet-deed t)
        by (OfPull t) = kept (pulls-pull t) (quiet-pull t)
        by (OfPage t) = kept (pulls-page t) (quiet-page t)
        by (OfEnd t) = kept (pulls-end t) (quiet-end t)
        by (OfBeginning t) = absurd (clash (session_in t.begins) n (none t.begins t.history) t.session)

pub keeps-other-law : KeepsOtherLaw
keeps-other-law in_order s p w now g g_now next n i i_now turn none counted r =
    let told = told-law s turn.made n w now g g_now i i_now turn.step in (
      keeps-other in_order s p w now g g_now next n i i_now turn r none counted told,
      λ done b. other-behind in_order s p w now g g_now next n i i_now turn r done b none told,
    )
