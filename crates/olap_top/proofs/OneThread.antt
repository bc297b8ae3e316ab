-- Phases that one thread runs, by what the core's run says of them.
use Rattle.std.proofs.{Common.{◌≡◌, ◌∙◌, ◌≤◌, ℕ, Bool, true, false, IsTrue, List, [], ◌∷◌, ◌++◌, ◌<◌, take, drop, Result, Ok, Err, refl, sym, ap, subst, arith, length, append-nil, append_assoc}, lemmas.Bool.and_parts, lemmas.List.Folds.list_all-append, lemmas.List.take-append-drop}
use Rattle.dim_hierarchy.specs.Dimension.{Dimension}
use Rattle.row_ledger.proofs.Growth.{IsRight-kept}
use Rattle.row_ledger.specs.{Right.IsRight, Site.site_of, declared.event.Event.Event, declared.settings.Use.Use}
use Rattle.row_ledger.specs.declared.settings.Call.TheVariants as call
use Rattle.script_form.specs.{Fits.Fits, declared.script.Command.Command, declared.script.Script.Script}
use Rattle.script_form.specs.declared.script.Command.TheVariants as command
use Rattle.script_run.proofs.{Between.{order-start-law, through-law}, PhaseEnds.start_law, PhaseFacts.all_of-append, PlaceFacts.places_behind-append, Whole.{part_law, serial_law}}
use Rattle.script_run.specs.{Between.IsThrough, Phases.all_of, Places.{are_over, is_over_at, places, places_behind}, Runs.{IsRunSoFar, IsSerial}}
use Rattle.seeded_run.specs.script_roles.specs.Roles.{roles_of}
use Rattle.threaded_run.specs.actor_run.specs.Halls.{hall_setting}
use Rattle.std.specs.Prelude.{if◌then◌else◌, OnErr, OnOk}
use Rattle.seeded_run.specs.{Can.able_in, Kept.{IsBetween, IsStopped}, Order.is_order, Phase.{IsCoreHeld, IsKeptTurn, MayAllRun, MayRun, NobodyCanStep, RunsTo, StopsAt, about, held, phase_from}, Rests.PhaseRun}
use Rattle.seeded_turns.specs.{Drawn.{Moment, Reaches}, declared.schedule.Schedule.Schedule}
use Rattle.core_laws.specs.volap_cell.specs.{Filling.setting_for, Opening.IsOpening, Setting.Setting, Steps.{Inv, history_in}, World.World, declared.state.State.State}
use Rattle.olap_top.specs.{Alone.{IsBehindPhases, IsFor, IsWithinPhase, history_at}, Engines.{HasBeenRead, HasGoneInto, HasOpenedFor, MayRunNext, HasRunInto, HasRunThrough, IsLeft, IsLeftBehind, IsLeftWithin}, OneRun.{RunPhases, RunsPhase, RunsWhole, alone_in_order, phase_at, setting_alone, setting_of}, Outcomes.{goes_in_order, on_threads, schedule_of, wants_threads}, RunSoFar.HasGrown, declared.alone.OnOneThread.OnOneThread, declared.wanted.Wanted.Wanted}
use Rattle.olap_top.proofs.{Grown.turns-come, Handing.{core-state, held-inv}, PhaseSteps.serial-behind}

-- Stopping.

-- the first of commands that are over are over
pub first-over : (with : Use) (front back : List Command) (history : List Event) → IsTrue (are_over history (places with (front ++ back) history)) → IsTrue (are_over history (places with front history))
first-over with front back history over =
    let split = ap (are_over history) (sym (places_behind-append with [] front back history)) ∙ over in
    (and_parts (are_over history (places with front history)) (are_over history (places_behind with front back history))
    (sym (list_all-append (is_over_at history) (places with front history) (places_behind with front back history)) ∙ split)).0

-- where a phase is through, its run may stop as well
pub between-stopped : (in_order : Bool) (s : Setting) (p : PhaseRun) (done : List Command) (w : World) → IsBetween in_order s p.with (done ++ p.commands) w → IsStopped in_order s p done w
between-stopped in_order s p done w is =
    let run = through-law p.with s.hierarchy (done ++ p.commands) (history_in w) is.through in
    record {
      part = is.through.part;
      few = λ session. omega (arith, is.through.counts session);
      over = first-over p.with done p.commands (history_in w) run.over;
      ordered = is.ordered;
    }

-- Runs of phases.

phases-more : (in_order : Bool) (s : Script) (ps : List (List Command)) (phase : List Command) (from between to : Moment World) → RunPhases in_order s ps from between → RunsWhole in_order s phase between to
    → RunPhases in_order s (ps ++ phase ∷ []) from to
phases-more in_order s [] phase from between to first next = (to, subst (λ m. RunsWhole in_order s phase m to) first next, refl)
phases-more in_order s (p ∷ ps) phase from between to first next = (first.0, first.1, phases-more in_order s ps phase first.0 between to first.2 next)

-- A phase.

-- what is held is right
pub held-right : (h : List Dimension) (with : Use) (x : State) → IsCoreHeld h with x → IsRight (site_of with h) (history_in (held h with x))
held-right h with x core =
    let inv = held-inv h with x core in
    IsRight-kept (site_of with h) inv.ghost_of.placed (history_in (held h with x)) inv.holds.telling.right

module _ (wanted : Wanted) (s : Script) (ps : List (List Command)) (phase : List Command) (e : OnOneThread) (now : State) (schedule_now : Schedule) (behind : IsBehindPhases wanted s ps e) where
  abbrev pub after : Schedule → OnOneThread
  after schedule = record { hierarchy = e.hierarchy; with = e.with; state = now; schedule = schedule }

  abbrev pub moment_of : OnOneThread → Moment World
  moment_of x = record { state = held s.hierarchy s.with x.state; schedule = x.schedule }

  still-for : IsCoreHeld s.hierarchy s.with now → about s.hierarchy s.with now ≡ about s.hierarchy s.with e.state → IsFor wanted s (after schedule_now)
  still-for core same = record {
    alone = behind.runs.alone;
    with_is = behind.runs.with_is;
    hierarchy_is = behind.runs.hierarchy_is;
    core = core;
    about_is = same ∙ behind.runs.about_is;
  }

  turns-of : (to : Schedule) → RunsTo s.hierarchy s.with phase e.state e.schedule now to → RunsPhase (alone_in_order wanted) s phase (moment_of e) (record { state = held s.hierarchy s.with now; schedule = to })
  turns-of to turns =
      subst (λ b. RunsPhase b s phase (moment_of e) (record { state = held s.hierarchy s.with now; schedule = to })) behind.order
      (subst (λ t. Reaches World (able_in (is_order e.schedule) t (phase_at s phase (moment_of e))) (IsKeptTurn (is_order e.schedule) t (phase_at s phase (moment_of e))) (moment_of e) (held s.hierarchy s.with now) to)
      behind.runs.about_is turns)

  pub grows-by : (to : Schedule) → RunsTo s.hierarchy s.with phase e.state e.schedule now to → HasGrown (history_in (held s.hierarchy s.with e.state)) (history_in (held s.hierarchy s.with now))
  grows-by to turns =
      let are = turns-of to turns in
      (turns-come (alone_in_order wanted) (setting_alone s) (phase_at s phase (moment_of e)) (moment_of e) are.turns (record { state = held s.hierarchy s.with now; schedule = to })
      (subst (λ t. Inv t (held s.hierarchy s.with e.state)) behind.runs.about_is (held-inv s.hierarchy s.with e.state behind.runs.core)) are.are).grows

  pub within-now : IsCoreHeld s.hierarchy s.with now → about s.hierarchy s.with now ≡ about s.hierarchy s.with e.state
      → (to : Schedule) → RunsTo s.hierarchy s.with phase e.state e.schedule now to
      → IsStopped (is_order e.schedule) (about s.hierarchy s.with e.state) (phase_from s.hierarchy s.with phase e.state) (all_of ps) (held s.hierarchy s.with now)
      → IsWithinPhase wanted s ps phase (after schedule_now)
  within-now core same to turns stopped = record {
    runs = still-for core same;
    came = record {
      opening = behind.opening;
      is_opening = behind.is_opening;
      between = moment_of e;
      whole = behind.turns;
      schedule = to;
      part = turns-of to turns;
    };
    stopped = subst (λ b. IsStopped b (setting_alone s) (phase_at s phase (moment_of e)) (all_of ps) (held s.hierarchy s.with now)) behind.order
        (subst (λ t. IsStopped (is_order e.schedule) t (phase_at s phase (moment_of e)) (all_of ps) (held s.hierarchy s.with now)) behind.runs.about_is stopped);
  }

  pub behind-now : IsCoreHeld s.hierarchy s.with now → about s.hierarchy s.with now ≡ about s.hierarchy s.with e.state → is_order schedule_now ≡ is_order e.schedule
      → RunsTo s.hierarchy s.with phase e.state e.schedule now schedule_now
      → NobodyCanStep (is_order e.schedule) s.hierarchy s.with phase e.state now
      → IsBetween (is_order e.schedule) (about s.hierarchy s.with e.state) s.with (all_of ps ++ phase) (held s.hierarchy s.with now)
      → IsBehindPhases wanted s (ps ++ phase ∷ []) (after schedule_now)
  behind-now core same order turns rested between = record {
    runs = still-for core same;
    order = order ∙ behind.order;
    between = subst (λ l. IsBetween (alone_in_order wanted) (setting_alone s) s.with l (held s.hierarchy s.with now)) (sym (all_of-append ps (phase ∷ []) ∙ ap (λ l. all_of ps ++ l) (append-nil phase)))
        (subst (λ b. IsBetween b (setting_alone s) s.with (all_of ps ++ phase) (held s.hierarchy s.with now)) behind.order
        (subst (λ t. IsBetween (is_order e.schedule) t s.with (all_of ps ++ phase) (held s.hierarchy s.with now)) behind.runs.about_is between));
    opening = behind.opening;
    is_opening = behind.is_opening;
    turns = phases-more (alone_in_order wanted) s ps phase (record { state = behind.opening; schedule = schedule_of wanted }) (moment_of e) (moment_of (after schedule_now)) behind.turns (record {
      turns = turns-of schedule_now turns;
      rested = subst (λ b. able_in b (setting_alone s) (phase_at s phase (moment_of e)) (held s.hierarchy s.with now) ≡ []) behind.order
          (subst (λ t. able_in (is_order e.schedule) t (phase_at s phase (moment_of e)) (held s.hierarchy s.with now) ≡ []) behind.runs.about_is rested);
    });
  }

-- where a phase stopped, so far is a part of a run of these commands and more
pub part-stopped : (in_order : Bool) (s : Script) (p : PhaseRun) (done more : List Command) (w : World) → p.with ≡ s.with → IsStopped in_order (setting_alone s) p done w → IsRunSoFar s.with s.hierarchy ((done ++ p.commands) ++ more) (history_in w)
part-stopped in_order s p done more w same stopped =
    subst (λ u. IsRunSoFar u s.hierarchy ((done ++ p.commands) ++ more) (history_in w)) same
    (part_law p.with s.hierarchy ((done ++ p.commands) ++ more) (history_in w) (start_law p.with s.hierarchy (done ++ p.commands) more (history_in w) stopped.few stopped.part))

-- What the core's run says of a phase that it ran.
pub record PhaseRan {T E : Type 0} (r : Result T E) (h : List Dimension) (with : Use) (done phase : List Command) (was now : State) (schedule schedule_now : Schedule) : Type 0 where
  pub core : IsCoreHeld h with now
  pub about_is : about h with now ≡ about h with was
  pub order : is_order schedule_now ≡ is_order schedule
  pub turns : OnOk r (RunsTo h with phase was schedule now schedule_now)
  pub rested : OnOk r (NobodyCanStep (is_order schedule) h with phase was now)
  pub stopped : OnErr r (StopsAt h with phase was schedule now)
  pub between : OnOk r (IsBetween (is_order schedule) (about h with was) with (done ++ phase) (held h with now))
  pub into : OnErr r (IsStopped (is_order schedule) (about h with was) (phase_from h with phase was) done (held h with now))

module _ (wanted : Wanted) (s : Script) (ps : List (List Command)) (phase : List Command) (e : OnOneThread) (now : State) (schedule_now : Schedule) (behind : IsBehindPhases wanted s ps e) where
  whole-into : {T E : Type 0} (r : Result T E) → PhaseRan r s.hierarchy s.with (all_of ps) phase e.state now e.schedule schedule_now
      → HasGoneInto s (history_at e.state) (history_at now) (IsWithinPhase wanted s ps phase (after wanted s ps phase e now schedule_now behind schedule_now))
  whole-into (Ok x) ran = record {
    grows = grows-by wanted s ps phase e now schedule_now behind schedule_now ran.turns;
    right = held-right s.hierarchy s.with now ran.core;
    within = within-now wanted s ps phase e now schedule_now behind ran.core ran.about_is schedule_now ran.turns
        (between-stopped (is_order e.schedule) (about s.hierarchy s.with e.state) (phase_from s.hierarchy s.with phase e.state) (all_of ps) (held s.hierarchy s.with now) ran.between);
  }
  whole-into (Err x) ran = record {
    grows = grows-by wanted s ps phase e now schedule_now behind ran.stopped.0 ran.stopped.1;
    right = held-right s.hierarchy s.with now ran.core;
    within = within-now wanted s ps phase e now schedule_now behind ran.core ran.about_is ran.stopped.0 ran.stopped.1 ran.into;
  }

  whole-through : {T E : Type 0} (r : Result T E) → PhaseRan r s.hierarchy s.with (all_of ps) phase e.state now e.schedule schedule_now
      → OnOk r (IsThrough s.with s.hierarchy (all_of ps ++ phase) (history_at now) × IsBehindPhases wanted s (ps ++ phase ∷ []) (after wanted s ps phase e now schedule_now behind schedule_now))
  whole-through (Ok x) ran = (
    subst (λ h. IsThrough s.with h (all_of ps ++ phase) (history_at now)) (ap (λ (t : Setting). t.hierarchy) behind.runs.about_is) ran.between.through,
    behind-now wanted s ps phase e now schedule_now behind ran.core ran.about_is ran.order ran.turns ran.rested ran.between,
  )
  whole-through (Err x) ran = tt

  whole-stopped : {T E : Type 0} (r : Result T E) → PhaseRan r s.hierarchy s.with (all_of ps) phase e.state now e.schedule schedule_now
      → OnErr r ((more : List Command) → IsRunSoFar s.with s.hierarchy ((all_of ps ++ phase) ++ more) (history_at now))
  whole-stopped (Ok x) ran = tt
  whole-stopped (Err x) ran = λ more.
      part-stopped (is_order e.schedule) s (phase_from s.hierarchy s.with phase e.state) (all_of ps) more (held s.hierarchy s.with now) refl
      (subst (λ t. IsStopped (is_order e.schedule) t (phase_from s.hierarchy s.with phase e.state) (all_of ps) (held s.hierarchy s.with now)) behind.runs.about_is ran.into)

-- of what the call says, with the dimensions and settings, the commands in front and the phase as the script has them
module _ {T E : Type 0} (r : Result T E) (wanted : Wanted) (s : Script) (ps : List (List Command)) (n : ℕ) (commands front back : List Command) (e : OnOneThread) (now : State) (schedule_now : Schedule)
    (behind : IsBehindPhases wanted s ps e) (may : MayRunNext s ps n commands) (front_is : front ≡ take n commands) (back_is : back ≡ drop n commands)
    (ran : PhaseRan r e.hierarchy e.with front back e.state now e.schedule schedule_now) where
  ran-so : PhaseRan r s.hierarchy s.with (all_of ps) (drop n commands) e.state now e.schedule schedule_now
  ran-so =
      subst (λ h. PhaseRan r h s.with (all_of ps) (drop n commands) e.state now e.schedule schedule_now) behind.runs.hierarchy_is
      (subst (λ u. PhaseRan r e.hierarchy u (all_of ps) (drop n commands) e.state now e.schedule schedule_now) behind.runs.with_is
      (subst (λ l. PhaseRan r e.hierarchy e.with l (drop n commands) e.state now e.schedule schedule_now) (front_is ∙ sym may.first)
      (subst (λ l. PhaseRan r e.hierarchy e.with front l e.state now e.schedule schedule_now) back_is ran)))

  all-are : all_of ps ++ drop n commands ≡ commands
  all-are = ap (λ l. l ++ drop n commands) may.first ∙ take-append-drop n commands

  pub run-into : HasGoneInto s (history_at e.state) (history_at now) (IsWithinPhase wanted s ps (drop n commands) (after wanted s ps (drop n commands) e now schedule_now behind schedule_now))
  run-into = whole-into wanted s ps (drop n commands) e now schedule_now behind r ran-so

  pub run-through : OnOk r (IsThrough s.with s.hierarchy commands (history_at now) × IsBehindPhases wanted s (ps ++ drop n commands ∷ []) (after wanted s ps (drop n commands) e now schedule_now behind schedule_now))
  run-through = subst (λ l. OnOk r (IsThrough s.with s.hierarchy l (history_at now) × IsBehindPhases wanted s (ps ++ drop n commands ∷ []) (after wanted s ps (drop n commands) e now schedule_now behind schedule_now))) all-are
      (whole-through wanted s ps (drop n commands) e now schedule_now behind r ran-so)

  pub run-stopped : OnErr r ((more : List Command) → IsRunSoFar s.with s.hierarchy (commands ++ more) (history_at now))
  run-stopped = subst (λ l. OnErr r ((more : List Command) → IsRunSoFar s.with s.hierarchy (l ++ more) (history_at now))) all-are (whole-stopped wanted s ps (drop n commands) e now schedule_now behind r ran-so)

-- Commands of a script may run.

may-one : (s : Script) (c : Command) → Fits s c → 0 < length s.hierarchy → MayRun s.hierarchy s.with c
may-one s (command.Insert new) fits dims = record { names = fits.1; allowed = fits.0 }
may-one s (command.Query question) fits dims = record { names = fits.1; allowed = (fits.0, dims, fits.2) }
may-one s (command.Control (call.Sync server)) fits dims = record { names = tt; allowed = (fits, tt) }
may-one s (command.Control (call.Group dim level filter)) fits dims = absurd fits
may-one s (command.Control _) fits dims = record { names = tt; allowed = (tt, tt) }
may-one s (command.Group dim level filter) fits dims = record { names = fits.3; allowed = (fits.0, fits.2, fits.4) }

pub may-all : (wanted : Wanted) (s : Script) (ps : List (List Command)) (n : ℕ) (commands front back : List Command) (e : OnOneThread) → IsBehindPhases wanted s ps e → MayRunNext s ps n commands
    → front ≡ take n commands → back ≡ drop n commands → MayAllRun e.hierarchy e.with (front ++ back)
may-all wanted s ps n commands front back e behind may front_is back_is =
    let whole : front ++ back ≡ commands = ap (λ l. l ++ back) front_is ∙ ap (λ l. take n commands ++ l) back_is ∙ take-append-drop n commands in
    subst (MayAllRun e.hierarchy e.with) (sym whole)
    (subst (λ h. MayAllRun h e.with commands) (sym behind.runs.hierarchy_is)
    (subst (λ u. MayAllRun s.hierarchy u commands) (sym behind.runs.with_is) (λ i c at. may-one s c (may.fit i c at) may.dims)))

-- Openings.

pub opened-alone : (wanted : Wanted) (s : Script) (e : OnOneThread) → s.with ≡ e.with → s.hierarchy ≡ e.hierarchy → on_threads wanted s ≡ false → e.schedule ≡ schedule_of wanted
    → IsCoreHeld e.hierarchy e.with e.state → (about e.hierarchy e.with e.state).roles ≡ roles_of e.with
    → ((b : Bool) → IsBetween b (about e.hierarchy e.with e.state) e.with [] (held e.hierarchy e.with e.state)) → IsOpening (about e.hierarchy e.with e.state) (held e.hierarchy e.with e.state)
    → HasOpenedFor s (history_at e.state) (IsBehindPhases wanted s [] e)
opened-alone wanted s e with_is hierarchy_is alone schedule core roles between opening =
    let h = e.hierarchy in
    let u = e.with in
    let about_is : about h u e.state ≡ setting_for h u (roles_of u) = (λ k. record { hierarchy = h; servers = u.servers; workers = u.workers; stock_cells = u.cells; roles = roles k }) in
    let about_script : about s.hierarchy s.with e.state ≡ setting_alone s =
    subst (λ d. about d s.with e.state ≡ setting_for d s.with (roles_of s.with)) (sym hierarchy_is) (subst (λ w. about h w e.state ≡ setting_for h w (roles_of w)) (sym with_is) about_is) in
    let core_script : IsCoreHeld s.hierarchy s.with e.state = subst (λ d. IsCoreHeld d s.with e.state) (sym hierarchy_is) (subst (λ w. IsCoreHeld h w e.state) (sym with_is) core) in
    let between_script : (b : Bool) → IsBetween b (about s.hierarchy s.with e.state) s.with [] (held s.hierarchy s.with e.state) =
    λ b. subst (λ d. IsBetween b (about d s.with e.state) s.with [] (held d s.with e.state)) (sym hierarchy_is) (subst (λ w. IsBetween b (about h w e.state) w [] (held h w e.state)) (sym with_is) (between b)) in
    let opening_script : IsOpening (about s.hierarchy s.with e.state) (held s.hierarchy s.with e.state) =
    subst (λ d. IsOpening (about d s.with e.state) (held d s.with e.state)) (sym hierarchy_is) (subst (λ w. IsOpening (about h w e.state) (held h w e.state)) (sym with_is) opening) in
    let here : IsBetween (alone_in_order wanted) (setting_alone s) s.with [] (held s.hierarchy s.with e.state) = subst (λ t. IsBetween (alone_in_order wanted) t s.with [] (held s.hierarchy s.with e.state)) about_script (between_script (alone_in_order wanted)) in
    record {
      through = here.through;
      right = held-right s.hierarchy s.with e.state core_script;
      behind = record {
        runs = record { alone = alone; with_is = sym with_is; hierarchy_is = sym hierarchy_is; core = core_script; about_is = about_script };
        order = ap is_order schedule;
        between = here;
        opening = held s.hierarchy s.with e.state;
        is_opening = subst (λ t. IsOpening t (held s.hierarchy s.with e.state)) about_script opening_script;
        turns = (λ k. record { state = held s.hierarchy s.with e.state; schedule = schedule k });
      };
    }

-- Reading.

pub read-alone : (wanted : Wanted) (s : Script) (ps : List (List Command)) (e : OnOneThread) → IsBehindPhases wanted s ps e → HasBeenRead s (history_at e.state) (history_at e.state) (IsBehindPhases wanted s ps e)
read-alone wanted s ps e behind = record {
  grows = record { newer = []; grown = refl };
  right = held-right s.hierarchy s.with e.state behind.runs.core;
  none = λ session. refl;
  behind = behind;
}

-- What is left.

-- where the commands are to go in order, so they go on one thread
order-alone : (wanted : Wanted) → goes_in_order wanted ≡ true → alone_in_order wanted ≡ true
order-alone wanted order = by (wants_threads wanted) refl
  where
    by : (b : Bool) → wants_threads wanted ≡ b → alone_in_order wanted ≡ true
    by true is = absurd (let never : false ≡ true = sym (ap (λ b. if b then false else alone_in_order wanted) is) ∙ order in cc)
    by false is = sym (ap (λ b. if b then false else alone_in_order wanted) is) ∙ order

module _ (wanted : Wanted) (s : Script) (e : OnOneThread) where
  left-for : IsFor wanted s e → IsLeft wanted s (history_in (held s.hierarchy s.with e.state)) e.state
  left-for runs = record {
    state = core-state s.hierarchy s.with e.state runs.core;
    about_is = runs.about_is ∙ sym (ap (λ b. if b then hall_setting s.hierarchy s.with (roles_of s.with) else setting_alone s) runs.alone);
    told = refl;
  }

  pub left-behind : (ps : List (List Command)) → IsBehindPhases wanted s ps e → IsLeftBehind wanted s ps (history_in (held s.hierarchy s.with e.state)) e.state
  left-behind ps behind = record {
    left = left-for behind.runs;
    idle = behind.between.idle;
    none_gone = behind.between.none_gone;
    run = λ alone. record { opening = behind.opening; is_opening = behind.is_opening; schedule = e.schedule; turns = behind.turns };
    serial = λ order more. serial-behind s (all_of ps) more (history_in (held s.hierarchy s.with e.state)) behind.between.through (behind.between.ordered (order-alone wanted order));
  }

  pub left-within : (ps : List (List Command)) (phase : List Command) → IsWithinPhase wanted s ps phase e → IsLeftWithin wanted s ps phase (history_in (held s.hierarchy s.with e.state)) e.state
  left-within ps phase within = record {
    left = left-for within.runs;
    run = λ alone. within.came;
    serial = λ order more.
        serial_law s.with s.hierarchy ((all_of ps ++ phase) ++ more) (history_in (held s.hierarchy s.with e.state))
        (order-start-law s.with s.hierarchy (all_of ps ++ phase) more (history_in (held s.hierarchy s.with e.state)) within.stopped.few (within.stopped.ordered (order-alone wanted order)));
  }
