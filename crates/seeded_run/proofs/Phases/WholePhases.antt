-- How a phase begins, runs and ends, as its turns are.
use Rattle.std.proofs.{Common.{◌≡◌, ◌≢◌, ◌∙◌, ◌+◌, ◌<◌, ◌≤◌, ◌⊎◌, inl, inr, ℕ, zero, suc, Bool, List, [], ◌∷◌, ◌++◌, length, get_or, Option, Some, refl, sym, ap, subst, arith}, lemmas.Option.slice_get_within}
use Rattle.std.specs.Prelude.{OnOk, OnErr, Ok, Err, Result, slice_get}
use Rattle.row_ledger.specs.{Classes.class_of, declared.class.Class.Class, declared.settings.Use.Use}
use Rattle.script_form.specs.declared.script.Command.{Command}
use Rattle.script_run.specs.Places.{session_of, session_of_call}
use Rattle.script_run.proofs.Between.{get-behind}
use Rattle.seeded_turns.specs.{Drawn.{AreTurns, Moment, Reaches, Stops, able, next_schedule}, declared.schedule.Schedule.Schedule, declared.schedule.Schedule.TheVariants.{Order, Seed}}
use Rattle.seeded_turns.proofs.Keeping.{run_keeps, run_map}
use Rattle.dim_hierarchy.specs.Dimension.{Dimension}
use Rattle.row_ledger.specs.declared.class.Class.TheVariants as class_is
use Rattle.script_form.specs.declared.script.Command.TheVariants as script
use Rattle.core_pages.specs.volap_cell.specs.{Falls.left, Setting.{Setting, actor_count}, State.IsWorldOf, Steps.history_in, World.World, declared.actor.Actor.Actor, declared.cell.Cell.Cell, declared.state.State.State}
use Rattle.seeded_run.specs.{Can.{able_in, can_step}, Core.{HasCore, IsCore}, Kept.{AreAtFirst, AreIdle, HasBegunAll, IsBetween, IsStopped}, Machine.{AloneInOrder, HasComeToRest, WereThrough, HasEndedBehindAny, HasLeftOver, HasRunTo, HasStoppedAt, HasStoppedBehindAny, IsFirstMoment, IsPhaseHeld, IsPhaseKept, IsSamePhase, KnowsOtherHands, RestsAsIs, RunsBehindAny, TakesTurn, about_in, can_in, most_steps, next_at, nothing, phase_of, world_of}, Measure.limits_of, Order.is_order, Phase.{IsKeptTurn, MayAllRun, MayRun, about, held, most_actors, phase_from}, Progress.IsPhaseOf, Ranks.{IsWithin, commands_waiting, with_waiting}, Rests.PhaseRun, Running.IsRunning, Worlds.{setting_in, world_in}, declared.machine.Running.Running}
use Rattle.seeded_run.proofs.{Cursors.Held.some-within, Holding.LeftAlone.does-nothing, IdleHands.hand-there, Phases.Limits.limits-law, Phases.PhaseRuns.{behind-begins-law, behind-ends-law, phase-begins-law, phase-ends-law, stops-law}, Phases.Ranks.rank-falls, Worlds.{one-setting, only-world}}

-- Beginning.

-- the core that vectors are, as they tell it themselves
pub here-core : (h : List Dimension) (with : Use) (cells : List (Option Cell)) (actors : List (Option Actor)) → HasCore h with cells actors → IsCore h with cells actors (setting_in h with actors) (world_in h with cells actors)
here-core h with cells actors core =
    subst (λ (x : World). IsCore h with cells actors (setting_in h with actors) x) (only-world h with cells actors core.setting core.world core.is_core)
    (subst (λ (z : Setting). IsCore h with cells actors z core.world) (one-setting h with cells actors core.setting core.world core.is_core) core.is_core)

beyond : (xs : List ℕ) (i d : ℕ) → length xs ≤ i → get_or xs i d ≡ d
beyond [] i d high = refl
beyond (x ∷ xs) zero d high = absurd (omega arith)
beyond (x ∷ xs) (suc i) d high = beyond xs i d (omega arith)

low-or-high : (a n : ℕ) → (a < n) ⊎ (n ≤ a)
low-or-high a n = grind arith

called-low : (with : Use) (class : Class) → session_of_call with class < with.servers + 2
called-low with (class_is.Sync server) = omega arith
called-low with class_is.Settle = omega arith
called-low with class_is.Bare = omega arith
called-low with (class_is.Page subject) = omega arith
called-low with (class_is.Action act) = omega arith
called-low with (class_is.Balance most) = omega arith

-- the session of a command that may run is an actor
pub session-low : (h : List Dimension) (with : Use) (c : Command) → MayRun h with c → session_of with c < with.servers + 2
session-low h with (script.Insert new) may = (let low = may.allowed in omega (arith, low))
session-low h with (script.Query question) may = (let low = may.allowed.0 in omega (arith, low))
session-low h with (script.Control called) may = called-low with (class_of called)
session-low h with (script.Group dim level filter) may = omega arith

-- where all of some commands may run, those behind the first ones may
pub may-behind : (h : List Dimension) (with : Use) (done phase : List Command) → MayAllRun h with (done ++ phase) → MayAllRun h with phase
may-behind h with done phase all i c at = all (length done + i) c (get-behind done phase i ∙ at)

module _ (m : Running) (first : IsFirstMoment m) where
  core : IsCore m.h.now m.with m.state.cells.items m.state.actors.items (about_in m) (world_of m)
  core = here-core m.h.now m.with m.state.cells.items m.state.actors.items first.core

  enough : m.with.servers + 2 ≤ length m.state.actors.items
  enough = omega (arith, core.count, slice_get_within (about_in m).roles (m.with.servers + 1) _ core.roles.admin)

  pub some-actor : 0 < length m.state.actors.items
  some-actor = omega (arith, enough)

  phase-is : IsPhaseOf (about_in m) (phase_of m)
  phase-is = record {
    servers = refl;
    sessions = λ i c at. session-low m.h.now m.with c (first.may_run i c at);
    asked = λ i q at. (first.may_run i (script.Query q) at).allowed.0;
    last = first.closes;
  }

  -- who is no session has no command in the phase
  no-stream : (s : ℕ) → length m.state.actors.items ≤ s → next_at m s ≡ length m.phase.now
  no-stream s high = beyond m.next.items s (length m.phase.now) (omega (arith, high, first.next.0))

  none-before : (s k : ℕ) (c : Command) → slice_get m.phase.now k ≡ Some c → k < next_at m s → session_of m.with c ≢ s
  none-before s k c at low = elim (low-or-high s (length m.state.actors.items)) [
    | inl is ↦ (first.next.1 s is).none k c at low
    | inr high ↦ λ e. absurd (omega (arith, e, high, enough, session-low m.h.now m.with c (first.may_run k c at)))
  ]

  own : (s : ℕ) (c : Command) → slice_get m.phase.now (next_at m s) ≡ Some c → session_of m.with c ≡ s
  own s c at = elim (low-or-high s (length m.state.actors.items)) [
    | inl is ↦ (first.next.1 s is).own c at
    | inr high ↦ absurd (omega (arith, some-within m.phase.now (next_at m s) c at, no-stream s high))
  ]

  at-first : AreAtFirst (phase_of m) (next_at m)
  at-first = record { first = none-before; own = own }

  before : (phase_of m).before ≡ history_in (world_of m)
  before = ap (λ (x : State). history_in (held m.h.now m.with x)) first.before

  begins-behind : RunsBehindAny m
  begins-behind done through =
      behind-begins-law m.in_order (about_in m) (phase_of m) done (world_of m) (next_at m)
      (subst (λ (x : State). IsBetween m.in_order (about m.h.now m.with x) m.with done (held m.h.now m.with x)) first.before through) before at-first

  begins-running : IsRunning m.in_order (about_in m) (phase_of m) (world_of m) (next_at m)
  begins-running = phase-begins-law m.in_order (about_in m) (phase_of m) (world_of m) (next_at m) core.roles phase-is first.idle before at-first

  pub begins-kept : IsPhaseKept m
  begins-kept = record {
    core = core;
    may_run = first.may_run;
    is_running = begins-running;
    behind = begins-behind;
    count = first.next.0;
    few = subst (λ k. k < most_actors) (sym first.next.0) first.few;
    within = λ s. elim (low-or-high s (length m.state.actors.items)) [ inl is ↦ (first.next.1 s is).within | inr high ↦ omega (arith, no-stream s high) ];
    left = first.left;
    begun = λ i c at low. absurd (omega (arith, low, first.begun));
  }

  pub begins-alone : AloneInOrder m 0
  begins-alone order a differs = does-nothing ((world_of m).actors a) (first.idle a)

  -- which hands have nothing to do is told right
  pub begins-hands : KnowsOtherHands m 0
  begins-hands a differs worker low told = hand-there m.state.cells.items m.state.actors.items (world_of m) core.is a worker (first.hands a worker low told)

-- At most so many steps are left.

pub has-left : (m : Running) → IsPhaseKept m → HasLeftOver m (most_steps m)
unfolding most_steps
has-left m kept =
    let s = about_in m in
    let w = world_of m in
    let g = kept.core.inv.ghost_of in
    let count = commands_waiting s (phase_of m) (history_in w) in
    let limits = limits-law s w g kept.core.inv.holds in
    let now = with_waiting s count (left s w g) in
    let within : IsWithin (limits_of s) now = record { gates = limits.gates; rows = limits.rows; queries = limits.queries } in
    let same : now.control ≡ (with_waiting s count (left s w nothing)).control = refl in
    let falls = rank-falls (limits_of s) (record { control = (with_waiting s count (left s w nothing)).control + 1; gates = 0; rows = 0; queries = 0; counted = 0 }) now (inl (omega (arith, same))) within in
    record { core = record { setting = s; world = w; is_core = kept.core; left = record { ghost = g; holds = kept.core.inv.holds; few = omega (arith, falls) } } }

-- Turns.

-- a moment of the phase that began so
pub record IsFrom (m now : Running) : Type 0 where
  pub same : IsSamePhase m now
  pub about : about_in now ≡ about_in m
  pub is : IsWorldOf now.state.cells.items now.state.actors.items (world_of now)

from-then : (m x y : Running) (n : ℕ) → TakesTurn x n y → IsFrom m x → IsFrom m y
from-then m x y n turn from = record {
  same = record {
    h = turn.same.h ∙ from.same.h;
    with = turn.same.with ∙ from.same.with;
    phase = turn.same.phase ∙ from.same.phase;
    in_order = turn.same.in_order ∙ from.same.in_order;
    before = turn.same.before ∙ from.same.before;
    count = turn.same.count ∙ from.same.count;
  };
  about = turn.about ∙ from.about;
  is = turn.is;
}

same-phase : (m x : Running) → IsSamePhase m x → phase_of x ≡ phase_of m
same-phase m x same = (λ i. phase_from (same.h i).now (same.with i) (same.phase i).now (same.before i).value)

module _ (m : Running) (kept : IsPhaseKept m) where
  abbrev able_of : World → List ℕ
  able_of = able_in m.in_order (about_in m) (phase_of m)

  abbrev makes_of : World → ℕ → World → Type 0
  makes_of = IsKeptTurn m.in_order (about_in m) (phase_of m)

  same-able : (x : Running) → IsFrom m x → able (can_in x) (length x.next.items) ≡ able_of (world_of x)
  same-able x from =
      let count : length x.next.items ≡ actor_count (about_in m) = from.same.count ∙ kept.count ∙ kept.core.count in
      ap (able (can_in x)) count
      ∙ (λ i. able (can_step (from.same.in_order i) (from.about i) (same-phase m x from.same i) (world_of x)) (actor_count (about_in m)))

  same-turn : (x y : Running) (n : ℕ) → TakesTurn x n y → IsFrom m x → makes_of (world_of x) n (world_of y)
  same-turn x y n turn from =
      subst (λ b. IsKeptTurn b (about_in m) (phase_of m) (world_of x) n (world_of y)) from.same.in_order
      (subst (λ z. IsKeptTurn x.in_order z (phase_of m) (world_of x) n (world_of y)) from.about
      (subst (λ q. IsKeptTurn x.in_order (about_in x) q (world_of x) n (world_of y)) (same-phase m x from.same) turn.turn))

  from-start : IsFrom m m
  from-start = record { same = record { h = refl; with = refl; phase = refl; in_order = refl; before = refl; count = refl }; about = refl; is = kept.core.is }

  abbrev able_here : Running → List ℕ
  able_here x = able (can_in x) (length x.next.items)

  pub from-turns : (schedule : Schedule) (now : Running) (schedule_now : Schedule) → Reaches Running able_here TakesTurn (record { state = m; schedule = schedule }) now schedule_now → IsFrom m now
  from-turns schedule now schedule_now r = run_keeps Running able_here TakesTurn (IsFrom m) (λ x y n turn from. from-then m x y n turn from) (record { state = m; schedule = schedule }) now schedule_now r from-start

  pub ran : (schedule : Schedule) (now : Running) (schedule_now : Schedule) → Reaches Running able_here TakesTurn (record { state = m; schedule = schedule }) now schedule_now
      → Reaches World able_of makes_of (record { state = world_of m; schedule = schedule }) (world_of now) schedule_now
  ran schedule now schedule_now r = run_map Running World world_of able_here TakesTurn able_of makes_of (IsFrom m) (λ x y n turn from. from-then m x y n turn from) same-able same-turn (record { state = m; schedule = schedule }) now schedule_now r from-start

-- Ending.

-- a phase that ran to its end
pub record WholeRun (m : Running) (schedule : Schedule) (now : Running) (schedule_now : Schedule) : Type 0 where
  pub same : IsSamePhase m now
  pub about : about_in now ≡ about_in m
  pub order : is_order schedule_now ≡ is_order schedule
  pub turns : HasRunTo m schedule now schedule_now
  pub rested : HasComeToRest m schedule now
  pub idle : AreIdle (world_of now)
  pub begun : HasBegunAll (phase_of m) (held m.h.now m.with now.state)
  pub behind : HasEndedBehindAny m now

-- and one that stopped
pub record PartRun (m : Running) (schedule : Schedule) (now : Running) (schedule_now : Schedule) : Type 0 where
  pub same : IsSamePhase m now
  pub about : about_in now ≡ about_in m
  pub order : is_order schedule_now ≡ is_order schedule
  pub stopped : HasStoppedAt m schedule now
  pub behind : HasStoppedBehindAny m now

pub on-both : {A E : Type 0} (r : Result A E) (P Q R : Type 0) → (P → Q → R) → OnOk r P → OnOk r Q → OnOk r R
on-both (Ok x) P Q R f p q = f p q
on-both (Err e) P Q R f p q = tt

pub on-one : {A E : Type 0} (r : Result A E) (P R : Type 0) → (P → R) → OnOk r P → OnOk r R
on-one (Ok x) P R f p = f p
on-one (Err e) P R f p = tt

pub on-fault : {A E : Type 0} (r : Result A E) (P R : Type 0) → (P → R) → OnErr r P → OnErr r R
on-fault (Ok x) P R f p = tt
on-fault (Err e) P R f p = f p

pub any-way : {A E : Type 0} (r : Result A E) (P Q R : Type 0) → (P → R) → (Q → R) → OnOk r P → OnErr r Q → R
any-way (Ok x) P Q R f g p q = f p
any-way (Err e) P Q R f g p q = g q

order-next : (schedule : Schedule) → is_order (next_schedule schedule) ≡ is_order schedule
order-next Order = refl
order-next (Seed g) = refl

-- a schedule stays what it is
turns-order : (S : Type 0) (able_in : S → List ℕ) (makes : S → ℕ → S → Type 0) (from to : Moment S) (turns : List (Moment S)) → AreTurns S able_in makes from turns to → is_order to.schedule ≡ is_order from.schedule
turns-order S able_in makes from to [] is = ap (λ (m : Moment S). is_order m.schedule) is
turns-order S able_in makes from to (mid ∷ more) (turn, are) = ap is_order turn.schedule ∙ order-next mid.schedule ∙ turns-order S able_in makes from mid more are

module _ (m : Running) (kept : IsPhaseKept m) (schedule : Schedule) (now : Running) (schedule_now : Schedule) (held_now : IsPhaseHeld now) where
  abbrev Reached : Type 0
  Reached = Reaches Running (able_here m kept) TakesTurn (record { state = m; schedule = schedule }) now schedule_now

  abbrev Stopped : Type 0
  Stopped = Stops Running (able_here m kept) TakesTurn RestsAsIs (record { state = m; schedule = schedule }) now schedule_now

  from-stop : Stopped → IsFrom m now
  from-stop stop =
      let last = from-turns m kept schedule stop.last.state stop.last.schedule stop.reached in
      let stayed = stop.stayed in
      let rests = stayed.same in
      let core = held_now.kept.core in
      record {
        same = record {
          h = rests.h ∙ last.same.h;
          with = rests.with ∙ last.same.with;
          phase = rests.phase ∙ last.same.phase;
          in_order = rests.in_order ∙ last.same.in_order;
          before = rests.before ∙ last.same.before;
          count = rests.count ∙ last.same.count;
        };
        about = stayed.about ∙ last.about;
        is = core.is;
      }

-- what is so of a phase is so of the one that began
pub as-before : (F : Bool → Setting → PhaseRun → Type 0) (m now : Running) → IsSamePhase m now → about_in now ≡ about_in m
    → F now.in_order (about_in now) (phase_of now) → F m.in_order (about_in m) (phase_of m)
as-before F m now same about f =
    subst (λ b. F b (about_in m) (phase_of m)) same.in_order
    (subst (λ s. F now.in_order s (phase_of m)) about
    (subst (λ p. F now.in_order (about_in now) p) (same-phase m now same) f))

-- The commands that were through as it began are the same.

record Start : Type 0 where
  in_order : Bool
  setting : Setting
  with : Use
  world : World

start-of : Running → Start
start-of m = record { in_order = m.in_order; setting = about m.h.now m.with m.before.value; with = m.with; world = held m.h.now m.with m.before.value }

same-start : (m now : Running) → IsSamePhase m now → start-of now ≡ start-of m
unfolding start-of
same-start m now same = (λ i. record {
  in_order = same.in_order i;
  setting = about (same.h i).now (same.with i) (same.before i).value;
  with = same.with i;
  world = held (same.h i).now (same.with i) (same.before i).value;
})

done-then : (m now : Running) → IsSamePhase m now → (done : List Command) → WereThrough m done → WereThrough now done
unfolding start-of
done-then m now same done through = subst (λ (x : Start). IsBetween x.in_order x.setting x.with done x.world) (sym (same-start m now same)) through

-- what a phase runs behind, told of the state as it began

module _ (m now : Running) (begun : m.before.value ≡ m.state) (same : IsSamePhase m now) (about_same : about_in now ≡ about_in m) (held_now : IsPhaseHeld now) where
  -- the setting and the state, as they are told of the phase that began
  told-before : (F : Setting → World → Type 0) → F (about_in m) (world_of now) → F (about m.h.now m.with m.before.value) (held m.h.now m.with now.state)
  told-before F f =
      let there : world_of now ≡ held m.h.now m.with now.state = (λ i. held (same.h i).now (same.with i) now.state) in
      subst (λ (x : State). F (about m.h.now m.with x) (held m.h.now m.with now.state)) (sym begun) (subst (F (about_in m)) there f)

  pub stopped-behind : HasStoppedBehindAny m now
  stopped-behind done through =
      told-before (λ s w. IsStopped m.in_order s (phase_of m) done w)
      (as-before (λ b s p. IsStopped b s p done (world_of now)) m now same about_same
      (stops-law now.in_order (about_in now) (phase_of now) done (world_of now) (next_at now) (held_now.kept.behind done (done-then m now same done through))))

  pub ended-behind : able_in now.in_order (about_in now) (phase_of now) (world_of now) ≡ [] → HasEndedBehindAny m now
  ended-behind none done through =
      told-before (λ s w. IsBetween m.in_order s m.with (done ++ m.phase.now) w)
      (as-before (λ b s p. IsBetween b s p.with (done ++ p.commands) (world_of now)) m now same about_same
      (behind-ends-law now.in_order (about_in now) (phase_of now) done (world_of now) held_now.kept.core.inv.ghost_of (next_at now) held_now.kept.core.inv.holds held_now.kept.is_running
      (held_now.kept.behind done (done-then m now same done through)) none))

module _ (m : Running) (first : IsFirstMoment m) (schedule : Schedule) (order : m.in_order ≡ is_order schedule) (start now : Running) (start_is : start ≡ record m { begun = start.begun; first = start.first; hands = start.hands })
    (held_start : IsPhaseHeld start) (held_now : IsPhaseHeld now) (schedule_now : Schedule) where
  same-from : IsFrom start now → IsSamePhase m now × (about_in now ≡ about_in m)
  same-from from = (
    record {
      h = from.same.h ∙ ap (λ (x : Running). x.h) start_is;
      with = from.same.with ∙ ap (λ (x : Running). x.with) start_is;
      phase = from.same.phase ∙ ap (λ (x : Running). x.phase) start_is;
      in_order = from.same.in_order ∙ ap (λ (x : Running). x.in_order) start_is;
      before = from.same.before ∙ ap (λ (x : Running). x.before) start_is;
      count = from.same.count ∙ ap (λ (x : Running). length x.next.items) start_is;
    },
    from.about ∙ ap about_in start_is,
  )

  -- the turns, as they are told of the state
  runs : (to : Schedule) → IsFrom start now
      → Reaches World (able_of start held_start.kept) (makes_of start held_start.kept) (record { state = world_of start; schedule = schedule }) (world_of now) to → HasRunTo m schedule now to
  runs to from r =
      let same = (same-from from).0 in
      let at_first : Reaches World (able_in m.in_order (about_in m) (phase_of m)) (IsKeptTurn m.in_order (about_in m) (phase_of m)) (record { state = world_of m; schedule = schedule }) (world_of now) to =
      subst (λ (x : Running). Reaches World (able_in x.in_order (about_in x) (phase_of x)) (IsKeptTurn x.in_order (about_in x) (phase_of x)) (record { state = world_of x; schedule = schedule }) (world_of now) to) start_is r in
      let there : world_of now ≡ held m.h.now m.with now.state = (λ i. held (same.h i).now (same.with i) now.state) in
      subst (λ (b : Bool). Reaches World (able_in b (about m.h.now m.with m.before.value) (phase_of m)) (IsKeptTurn b (about m.h.now m.with m.before.value) (phase_of m)) (record { state = held m.h.now m.with m.before.value; schedule = schedule }) (held m.h.now m.with now.state) to) order
      (subst (λ (x : State). Reaches World (able_in m.in_order (about m.h.now m.with x) (phase_of m)) (IsKeptTurn m.in_order (about m.h.now m.with x) (phase_of m)) (record { state = held m.h.now m.with x; schedule = schedule }) (held m.h.now m.with now.state) to) (sym first.before)
      (subst (λ (v : World). Reaches World (able_in m.in_order (about_in m) (phase_of m)) (IsKeptTurn m.in_order (about_in m) (phase_of m)) (record { state = world_of m; schedule = schedule }) v to) there at_first))

  -- that nobody can step, as it is told of the state
  comes-to-rest : IsSamePhase m now → about_in now ≡ about_in m → able_in now.in_order (about_in now) (phase_of now) (world_of now) ≡ [] → HasComeToRest m schedule now
  comes-to-rest same about_same none =
      let there : world_of now ≡ held m.h.now m.with now.state = (λ i. held (same.h i).now (same.with i) now.state) in
      subst (λ (b : Bool). able_in b (about m.h.now m.with m.before.value) (phase_of m) (held m.h.now m.with now.state) ≡ []) order
      (subst (λ (x : State). able_in m.in_order (about m.h.now m.with x) (phase_of m) (held m.h.now m.with now.state) ≡ []) (sym first.before)
      (subst (λ (v : World). able_in m.in_order (about_in m) (phase_of m) v ≡ []) there
      (as-before (λ b s p. able_in b s p (world_of now) ≡ []) m now same about_same none)))

  -- where nobody can step any more
  pub has-run : Reached start held_start.kept schedule now schedule_now held_now → able_here start held_start.kept now ≡ [] → WholeRun m schedule now schedule_now
  has-run r ended =
      let from = from-turns start held_start.kept schedule now schedule_now r in
      let same = same-from from in
      let count : length now.next.items ≡ actor_count (about_in now) = held_now.kept.count ∙ held_now.kept.core.count in
      let none : able_in now.in_order (about_in now) (phase_of now) (world_of now) ≡ [] = ap (able (can_in now)) (sym count) ∙ ended in
      let there : world_of now ≡ held m.h.now m.with now.state = (λ i. held (same.0.h i).now (same.0.with i) now.state) in
      let ends = phase-ends-law now.in_order (about_in now) (phase_of now) (world_of now) held_now.kept.core.inv.ghost_of (next_at now) held_now.kept.core.inv.holds held_now.kept.is_running none in
      record {
        same = same.0;
        about = same.1;
        order = turns-order Running (able_here start held_start.kept) TakesTurn (record { state = start; schedule = schedule }) (record { state = now; schedule = schedule_now }) r.turns r.are;
        turns = runs schedule_now from (ran start held_start.kept schedule now schedule_now r);
        rested = comes-to-rest same.0 same.1 none;
        idle = ends.0;
        begun = subst (HasBegunAll (phase_of m)) there (as-before (λ b s p. HasBegunAll p (world_of now)) m now same.0 same.1 ends.2);
        behind = ended-behind m now first.before same.0 same.1 held_now none;
      }

  pub has-stopped : Stopped start held_start.kept schedule now schedule_now held_now → PartRun m schedule now schedule_now
  has-stopped stop =
      let from = from-stop start held_start.kept schedule now schedule_now held_now stop in
      let same = same-from from in
      record {
        same = same.0;
        about = same.1;
        order = ap is_order stop.word ∙ order-next stop.last.schedule
            ∙ turns-order Running (able_here start held_start.kept) TakesTurn (record { state = start; schedule = schedule }) stop.last stop.reached.turns stop.reached.are;
        stopped = (
          stop.last.schedule,
          runs stop.last.schedule from
              (subst (λ (v : World). Reaches World (able_of start held_start.kept) (makes_of start held_start.kept) (record { state = world_of start; schedule = schedule }) v stop.last.schedule) (sym stop.stayed.world)
              (ran start held_start.kept schedule stop.last.state stop.last.schedule stop.reached)),
        );
        behind = stopped-behind m now first.before same.0 same.1 held_now;
      }

  pub ends-so : {A E : Type 0} (r : Result A E) → OnOk r (Reached start held_start.kept schedule now schedule_now held_now) → OnOk r (able_here start held_start.kept now ≡ [])
      → OnErr r (Stopped start held_start.kept schedule now schedule_now held_now) → OnOk r (WholeRun m schedule now schedule_now) × OnErr r (PartRun m schedule now schedule_now)
  ends-so r reached ended stopped = (on-both r _ _ _ has-run reached ended, on-fault r _ _ has-stopped stopped)
