-- What holds between the turns of a phase, and what a turn is.
use Rattle.std.specs.Prelude.{ℕ, ◌≡◌, ◌≢◌, ◌+◌, ◌≤◌, ◌<◌, Bool, true, false, nat_lt, count_by, List, [], Option, Some, None, length, get_or, slice_get}
use Rattle.core_due.specs.core_steps.specs.Steps.{IsSame}
use Rattle.script_form.specs.declared.script.Command.{Command}
use Rattle.script_run.specs.Places.{session_of}
use Rattle.core_pages.specs.tree_shape.specs.Shape.{Shape}
use Rattle.core_pages.specs.volap_cell.specs.{Falls.left, Ghost.{Ghost, NotOfStock}, Setting.Setting, State.IsWorldOf, Steps.history_in, World.World, declared.kind.Kind.Kind}
use Rattle.core_due.specs.Due.{does_nothing}
use Rattle.seeded_run.specs.{Can.can_step, Core.{HasCore, IsCore}, Due.due, DueSteps.{KnowsBytes, due_step}, Hands.{AreFreeHands, IsFreeHand}, Kept.{AreIdle, IsBetween}, Measure.{CoreHasLeft, limits_of}, Order.is_order, Phase.{ClosesLast, EndsBehindAny, IsKeptTurn, MayAllRun, NobodyCanStep, about, held, most_actors, phase_from, RunsTo, StopsAt, StopsBehindAny}, Ranks.{rank, commands_waiting, with_waiting}, Rests.{PhaseRun, first_open}, Running.{IsRunning, RunsBehind}, Steps.begins_by, Survey.IsSurvey, declared.turn.DueStep.DueStep, declared.machine.Running.Running, declared.survey.Survey.Survey}
use Rattle.row_ledger.specs.declared.settings.Use.{Use}
use Rattle.seeded_turns.specs.declared.schedule.Schedule.{Schedule}

-- what the core is about, the state that it is, and the phase
abbrev pub about_in : Running → Setting
about_in m = about m.h.now m.with m.state

abbrev pub world_of : Running → World
world_of m = held m.h.now m.with m.state

abbrev pub phase_of : Running → PhaseRun
phase_of m = phase_from m.h.now m.with m.phase.now m.before.value

-- by session: where its next command stands in the phase
abbrev pub next_at : Running → ℕ → ℕ
next_at m session = get_or m.next.items session (length m.phase.now)

-- the actors can do what can be done in the phase
abbrev pub can_in : Running → ℕ → Bool
can_in m n = can_step m.in_order (about_in m) (phase_of m) (world_of m) n

-- So many streams aren't at their ends.
abbrev pub streams_open : ℕ → List ℕ → ℕ
streams_open many next = count_by (λ k. nat_lt k many) next

-- each command before a place has begun
abbrev pub HasBegunTo : Running → ℕ → Type 0
HasBegunTo m place = (i : ℕ) (c : Command) → slice_get m.phase.now i ≡ Some c → i < place → i < next_at m (session_of m.with c)

-- the command at a place hasn't begun
abbrev pub WaitsAt : Running → ℕ → Type 0
WaitsAt m place = (c : Command) → slice_get m.phase.now place ≡ Some c → next_at m (session_of m.with c) ≤ place

-- these commands were through as the phase began
abbrev pub WereThrough : Running → List Command → Type 0
WereThrough m done = IsBetween m.in_order (about m.h.now m.with m.before.value) m.with done (held m.h.now m.with m.before.value)

-- whichever they were, it runs behind them
abbrev pub RunsBehindAny : Running → Type 0
RunsBehindAny m = (done : List Command) → WereThrough m done → RunsBehind m.in_order (about_in m) (phase_of m) done (world_of m) (next_at m)

-- The phase runs, and the cursors tell how far.
pub record IsPhaseKept (m : Running) : Type 0 where
  pub core : IsCore m.h.now m.with m.state.cells.items m.state.actors.items (about_in m) (world_of m)
  pub may_run : MayAllRun m.h.now m.with m.phase.now
  pub is_running : IsRunning m.in_order (about_in m) (phase_of m) (world_of m) (next_at m)
  pub behind : RunsBehindAny m
  pub count : length m.next.items ≡ length m.state.actors.items
  pub few : length m.next.items < most_actors
  pub within : (session : ℕ) → next_at m session ≤ length m.phase.now
  pub left : m.left ≡ streams_open (length m.phase.now) m.next.items
  pub begun : HasBegunTo m m.begun

-- where the commands go in order, it is known whose the first one is that isn't over
abbrev pub KnowsFirst : Running → Type 0
KnowsFirst m = m.in_order ≡ true → first_open (phase_of m) (history_in (world_of m)) ≡ m.first

-- an actor that is told to be a hand with nothing to do is one
abbrev pub IsHandTold : Running → ℕ → Type 0
IsHandTold m n = (worker : ℕ) → n < length m.state.actors.items → get_or m.hands.workers n None ≡ Some worker → IsFreeHand ((world_of m).actors n) worker

abbrev pub KnowsHands : Running → Type 0
KnowsHands m = (n : ℕ) → IsHandTold m n

-- and so is each but one
abbrev pub KnowsOtherHands : Running → ℕ → Type 0
KnowsOtherHands m but = (n : ℕ) → n ≢ but → IsHandTold m n

-- this is what holds between turns
pub record IsPhaseHeld (m : Running) : Type 0 where
  pub kept : IsPhaseKept m
  pub first : KnowsFirst m
  pub hands : KnowsHands m

-- where the commands go in order, everyone but this actor does nothing
abbrev pub AloneInOrder : Running → ℕ → Type 0
AloneInOrder m n = m.in_order ≡ true → (a : ℕ) → a ≢ n → does_nothing ((world_of m).actors a) ≡ true

-- this kind of step is due for the actor, and it can be made
pub record IsDueNow (m : Running) (n : ℕ) (k : Kind) : Type 0 where
  pub due_is : due (about_in m) (phase_of m) (world_of m) n ≡ Some k
  pub can : can_in m n ≡ true

-- the actor begins its next command, by one of the kinds that begin one
pub record BeginsNow (m : Running) (n : ℕ) : Type 0 where
  pub kind : Kind
  pub due : IsDueNow m n kind
  pub begins : begins_by m.state.actors.items n kind ≡ true

-- what the actor does on its turn, if it can make the step that is due for it
abbrev pub step_in : Running → ℕ → Option DueStep
step_in m n = due_step m.in_order (about_in m) (phase_of m) (world_of m) n

-- this is what it does, and the numbers of its command are bytes
pub record IsDueStep (m : Running) (n : ℕ) (step : DueStep) : Type 0 where
  pub is : step_in m n ≡ Some step
  pub bytes : KnowsBytes m.with.servers ((world_of m).actors n) step

-- all but the state and the cursors stays
pub record IsSamePhase (m now : Running) : Type 0 where
  pub h : now.h ≡ m.h
  pub with : now.with ≡ m.with
  pub phase : now.phase ≡ m.phase
  pub in_order : now.in_order ≡ m.in_order
  pub before : now.before ≡ m.before
  pub count : length now.next.items ≡ length m.next.items

-- a turn of an actor
pub record TakesTurn (m : Running) (n : ℕ) (now : Running) : Type 0 where
  pub same : IsSamePhase m now
  pub about : about_in now ≡ about_in m
  pub is : IsWorldOf now.state.cells.items now.state.actors.items (world_of now)
  pub turn : IsKeptTurn m.in_order (about_in m) (phase_of m) (world_of m) n (world_of now)

-- where no memory was found: the same state, whatever rooms its vectors have
pub record RestsAsIs (m now : Running) : Type 0 where
  pub same : IsSamePhase m now
  pub state : IsSame m.state now.state
  pub about : about_in now ≡ about_in m
  pub world : world_of now ≡ world_of m

-- at most so many steps are left
pub record HasLeftOver (m : Running) (most : ℕ) : Type 0 where
  pub core : CoreHasLeft m.h.now (phase_of m) m.state.cells.items m.state.actors.items most

-- what a turn leaves, before it is known again whose the first command is that isn't over
pub record HasTurned (m : Running) (n : ℕ) (now : Running) : Type 0 where
  pub turn : TakesTurn m n now
  pub kept : IsPhaseKept now
  pub left : (most : ℕ) → HasLeftOver m most → (most_now : ℕ) × HasLeftOver now most_now × (most_now < most)
  pub alone : AloneInOrder now n
  pub hands : KnowsHands m → KnowsOtherHands now n

-- A session's next command is the one behind its next one.
pub record HasMovedOn (m : Running) (n : ℕ) (now : Running) : Type 0 where
  pub only : now ≡ record m { next = now.next; left = now.left }
  pub further : next_at m n < next_at now n
  pub within : next_at now n ≤ length m.phase.now
  pub none : (i : ℕ) (c : Command) → slice_get m.phase.now i ≡ Some c → next_at m n < i → i < next_at now n → session_of m.with c ≢ n
  pub own : (c : Command) → slice_get m.phase.now (next_at now n) ≡ Some c → session_of m.with c ≡ n
  pub others : (t : ℕ) → t ≢ n → next_at now t ≡ next_at m t
  pub count : length now.next.items ≡ length m.next.items
  pub left : now.left ≡ streams_open (length m.phase.now) now.next.items

-- The first command of a session in a phase stands here, or it has none there.
pub record IsFirstAt (with : Use) (phase : List Command) (session place : ℕ) : Type 0 where
  pub within : place ≤ length phase
  pub none : (i : ℕ) (c : Command) → slice_get phase i ≡ Some c → i < place → session_of with c ≢ session
  pub own : (c : Command) → slice_get phase place ≡ Some c → session_of with c ≡ session

-- by actor
abbrev pub AreFirstCursors : Use → List Command → ℕ → List ℕ → Type 0
AreFirstCursors with phase actors next = (length next ≡ actors) × ((session : ℕ) → session < actors → IsFirstAt with phase session (get_or next session (length phase)))

-- a phase that begins
pub record IsFirstMoment (m : Running) : Type 0 where
  pub core : HasCore m.h.now m.with m.state.cells.items m.state.actors.items
  pub few : length m.state.actors.items < most_actors
  pub may_run : MayAllRun m.h.now m.with m.phase.now
  pub closes : ClosesLast m.phase.now
  pub idle : AreIdle (world_of m)
  pub before : m.before.value ≡ m.state
  pub next : AreFirstCursors m.with m.phase.now (length m.state.actors.items) m.next.items
  pub left : m.left ≡ streams_open (length m.phase.now) m.next.items
  pub begun : m.begun ≡ 0
  pub hands : AreFreeHands m.state.actors.items m.hands

-- some turns lead from one moment of a phase to another
abbrev pub HasRunTo : Running → Schedule → Running → Schedule → Type 0
HasRunTo m schedule now schedule_now = RunsTo m.h.now m.with m.phase.now m.before.value schedule now.state schedule_now

-- and nobody can make a step any more
abbrev pub HasComeToRest : Running → Schedule → Running → Type 0
HasComeToRest m schedule now = NobodyCanStep (is_order schedule) m.h.now m.with m.phase.now m.before.value now.state

abbrev pub HasStoppedAt : Running → Schedule → Running → Type 0
HasStoppedAt m schedule now = StopsAt m.h.now m.with m.phase.now m.before.value schedule now.state

-- whatever commands were through before, those of the phase are now too; or a part of them has run

abbrev pub HasEndedBehindAny : Running → Running → Type 0
HasEndedBehindAny m now = EndsBehindAny m.in_order m.h.now m.with m.phase.now m.before.value now.state

abbrev pub HasStoppedBehindAny : Running → Running → Type 0
HasStoppedBehindAny m now = StopsBehindAny m.in_order m.h.now m.with m.phase.now m.before.value now.state

-- At most so many steps are left: what control is left doesn't rest on what stands beside a state, and below it are the limits. So
-- many are fewer than if control were one more, and nothing else left.

abbrev pub bare : Shape
bare = record { height = 0; inside = λ y. false; level = λ y. 0; above = λ y l. 0; head = λ y. 0; group = λ y. []; below = λ y. []; placed = λ r. false; carried = λ r. false; at = λ r. 0 }

abbrev pub nothing : Ghost
nothing = record { owner = λ y. NotOfStock; gate = λ x. 0; shape = λ c. bare; placed = λ r. false; home = λ r. 0; path = λ r. []; counted = λ a b. [] }

abbrev pub control_left : Setting → PhaseRun → World → ℕ
control_left s p w = (with_waiting s (commands_waiting s p (history_in w)) (left s w nothing)).control

unfoldable pub most_steps : Running → ℕ
most_steps m = rank (limits_of (about_in m)) (record { control = control_left (about_in m) (phase_of m) (world_of m) + 1; gates = 0; rows = 0; queries = 0; counted = 0 })

-- what a survey tells
abbrev pub TellsSurvey : Running → Survey → Type 0
TellsSurvey m survey = IsSurvey m.with m.state.cells.items m.state.actors.items survey

-- What holds between turns, and how many steps are left, as the run of turns takes them: it doesn't look into either.

unfoldable pub HoldsNow : Running → Type 0
HoldsNow m = IsPhaseHeld m

unfoldable pub LeavesAtMost : Running → ℕ → Type 0
LeavesAtMost m most = HasLeftOver m most
