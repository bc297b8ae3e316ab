-- At most so many steps are left of a phase: the limits that the size of a core gives, and the number that they make of what is left.
use Rattle.std.specs.Prelude.{ℕ, ◌≡◌, ◌≢◌, ◌+◌, ◌*◌, ◌^◌, ◌<◌, ◌≤◌, ◌⊎◌, List, [], ◌∷◌, Option, Some, length}
use Rattle.dim_hierarchy.specs.Dimension.{Dimension}
use Rattle.row_ledger.specs.{Past.session_in, declared.event.Event.Event}
use Rattle.script_run.specs.Places.{begins_of}
use Rattle.core_pages.specs.volap_cell.specs.{Falls.{left, per_gate, per_query}, Ghost.Ghost, Invariant.InvWith, Setting.{Setting, actor_count, cell_count}, State.Stepped, Steps.{IsKept, Step, history_in}, View.view, World.World, declared.actor.Actor.Actor, declared.cell.Cell.Cell, declared.kind.Kind.Kind, declared.kind.Kind.TheVariants.Note}
use Rattle.seeded_run.specs.{Core.{HasCore, IsCore}, Ranks.{Limits, IsWithin, rank, commands_waiting, with_waiting}, Rests.{PhaseRun, rest_of}}

-- Limits.

-- a history has fewer events than this
abbrev pub most_events : ℕ
most_events = 2 ^ 31

-- a part goes on at most so often, wherever it starts
abbrev pub most_far : ℕ
most_far = 1 + 2 * most_events

-- at most so many parts wait on a desk, each for a shard of its own
abbrev pub most_waiting : Setting → ℕ
most_waiting s = s.workers + 2 * most_events

-- An actor has a command and a part at most, and a desk one part of an insert, or such parts of a query. A row has no more levels
-- to go down than there are cells, and a query's part no more blocks to visit.
abbrev pub limits_of : Setting → Limits
limits_of s = record {
  gates = actor_count s * (2 * (per_gate * most_far) + 1) + s.servers * (per_gate * most_far) + 1;
  rows = actor_count s * (cell_count s + 5) + s.servers + 1;
  queries = actor_count s * (per_query s * most_far + 1) + s.servers * (most_waiting s * (per_query s * most_far)) + 1;
}

-- In each state that meets the invariant the limits hold.
abbrev pub LimitsLaw : Type 0
LimitsLaw = (s : Setting) (w : World) (g : Ghost) → InvWith s (view s w) g → IsWithin (limits_of s) (left s w g)

-- Steps.

-- What is left as one number, where each command that hasn't begun counts more than it can bring.
abbrev pub steps_left : Setting → PhaseRun → World → Ghost → ℕ
steps_left s p w g = rank (limits_of s) (with_waiting s (commands_waiting s p (history_in w)) (left s w g))

-- Commands begin in turn: the phase had begun before, and who begins a command has it from its stream.
pub record BeginInTurn (s : Setting) (p : PhaseRun) (history history_now : List Event) : Type 0 where
  pub before : (session : ℕ) → length (begins_of p.before session) ≤ length (begins_of history session)
  pub next : (e : Event) (session : ℕ) → session_in e ≡ Some session → history_now ≡ e ∷ history → (session < actor_count s) × (rest_of p history session ≢ [])

-- With each step fewer are left, where its actor is counted at its desk as before.
abbrev pub StepsLeftLaw : Type 0
StepsLeftLaw = (s : Setting) (p : PhaseRun) (k : Kind) (n : ℕ) (w now : World) (g : Ghost) (kept : IsKept s k n w now g) → (now.actors n).counted ≡ (w.actors n).counted
    → BeginInTurn s p (history_in w) (history_in now) → steps_left s p now kept.ghost_now < steps_left s p w g

-- It is so with each step that is no note, and with each one that changes the history or its actor's command.
abbrev pub CountedLaw : Type 0
CountedLaw = (s : Setting) (k : Kind) (n : ℕ) (w now : World) → Step s k n w now → (k ≢ Note) ⊎ (history_in now ≢ history_in w) ⊎ ((now.actors n).command ≢ (w.actors n).command) → (now.actors n).counted ≡ (w.actors n).counted

-- Runs.

-- At most so many steps are left, by some ghost with which the state meets the invariant.
pub record HasLeft (s : Setting) (p : PhaseRun) (w : World) (most : ℕ) : Type 0 where
  pub ghost : Ghost
  pub holds : InvWith s (view s w) ghost
  pub few : steps_left s p w ghost ≤ most

-- the same of a script's core as one thread holds it
pub record CoreHasLeft (h : List Dimension) (p : PhaseRun) (cells : List (Option Cell)) (actors : List (Option Actor)) (most : ℕ) : Type 0 where
  pub setting : Setting
  pub world : World
  pub is_core : IsCore h p.with cells actors setting world
  pub left : HasLeft setting p world most

-- As a phase begins, there is such a number.
abbrev pub MostLaw : Type 0
MostLaw = (h : List Dimension) (p : PhaseRun) (cells : List (Option Cell)) (actors : List (Option Actor)) → HasCore h p.with cells actors → (most : ℕ) × CoreHasLeft h p cells actors most

-- whatever state the core was, its actor is counted at its desk as before, and commands begin in turn
abbrev pub GoesInTurn : (h : List Dimension) (p : PhaseRun) (k : Kind) (n : ℕ) (cells : List (Option Cell)) (actors : List (Option Actor)) (cells_now : List (Option Cell)) (actors_now : List (Option Actor)) → Type 0
GoesInTurn h p k n cells actors cells_now actors_now =
    (s : Setting) (w now : World) → IsCore h p.with cells actors s w → IsCore h p.with cells_now actors_now s now → Step s k n w now
    → ((now.actors n).counted ≡ (w.actors n).counted) × BeginInTurn s p (history_in w) (history_in now)

-- And with each step there is a smaller one.
abbrev pub FewerLaw : Type 0
FewerLaw = (h : List Dimension) (p : PhaseRun) (k : Kind) (n : ℕ) (cells : List (Option Cell)) (actors : List (Option Actor)) (cells_now : List (Option Cell)) (actors_now : List (Option Actor)) (most : ℕ)
    → CoreHasLeft h p cells actors most → Stepped h k n cells actors cells_now actors_now → GoesInTurn h p k n cells actors cells_now actors_now
    → (most_now : ℕ) × CoreHasLeft h p cells_now actors_now most_now × (most_now < most)
