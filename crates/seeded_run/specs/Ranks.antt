-- What is left to do in a phase, as one number that falls with each step: so the phase ends.
use Rattle.std.specs.Prelude.{ℕ, ◌≡◌, ◌≢◌, ◌+◌, ◌*◌, ◌<◌, ◌≤◌, true, List, [], ◌∷◌, Some, length}
use Rattle.row_ledger.specs.{Past.{is_beginning, session_in}, declared.event.Event.Event}
use Rattle.script_run.specs.Places.{begins_of}
use Rattle.core_pages.specs.volap_cell.specs.{Falls.{Left, Falls, GoesOn, control_brought}, Setting.{Setting, actor_count}, Sums.sum_below}
use Rattle.seeded_run.specs.Rests.{PhaseRun, rest_of}

-- the lower three of the four numbers are below these
pub record Limits : Type 0 where
  pub gates : ℕ
  pub rows : ℕ
  pub queries : ℕ

pub record IsWithin (limits : Limits) (left : Left) : Type 0 where
  pub gates : left.gates < limits.gates
  pub rows : left.rows < limits.rows
  pub queries : left.queries < limits.queries

-- the four as the digits of one number
abbrev pub rank : Limits → Left → ℕ
rank limits left = ((left.control * limits.gates + left.gates) * limits.rows + left.rows) * limits.queries + left.queries

-- Where the first of them that changes falls, so does that number.
abbrev pub RankFallsLaw : Type 0
RankFallsLaw = (limits : Limits) (before now : Left) → Falls before now → IsWithin limits now → rank limits now < rank limits before

-- how many commands the streams still have
abbrev pub commands_waiting : Setting → PhaseRun → List Event → ℕ
commands_waiting s p history = sum_below (actor_count s) (λ session. length (rest_of p history session))

-- With no event they get more. With one that begins a command of a stream that isn't at its end there is one fewer.
abbrev pub WaitingLaw : Type 0
WaitingLaw = (s : Setting) (p : PhaseRun) (e : Event) (history : List Event) → ((session : ℕ) → length (begins_of p.before session) ≤ length (begins_of history session))
    → (commands_waiting s p (e ∷ history) ≤ commands_waiting s p history)
    × ((a : ℕ) → session_in e ≡ Some a → a < actor_count s → rest_of p history a ≢ [] → commands_waiting s p (e ∷ history) < commands_waiting s p history)

-- for each of them the first number has more than its beginning can add
abbrev pub with_waiting : Setting → ℕ → Left → Left
with_waiting s count left = record left { control = left.control + count * (control_brought s + 1) }

-- So a step that begins a command falls too; and each step does by which no session is counted at its desk.
abbrev pub StepFallsLaw : Type 0
StepFallsLaw = (s : Setting) (before now : Left) (history history_now : List Event) (count count_now : ℕ)
    → GoesOn s before now history history_now → now.counted ≡ before.counted → count_now ≤ count
    → ((e : Event) → is_beginning e ≡ true → history_now ≡ e ∷ history → count_now < count)
    → Falls (with_waiting s count before) (with_waiting s count_now now)
