-- The commands of a phase, by who does them.
use Rattle.std.specs.Prelude.{ℕ, ◌≡◌, ◌+◌, ◌<◌, true, false, List, [], length, Some, slice_get}
use Rattle.hall_hands.specs.actor_run.specs.Sessions.{SessionValue}
use Rattle.row_ledger.specs.declared.event.Event.{Event}
use Rattle.script_form.specs.{Fits.Fits, declared.script.Command.Command}
use Rattle.script_run.specs.Phases.{closes}
use Rattle.hall_hands.specs.seat_steps.specs.declared.floor.Floor.{Floor}
use Rattle.session_runs.specs.Sessions.{DoesFirst, DoesInTurn, stream_of}

-- the command is for a server of the hall, with a name or a pick for each of its dimensions
abbrev pub FitsFloor : Floor → Command → Type 0
FitsFloor f c = Fits (record { with = f.with; hierarchy = f.hierarchy; commands = [] }) c

abbrev pub AllFit : Floor → List Command → Type 0
AllFit f commands = (i : ℕ) (c : Command) → slice_get commands i ≡ Some c → FitsFloor f c

-- the session is that of this server, whose number it has too
pub record IsOfServer (server : ℕ) (s : SessionValue) : Type 0 where
  pub is : s.server ≡ server
  pub number : s.number ≡ server
  pub there : server < s.floor.with.servers

-- no one of these commands closes a phase
abbrev pub NoneClosesAt : List Command → Type 0
NoneClosesAt commands = (i : ℕ) (c : Command) → slice_get commands i ≡ Some c → closes c ≡ false

-- It does its own of these commands, one after the other; or the first of them, and stops.

abbrev pub DoesAll : Floor → ℕ → List Command → (past now : List Event) → Type 0
DoesAll f n commands past now = DoesInTurn f.with f.hierarchy n (stream_of f.with commands n) past now

abbrev pub DoesSome : Floor → ℕ → List Command → (past now : List Event) → Type 0
DoesSome f n commands past now = DoesFirst f.with f.hierarchy n (stream_of f.with commands n) past now

-- the last command alone may close the phase
abbrev pub ClosesLast : List Command → Type 0
ClosesLast phase = (i : ℕ) (c : Command) → slice_get phase i ≡ Some c → closes c ≡ true → i + 1 ≡ length phase
