-- A split, a move or a balance that an administrator has called, from its beginning to its end.
use Rattle.std.specs.Prelude.{ℕ, ⊤, Option, Some, None}
use Rattle.actor_run.specs.call_steps.specs.Opened.{IsCallDone, IsCallOpen}
use Rattle.job_steps.specs.Jobs.{HasJobOpen}
use Rattle.row_ledger.specs.{Classes.class_of, declared.class.Class.Class, declared.settings.{Call.Call, How.How}}
use Rattle.row_ledger.specs.declared.class.Class.TheVariants as class
use Rattle.job_steps.specs.seat_steps.specs.declared.floor.{Floor.Floor, Player.Player}

-- a split or a move, or a balance
abbrev pub IsOfJob : Class → Type 0
IsOfJob (class.Action action) = ⊤
IsOfJob (class.Balance most) = ⊤
IsOfJob class = ⊥

-- Such a call is open, which began with the event at this position.
pub record IsJobOpen (f : Floor) (of : ℕ) (call : Call) (start now : Player) : Type 0 where
  pub kind : IsOfJob (class_of call)
  pub opened : IsCallOpen f of call start now
  pub has : HasJobOpen now

-- it is open still, or has ended so
abbrev pub GoesOnCall : Floor → Option How → ℕ → Call → Player → Player → Type 0
GoesOnCall f None of call start now = IsJobOpen f of call start now
GoesOnCall f (Some how) of call start now = IsCallDone f of call how start now
