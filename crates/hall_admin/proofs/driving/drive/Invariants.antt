use Rattle.std.proofs.Common.{ℕ}
use Rattle.hall_admin.specs.Jobs.{IsJobOpen}
use Rattle.row_ledger.specs.declared.settings.Call.{Call}
use Rattle.job_steps.specs.seat_steps.specs.declared.floor.Player.{Player}
use Rattle.hall_admin.proofs.driving.drive.Given as goal

abbrev pub invariant-loop : goal.invariant-loop
invariant-loop g l = (of : ℕ) (call : Call) (start : Player) → IsJobOpen l.floor of call start l.initial.player → IsJobOpen l.floor of call start l.player
