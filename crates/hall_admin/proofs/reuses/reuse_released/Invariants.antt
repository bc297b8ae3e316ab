use Rattle.actor_run.specs.Called.{HasBegunNothing}
use Rattle.hall_admin.specs.Callers.{StaysCaller}
use Rattle.job_steps.specs.volap_cell.specs.declared.role.Role.TheVariants.{Admin}
use Rattle.hall_admin.proofs.reuses.reuse_released.Given as goal

abbrev pub invariant-loop : goal.invariant-loop
invariant-loop g l = StaysCaller l.floor Admin (HasBegunNothing l.initial.player.number) l.initial.player l.player
