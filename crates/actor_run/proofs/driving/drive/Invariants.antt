use Rattle.std.specs.Prelude.{◌≤◌}
use Rattle.actor_run.specs.{Driving.IsOpenSince, Everything.HasSpent}
use Rattle.actor_run.proofs.driving.drive.Given as goal

abbrev pub invariant-loop : goal.invariant-loop
invariant-loop g l = IsOpenSince l.floor l.initial.player l.player × (l.initial.steps ≤ l.steps)
    × (HasSpent l.floor l.initial.player l.initial.steps l.initial.steps → HasSpent l.floor l.player l.initial.steps l.steps)
