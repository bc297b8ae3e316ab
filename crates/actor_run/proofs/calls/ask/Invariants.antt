use Rattle.std.proofs.Common.{◌≡◌}
use Rattle.whole_steps.specs.seat_steps.specs.Booked.{IsAsBefore}
use Rattle.actor_run.proofs.calls.ask.Given as goal

abbrev pub invariant-loop : goal.invariant-loop
invariant-loop g l = IsAsBefore l.floor l.initial.player l.player × (l.asked ≡ l.initial.asked)
