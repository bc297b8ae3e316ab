use Rattle.std.proofs.Common.{◌≡◌, ◌≤◌, vec_len}
use Rattle.actor_run.proofs.bell.bells.Given as goal

abbrev pub invariant-loop : goal.invariant-loop
invariant-loop l = record { count : vec_len l.bells ≡ l.counter; few : l.counter ≤ l.count }
