use Rattle.std.proofs.Common.{◌≡◌, ◌-◌, ◌<◌, ◌≤◌, ◌+◌, ◌^◌, ◌++◌}
use Rattle.std.specs.Prelude.{vec_capacity, vec_len}
use Rattle.shard_plan.specs.Balancing.{plan}
use Rattle.balancer.specs.Turn.{rows_of_all}
use Rattle.balancer.proofs.balance.plan_into.Given as goal

abbrev pub invariant-loop-turn : goal.invariant-loop-turn
invariant-loop-turn l = record {
  bound : rows_of_all l.standing < 2 ^ 63;
  room : vec_len l.actions + (l.n - l._turn) ≤ vec_capacity l.actions;
  planned : l.actions.items ++ plan l.standing l.workers (l.n - l._turn) ≡ plan l.initial.standing l.workers l.n;
}
