use Rattle.std.proofs.Common.{◌≡◌, ◌+◌, ◌*◌, ◌^◌, ◌≤◌, sum}
use Rattle.shard_plan.specs.Building.{cells_for}
use Rattle.shard_plan.proofs.Levels.{levels_from}
use Rattle.shard_plan.proofs.building.cells_for.Given as goal

abbrev pub invariant-loop-level : goal.invariant-loop-level
invariant-loop-level l = record {
  counted : l.cells + sum (levels_from l.level) ≡ cells_for l.n + l.level;
  bound : l.cells + 2 * l.level ≤ 2 ^ 42;
}

abbrev pub decreases-loop-level : goal.decreases-loop-level
decreases-loop-level l = l.level
