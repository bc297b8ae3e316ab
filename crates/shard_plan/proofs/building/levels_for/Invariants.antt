use Rattle.std.proofs.Common.{◌≡◌, ◌+◌, length}
use Rattle.shard_plan.specs.Building.{levels_for}
use Rattle.shard_plan.proofs.Levels.{levels_from}
use Rattle.shard_plan.proofs.building.levels_for.Given as goal

abbrev pub invariant-loop-level : goal.invariant-loop-level
invariant-loop-level l = l.levels + length (levels_from l.level) ≡ levels_for l.n + 1

abbrev pub decreases-loop-level : goal.decreases-loop-level
decreases-loop-level l = l.level
