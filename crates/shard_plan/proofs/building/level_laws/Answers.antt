use Rattle.shard_plan.proofs.Levels.{levels_from-one, levels_from-many}
use Rattle.shard_plan.proofs.building.level_laws.Goals as goal

pub returns : goal.returns
returns c = record { root = levels_from-one; parents = levels_from-many }
