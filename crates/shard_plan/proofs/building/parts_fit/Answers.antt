use Rattle.shard_plan.proofs.Levels.{parts-fit}
use Rattle.shard_plan.proofs.building.parts_fit.Goals as goal

pub returns : goal.returns
returns c = parts-fit
