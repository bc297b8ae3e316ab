-- The end of a split as a step: either child of the shard gets a gate, in the cells of the last two spares of a purse.
use Rattle.std.specs.Prelude.{ℕ, List, Option, option_and_then, option_map}
use Rattle.cell_stock.specs.declared.purse.Spare.{Spare}
use Rattle.core_due.specs.Spares.{last_spare, spare_before}
use Rattle.core_steps.specs.declared.jobs.JobStep.{JobStep}
use Rattle.core_steps.specs.declared.jobs.JobStep.TheVariants.{FinishSplit}

-- the last is for the left child; there is none where there are not two
abbrev pub split_of : (map gate : ℕ) → List Spare → Option JobStep
split_of map gate spares = option_and_then (λ left. option_map (λ right. FinishSplit map gate left right) (spare_before spares)) (last_spare spares)
