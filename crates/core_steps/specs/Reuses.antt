-- What the steps are by which cells are used again: where their cells are, and what they ask.
use Rattle.std.specs.Prelude.{ℕ, List, ◌∷◌, Option, Some}
use Rattle.core_admin.specs.ReuseDue.{CanReuseBlock, CanReuseGate}
use Rattle.core_steps.specs.Places.{two_at, three_at}
use Rattle.core_steps.specs.declared.reuses.ReuseStep.{ReuseStep}
use Rattle.core_steps.specs.declared.reuses.ReuseStep.TheVariants as reuse
use Rattle.dim_hierarchy.specs.Dimension.{Dimension}
use Rattle.core_shard.specs.volap_cell.specs.{Cells.CellValue, Setting.stock_cell, Values.ActorValue}

abbrev pub reuse_places : ReuseStep → List (Option ℕ)
reuse_places (reuse.Block gate block) = three_at gate block stock_cell
reuse_places (reuse.Gate gate) = two_at gate stock_cell

abbrev pub reuse_asks : ReuseStep → List Dimension → List (Option CellValue) → ActorValue → Type 0
reuse_asks (reuse.Block gate_at block_at) h (Some gate ∷ Some block ∷ Some stock ∷ _) a = CanReuseBlock block_at gate stock a
reuse_asks (reuse.Gate gate_at) h (Some gate ∷ Some stock ∷ _) a = CanReuseGate gate stock a
reuse_asks step h held a = ⊥
