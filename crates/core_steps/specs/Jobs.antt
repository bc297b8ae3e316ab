-- What the steps of splits, moves and balances are, where their cells are, and what they ask.
use Rattle.std.specs.Prelude.{ℕ, List, [], ◌∷◌, Option, Some, None, Bool, true, false}
use Rattle.core_admin.specs.{BuildDue.CanBuildTrees, CollectDue.{CanCollectBlock, CanCollectRow}, FinishDue.{CanBuildBlock, CanFinishHere, CanFinishMove, CanPostpone}, FreezeDue.{CanDrain, CanFreeze}, LoadDue.CanReadLoad, SplitDue.CanFinishSplit}
use Rattle.core_steps.specs.Places.{one_at, two_at, three_at}
use Rattle.core_steps.specs.declared.jobs.JobStep.{JobStep}
use Rattle.core_steps.specs.declared.jobs.JobStep.TheVariants as job
use Rattle.dim_hierarchy.specs.Dimension.{Dimension}
use Rattle.core_shard.specs.volap_cell.specs.{Cells.CellValue, Setting.{ledger_cell, registry_cell, stock_cell}, Values.ActorValue, declared.kind.Kind.Kind}
use Rattle.core_shard.specs.volap_cell.specs.declared.kind.Kind.TheVariants as kind

abbrev pub job_kind : JobStep → Kind
job_kind (job.ReadLoad map gate workers) = kind.LookUp
job_kind (job.Freeze map gate) = kind.Freeze
job_kind (job.Drained gate) = kind.Drained
job_kind (job.CollectBlock block) = kind.Collect
job_kind (job.CollectRow gate) = kind.Collect
job_kind (job.BuildTrees gate) = kind.Collect
job_kind (job.BuildBlock cell) = kind.BuildBlock
job_kind (job.FinishSplit map gate left right) = kind.FinishSplit
job_kind (job.FinishMove from to gate new) = kind.FinishMove
job_kind (job.FinishHere map gate new) = kind.FinishMove
job_kind job.Postpone = kind.Postpone

abbrev pub job_places : JobStep → List (Option ℕ)
job_places (job.ReadLoad map gate workers) = two_at map gate
job_places (job.Freeze map gate) = three_at map gate stock_cell
job_places (job.Drained gate) = one_at gate
job_places (job.CollectBlock block) = one_at block
job_places (job.CollectRow gate) = one_at gate
job_places (job.BuildTrees gate) = one_at gate
job_places (job.BuildBlock cell) = one_at cell
job_places (job.FinishSplit map gate left right) = Some map ∷ Some gate ∷ Some left ∷ Some right ∷ Some registry_cell ∷ Some stock_cell ∷ Some ledger_cell ∷ []
job_places (job.FinishMove from to gate new) = Some from ∷ Some to ∷ Some gate ∷ Some new ∷ Some registry_cell ∷ Some stock_cell ∷ Some ledger_cell ∷ []
job_places (job.FinishHere map gate new) = Some map ∷ Some gate ∷ Some new ∷ Some registry_cell ∷ Some stock_cell ∷ Some ledger_cell ∷ None ∷ []
job_places job.Postpone = two_at stock_cell ledger_cell

abbrev pub job_asks : JobStep → List Dimension → List (Option CellValue) → ActorValue → Type 0
job_asks (job.ReadLoad map_at gate_at workers) h (Some map ∷ Some gate ∷ _) a = CanReadLoad workers map gate_at a
job_asks (job.Freeze map_at gate_at) h (Some map ∷ Some gate ∷ Some stock ∷ _) a = CanFreeze map_at map gate_at stock a
job_asks (job.Drained gate_at) h (Some gate ∷ _) a = CanDrain gate_at gate a
job_asks (job.CollectBlock at) h (Some block ∷ _) a = CanCollectBlock at a
job_asks (job.CollectRow gate_at) h (Some gate ∷ _) a = CanCollectRow gate_at gate a
job_asks (job.BuildTrees gate_at) h (Some gate ∷ _) a = CanBuildTrees gate_at gate a
job_asks (job.BuildBlock at) h (Some cell ∷ _) a = CanBuildBlock at a
job_asks (job.FinishSplit map_at gate_at left_at right_at) h (Some map ∷ Some gate ∷ Some left ∷ Some right ∷ Some registry ∷ Some stock ∷ Some ledger ∷ []) a =
    CanFinishSplit map gate_at left_at right_at registry stock ledger a
job_asks (job.FinishMove from_at to_at gate_at new_at) h (Some from ∷ Some to ∷ Some gate ∷ Some new ∷ Some registry ∷ Some stock ∷ Some ledger ∷ []) a =
    CanFinishMove from to gate_at new_at registry stock ledger a
job_asks (job.FinishHere map_at gate_at new_at) h (Some map ∷ Some gate ∷ Some new ∷ Some registry ∷ Some stock ∷ Some ledger ∷ _) a =
    CanFinishHere map gate_at new_at registry stock ledger a
job_asks job.Postpone h (Some stock ∷ Some ledger ∷ _) a = CanPostpone stock ledger a
job_asks step h held a = ⊥

-- whether it may find no memory, or no ids
abbrev pub job_may_fail : JobStep → Bool
job_may_fail (job.Freeze map gate) = true
job_may_fail (job.CollectBlock block) = true
job_may_fail (job.CollectRow gate) = true
job_may_fail (job.BuildTrees gate) = true
job_may_fail (job.FinishSplit map gate left right) = true
job_may_fail (job.FinishMove from to gate new) = true
job_may_fail (job.FinishHere map gate new) = true
job_may_fail step = false
