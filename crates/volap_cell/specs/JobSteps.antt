-- Which kind of step is due for a job, by how far it has come. Whether that step has to wait is told by what it asks of its cells.
use Rattle.std.specs.Prelude.{ℕ, Bool, true, false, Option, Some, None, if◌then◌else◌, List, [], ◌∷◌}
use Rattle.volap_cell.specs.{Values.{JobValue, StageValue, IsCalled, IsDeclined, IsFrozen, Collects, Builds}, declared.kind.Kind.Kind}
use Rattle.volap_cell.specs.declared.kind.Kind.TheVariants as kind

-- no item is in a list
abbrev pub is_empty : {A : Type 0} → List A → Bool
is_empty [] = true
is_empty (x ∷ xs) = false

-- a split or a move ends with its new gates
abbrev pub finish_kind : Option ℕ → Kind
finish_kind None = kind.FinishSplit
finish_kind (Some worker) = kind.FinishMove

-- by how far it has come, and whether it has a worker to go to
abbrev pub stage_kind : Option ℕ → StageValue → Kind
stage_kind to IsCalled = kind.Freeze
stage_kind to (IsDeclined why) = kind.Note
stage_kind to (IsFrozen f) = kind.Drained
stage_kind to (Collects c) = kind.Collect
stage_kind to (Builds b) = if is_empty b.unbuilt then finish_kind to else kind.BuildBlock

-- the kind that is due for a job
abbrev pub next_of_job : JobValue → Kind
next_of_job job = stage_kind job.to job.stage
