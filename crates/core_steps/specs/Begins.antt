-- What the steps are by which inserts and queries begin, where their cells are, what they ask, and what they tell.
use Rattle.std.specs.Prelude.{ℕ, ⊤, List, ◌∷◌, Option, Some}
use Rattle.core_admin.specs.core_image.specs.{Asking.CanBeginQuery, NotesDue.CanBeginInsert, Told.{Tells, asked_by, begun_by}}
use Rattle.core_steps.specs.Places.{two_at, three_at}
use Rattle.core_steps.specs.declared.begins.BeginStep.{BeginStep}
use Rattle.core_steps.specs.declared.begins.BeginStep.TheVariants as begin
use Rattle.dim_hierarchy.specs.Dimension.{Dimension}
use Rattle.core_shard.specs.volap_cell.specs.{Cells.CellValue, Setting.ledger_cell, Values.ActorValue, declared.kind.Kind.Kind}
use Rattle.core_shard.specs.volap_cell.specs.declared.kind.Kind.TheVariants as kind

abbrev pub begin_kind : BeginStep → Kind
begin_kind (begin.Insert image at measures) = kind.BeginInsert
begin_kind (begin.Query desk image filter) = kind.BeginQuery

abbrev pub begin_places : BeginStep → List (Option ℕ)
begin_places (begin.Insert image at measures) = two_at image ledger_cell
begin_places (begin.Query desk image filter) = three_at desk image ledger_cell

abbrev pub begin_asks : BeginStep → List Dimension → List (Option CellValue) → ActorValue → Type 0
begin_asks (begin.Insert image_at at measures) h (Some image ∷ Some ledger ∷ _) a = CanBeginInsert h at image ledger a
begin_asks (begin.Query desk_at image_at filter) h (Some desk ∷ Some image ∷ Some ledger ∷ _) a = CanBeginQuery h desk image ledger a filter
begin_asks step h held a = ⊥

-- what the ledger has more: the event of the beginning
abbrev pub begin_tells : BeginStep → ActorValue → (was now : List (Option CellValue)) → Type 0
begin_tells (begin.Insert image_at at measures) a (_ ∷ Some ledger ∷ _) (_ ∷ Some ledger_now ∷ _) = Tells (begun_by at measures) a ledger ledger_now
begin_tells (begin.Query desk_at image_at filter) a (_ ∷ _ ∷ Some ledger ∷ _) (_ ∷ _ ∷ Some ledger_now ∷ _) = Tells (asked_by filter) a ledger ledger_now
begin_tells step a was now = ⊤
