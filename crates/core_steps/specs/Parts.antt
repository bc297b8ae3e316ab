-- What the steps of parts between desks, tables of shards and gates are, where their cells are, and what they ask.
use Rattle.std.specs.Prelude.{ℕ, List, ◌∷◌, Option, Some, None, Bool, true, false}
use Rattle.core_shard.specs.Due.{CanExpand, CanFinishPart, CanForward, CanLookUp, CanTakePart}
use Rattle.core_steps.specs.Places.{one_at, two_at}
use Rattle.core_steps.specs.declared.parts.PartStep.{PartStep}
use Rattle.core_steps.specs.declared.parts.PartStep.TheVariants as part
use Rattle.dim_hierarchy.specs.Dimension.{Dimension}
use Rattle.core_shard.specs.volap_cell.specs.{Cells.CellValue, Values.ActorValue, declared.kind.Kind.Kind}
use Rattle.core_shard.specs.volap_cell.specs.declared.kind.Kind.TheVariants as kind

abbrev pub part_kind : PartStep → Kind
part_kind (part.TakePart desk) = kind.TakePart
part_kind (part.LookUp map gate) = kind.LookUp
part_kind (part.Forward map desk) = kind.Forward
part_kind (part.Expand map desk) = kind.Expand
part_kind (part.FinishPart desk) = kind.FinishPart
part_kind (part.FinishPinned gate desk) = kind.FinishPart

abbrev pub part_places : PartStep → List (Option ℕ)
part_places (part.TakePart desk) = one_at desk
part_places (part.LookUp map gate) = two_at map gate
part_places (part.Forward map desk) = two_at map desk
part_places (part.Expand map desk) = two_at map desk
part_places (part.FinishPart desk) = one_at desk
part_places (part.FinishPinned gate desk) = two_at gate desk

abbrev pub part_asks : PartStep → List Dimension → List (Option CellValue) → ActorValue → Type 0
part_asks (part.TakePart desk_at) h (Some desk ∷ _) a = CanTakePart desk a
part_asks (part.LookUp map_at gate_at) h (Some map ∷ Some gate ∷ _) a = CanLookUp map gate_at gate a
part_asks (part.Forward map_at desk_at) h (Some map ∷ Some desk ∷ _) a = CanForward map desk a
part_asks (part.Expand map_at desk_at) h (Some map ∷ Some desk ∷ _) a = CanExpand map desk a
part_asks (part.FinishPart desk_at) h (Some desk ∷ _) a = CanFinishPart 0 None desk a
part_asks (part.FinishPinned gate_at desk_at) h (Some gate ∷ Some desk ∷ _) a = CanFinishPart gate_at (Some gate) desk a
part_asks step h held a = ⊥

-- whether it may find no memory
abbrev pub part_may_fail : PartStep → Bool
part_may_fail (part.Expand map desk) = true
part_may_fail step = false
