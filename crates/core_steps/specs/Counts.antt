-- What the steps are by which a session is counted at a desk: where the cell is, and what they ask.
use Rattle.std.specs.Prelude.{ℕ, List, ◌∷◌, Option, Some, true, false}
use Rattle.core_admin.specs.core_image.specs.NotesDue.{CanCount}
use Rattle.core_steps.specs.Places.{one_at}
use Rattle.core_steps.specs.declared.counts.CountStep.{CountStep}
use Rattle.core_steps.specs.declared.counts.CountStep.TheVariants as count
use Rattle.dim_hierarchy.specs.Dimension.{Dimension}
use Rattle.core_shard.specs.volap_cell.specs.{Cells.CellValue, Values.ActorValue}

abbrev pub count_places : CountStep → List (Option ℕ)
count_places (count.Comes desk) = one_at desk
count_places (count.Goes desk) = one_at desk

abbrev pub count_asks : CountStep → List Dimension → List (Option CellValue) → ActorValue → Type 0
count_asks (count.Comes desk_at) h (Some desk ∷ _) a = CanCount desk a true
count_asks (count.Goes desk_at) h (Some desk ∷ _) a = CanCount desk a false
count_asks step h held a = ⊥
