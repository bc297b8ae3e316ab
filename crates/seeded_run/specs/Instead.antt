-- What is made where the step that is due finds no memory.
use Rattle.std.specs.Prelude.{◌≡◌, ◌⊎◌, Option, Some, None}
use Rattle.core_pages.specs.volap_cell.specs.declared.kind.Kind.{Kind}
use Rattle.core_pages.specs.volap_cell.specs.declared.kind.Kind.TheVariants as kind

-- A part ends, a command is noted to have ended, or a job that has frozen its shard is given up. A kind that isn't named takes no memory.
abbrev pub in_place_of : Kind → Option Kind
in_place_of kind.GateRead = Some kind.FinishPart
in_place_of kind.BlockVisit = Some kind.FinishPart
in_place_of kind.EnterQueue = Some kind.FinishPart
in_place_of kind.Refill = Some kind.FinishPart
in_place_of kind.Expand = Some kind.FinishPart
in_place_of kind.BeginInsert = Some kind.Note
in_place_of kind.BeginQuery = Some kind.Note
in_place_of kind.Route = Some kind.Note
in_place_of kind.Sync = Some kind.Note
in_place_of kind.Freeze = Some kind.Note
in_place_of kind.Collect = Some kind.Postpone
in_place_of kind.FinishSplit = Some kind.Postpone
in_place_of kind.FinishMove = Some kind.Postpone
in_place_of _ = None

-- the kind that is made is the one that is due, or is made in its place
abbrev pub StandsFor : Kind → Kind → Type 0
StandsFor due made = (made ≡ due) ⊎ (in_place_of due ≡ Some made)
