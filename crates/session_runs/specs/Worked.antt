-- Worked sessions of two servers: a sync of the first one, while an insert there finds no memory.
use Rattle.std.specs.Prelude.{List, [], ◌∷◌}
use Rattle.describing_set.specs.declared.listing.Spot.{Spot}
use Rattle.row_ledger.specs.{declared.event.Event.Event, declared.event.Event.TheVariants.{Called, Ended, Refused, Synced}, declared.settings.Call.TheVariants.Sync, declared.settings.How.TheVariants.Fine}
use Rattle.script_form.specs.{declared.script.Command.Command, declared.script.Command.TheVariants.{Control, Insert}, declared.script.NewRow.NewRow}

-- the insert, and the sync
abbrev pub row_and_sync : NewRow → List Command
row_and_sync new = Insert new ∷ Control (Sync 0) ∷ []

-- the first pulls of the two servers, whatever they list
abbrev pub opened : List Spot → List Event
opened l = Synced 1 l ∷ Synced 0 l ∷ []

-- the sync begins, the insert is refused, and the sync pulls and ends
abbrev pub at_once : List Spot → List Event
at_once l = Ended 2 Fine ∷ Synced 0 l ∷ Refused 0 ∷ Called 2 (Sync 0) ∷ opened l

-- the sync pulls once more before it ends
abbrev pub pulled_twice : List Spot → List Event
pulled_twice l = Ended 2 Fine ∷ Synced 0 l ∷ Synced 0 l ∷ Called 2 (Sync 0) ∷ opened l
