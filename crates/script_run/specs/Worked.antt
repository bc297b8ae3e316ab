-- A worked run: two servers, and a script of the one command settle.
use Rattle.std.specs.Prelude.{List, [], ◌∷◌}
use Rattle.describing_set.specs.declared.listing.Spot.{Spot}
use Rattle.row_ledger.specs.{declared.event.Event.Event, declared.event.Event.TheVariants.{Synced, Called, Ended}, declared.settings.Call.TheVariants.Settle, declared.settings.How.TheVariants.Fine, declared.settings.Use.Use}
use Rattle.script_form.specs.{declared.script.Command.Command, declared.script.Command.TheVariants.Control}

abbrev pub two : Use
two = record { servers = 2; workers = 1; threads = 1; cells = 64 }

abbrev pub settle : List Command
settle = Control Settle ∷ []

-- the first pulls of the two servers, and the settle that begins behind them, whatever each pull lists
abbrev pub settle_begun : List Spot → List Event
settle_begun l = Called 3 Settle ∷ Synced 1 l ∷ Synced 0 l ∷ []

-- its first three pulls
abbrev pub three_pulls : List Spot → List Event
three_pulls l = Synced 0 l ∷ Synced 1 l ∷ Synced 0 l ∷ settle_begun l

-- it pulls for each server, for each once more, and ends
abbrev pub settled : List Spot → List Event
settled l = Ended 2 Fine ∷ Synced 1 l ∷ three_pulls l

-- the same without the last pull
abbrev pub ended_early : List Spot → List Event
ended_early l = Ended 2 Fine ∷ three_pulls l
