-- Which event a step puts in the history by which a command begins, or by which a called one ends.
use Rattle.std.specs.{Option.option_map_or, Prelude.{ℕ, ℤ, ◌≡◌, List, ◌∷◌, length}}
use Rattle.dim_hierarchy.specs.{declared.filter.Pick.Pick, declared.row.Coord.Coord}
use Rattle.row_ledger.specs.{declared.event.Event.Event, declared.settings.{Call.Call, How.How}}
use Rattle.row_ledger.specs.declared.event.Event.TheVariants as event
use Rattle.volap_cell.specs.{Cells.{CellValue, ledger_in}, Commands.server_of, Values.ActorValue, declared.command.Command.Command}

-- What an actor's event is, at its place in the history.

abbrev pub begun_by : Coord → ℤ → ActorValue → ℕ → Event
begun_by at measures a place = event.Begun a.number (server_of a.role) (record { no = place; at = at; measures = measures })

abbrev pub asked_by : List Pick → ActorValue → ℕ → Event
asked_by filter a place = event.Asked a.number (server_of a.role) filter

abbrev pub unknown_by : ℕ → ActorValue → ℕ → Event
unknown_by dim a place = event.Unknown a.number (server_of a.role) dim

abbrev pub refused_by : ActorValue → ℕ → Event
refused_by a place = event.Refused a.number

abbrev pub called_by : Call → ActorValue → ℕ → Event
called_by call a place = event.Called a.number call

-- where the actor's open command began; 0 where it has none
abbrev pub open_of : ActorValue → ℕ
open_of a = option_map_or (λ (c : Command). c.of) a.command 0

abbrev pub ended_by : How → ActorValue → ℕ → Event
ended_by how a place = event.Ended (open_of a) how

-- the ledger has this event of the actor more
abbrev pub Tells : (ActorValue → ℕ → Event) → ActorValue → CellValue → CellValue → Type 0
Tells event_of a ledger ledger_now = (ledger_in ledger_now).history ≡ event_of a (length (ledger_in ledger).history) ∷ (ledger_in ledger).history
