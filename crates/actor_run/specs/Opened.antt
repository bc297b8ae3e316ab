-- A table over an opening, and the seat that has all its actors.
use Rattle.std.specs.Prelude.{◌≡◌, false, List, []}
use Rattle.atomic_table.specs.Seated.{TableId}
use Rattle.row_ledger.specs.declared.event.Event.{Event}
use Rattle.turn_table.specs.{Seat.{SeatValue, cell_count}, Views.first_view}
use Rattle.whole_steps.specs.volap_cell.specs.{Filling.IsOpened, Setting.{Setting, ledger_cell}, declared.actor.Actor.Actor, declared.cell.Cell.Cell}
use Rattle.whole_steps.specs.volap_cell.specs.Setting as setting
use Rattle.whole_steps.specs.volap_turns.specs.{Rule.{all_there, history_of}, Wholes.CanBe}

-- The seat holds no cell, and it and the table are those of the cells and actors of an opening.
pub record IsOpenedTable (s : Setting) (t : TableId) (seat : SeatValue Cell Actor Event) (actors : List Actor) : Type 0 where
  pub cells : List Cell
  pub opened : IsOpened s (all_there cells) (all_there actors)
  pub wide : cell_count t ≡ setting.cell_count s
  pub seat_is : seat ≡ record { table_id = t; lifted = false; ranks = []; view = first_view ledger_cell history_of cells actors }
  pub possible : CanBe seat.view
