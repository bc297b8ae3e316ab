-- What an actor sees in a cell that it holds.
use Rattle.std.specs.Prelude.{ℕ, ◌≡◌, Option, Some, None}
use mathlib.Core.Option.{some}
use Rattle.mapping_table.specs.declared.place.Where.{Where}
use Rattle.mapping_table.specs.declared.place.Where.TheVariants as where_is
use Rattle.seat_steps.specs.declared.{floor.Player.Player, looks.Lead.Lead}
use Rattle.seat_steps.specs.declared.looks.Lead.TheVariants as lead
use Rattle.turn_table.specs.Numbered.{value_of}
use Rattle.core_due.specs.volap_cell.specs.{Cells.{CellValue, cell_of}, declared.cell.Cell.Cell}

-- P holds of what the held cell has
abbrev pub Sees : Player → ℕ → (CellValue → Type 0) → Type 0
Sees p k P = (c : Cell) → value_of p.seat.view.held k ≡ some c → P (cell_of c)

-- where a table has a shard
abbrev pub lead_of : Option Where → Lead
lead_of None = lead.Nowhere
lead_of (Some (where_is.Gate gate)) = lead.Gate gate
lead_of (Some (where_is.Split plane left right)) = lead.Split
lead_of (Some (where_is.Moved to)) = lead.Moved
