-- The cells of a core as one sees them who holds them all.
use Rattle.std.specs.Prelude.{ℕ, ◌&&◌, Bool, not, Option, None, List, [], get_or, false}
use Rattle.dim_hierarchy.specs.Dimension.{Dimension}
use Rattle.row_ledger.specs.{declared.event.Event.Event, declared.settings.Use.Use}
use Rattle.core_steps.specs.volap_cell.specs.{Cells.{CellValue, ledger_in}, Filling.cell_or, Setting.{Setting, ledger_cell}, Values.ActorValue, World.World, declared.cell.Cell.Cell, declared.command.Work.Work, declared.role.Role.TheVariants.Admin}
use Rattle.core_steps.specs.volap_cell.specs.declared.command.Work.TheVariants as work_is

-- What is seen.

abbrev pub cell_at : List (Option Cell) → ℕ → CellValue
cell_at cells y = cell_or (get_or cells y None)

-- a setting of which the dimensions alone are known, and how many servers and workers there are
abbrev pub setting_by : List Dimension → Use → Setting
setting_by h with = record { hierarchy = h; servers = with.servers; workers = with.workers; stock_cells = 0; roles = [] }

-- an actor of whom nothing is known
abbrev pub unseen : ActorValue
unseen = record { number = 0; role = Admin; setting = record { hierarchy = []; servers = 0; workers = 0; stock_cells = 0; roles = [] }; seen = 0; counted = false; purse = []; boxes = 0; command = None; errand = None; job = None; gone_gates = [] }

-- a state of which the cells alone are known
abbrev pub cells_only : (ℕ → CellValue) → World
cells_only cells = record { cells = cells; actors = λ a. unseen }

abbrev pub world_by : List (Option Cell) → World
world_by cells = cells_only (cell_at cells)

-- the history, the newest event first
abbrev pub history_at : List (Option Cell) → List Event
history_at cells = (ledger_in (cell_at cells ledger_cell)).history

-- a page that isn't shown waits until everyone else is idle
abbrev pub waits_for_others : Work → Bool
waits_for_others (work_is.Page subject there shown) = there && not shown
waits_for_others _ = false
