-- On which desk a part waits for a worker, as one thread sees it that holds a core's cells.
use Rattle.std.specs.{List.list_any, Prelude.{ℕ, ◌≡◌, ◌<◌, true, false, List, [], Option}}
use Rattle.core_due.specs.{Due.any_below, Look.{cell_at, setting_by}}
use Rattle.query_router.specs.Desk.{waits_for}
use Rattle.row_ledger.specs.declared.settings.Use.{Use}
use Rattle.core_steps.specs.volap_cell.specs.{Cells.desk_in, Setting.desk_cell, declared.cell.Cell.Cell}

-- the server is the first one on whose desk a part waits for the worker
pub record IsAwaited (with : Use) (cells : List (Option Cell)) (worker server : ℕ) : Type 0 where
  pub within : server < with.servers
  pub waits : list_any (waits_for worker) (desk_in (cell_at cells (desk_cell (setting_by [] with) server))).parts ≡ true
  pub first : any_below server (λ other. list_any (waits_for worker) (desk_in (cell_at cells (desk_cell (setting_by [] with) other))).parts) ≡ false
