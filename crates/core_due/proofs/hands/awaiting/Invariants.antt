use Rattle.std.proofs.Common.{◌≡◌, false, []}
use Rattle.std.specs.List.{list_any}
use Rattle.query_router.specs.Desk.{waits_for}
use Rattle.core_due.specs.{Due.any_below, Look.{cell_at, setting_by}}
use Rattle.core_steps.specs.volap_cell.specs.{Cells.desk_in, Setting.desk_cell}
use Rattle.core_due.proofs.hands.awaiting.Given as goal

abbrev pub invariant-loop-server : goal.invariant-loop-server
invariant-loop-server l = any_below l.server (λ server. list_any (waits_for l.worker) (desk_in (cell_at l.cells (desk_cell (setting_by [] l.with) server))).parts) ≡ false
