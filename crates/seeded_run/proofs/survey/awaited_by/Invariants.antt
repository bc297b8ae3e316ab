use Rattle.std.proofs.Common.{◌≡◌, ◌<◌, ℕ, [], false, get_or}
use Rattle.std.specs.List.{list_any}
use Rattle.query_router.specs.Desk.{waits_for}
use Rattle.core_due.specs.{Due.any_below, Look.{cell_at, setting_by}}
use Rattle.seeded_run.specs.Survey.{AllAwaited}
use Rattle.core_pages.specs.volap_cell.specs.{Cells.desk_in, Setting.desk_cell}
use Rattle.seeded_run.proofs.survey.awaited_by.Given as goal

abbrev pub invariant-loop-server : goal.invariant-loop-server
invariant-loop-server l = ((w : ℕ) → w < l.with.workers
    → get_or l.awaited w false ≡ any_below l.server (λ server. list_any (waits_for w) (desk_in (cell_at l.cells (desk_cell (setting_by [] l.with) server))).parts))
    × AllAwaited l.awaited l.known
