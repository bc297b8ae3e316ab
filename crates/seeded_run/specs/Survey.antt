-- What is looked up once a turn, for all actors that are asked in it.
use Rattle.std.specs.{List.list_any, Prelude.{ℕ, ◌≡◌, ◌%◌, ◌<◌, Bool, true, false, List, [], Option, None, get_or, length}}
use Rattle.query_router.specs.Desk.{waits_for}
use Rattle.row_ledger.specs.declared.settings.Use.{Use}
use Rattle.core_pages.specs.volap_cell.specs.{Cells.desk_in, Setting.desk_cell, declared.actor.Actor.Actor, declared.cell.Cell.Cell}
use Rattle.core_due.specs.{Due.any_below, Look.{cell_at, setting_by}}
use Rattle.seeded_run.specs.{Takes.carries_at, declared.survey.Survey.Survey}

-- so many workers a byte tells, and so many marks there are for blocks

abbrev pub worker_count : ℕ
worker_count = 256

abbrev pub mark_count : ℕ
mark_count = 256

abbrev pub mark_of : ℕ → ℕ
mark_of block = block % mark_count

-- a part on some desk waits for the worker
abbrev pub is_awaited : Use → List (Option Cell) → ℕ → Bool
is_awaited with cells worker = any_below with.servers (λ server. list_any (waits_for worker) (desk_in (cell_at cells (desk_cell (setting_by [] with) server))).parts)

-- by worker that there is: whether one does
abbrev pub KnowsAwaited : Use → List (Option Cell) → List Bool → Type 0
KnowsAwaited with cells awaited = (worker : ℕ) → worker < with.workers → get_or awaited worker false ≡ is_awaited with cells worker

-- parts are known to wait for each worker below this one
abbrev pub AllAwaited : List Bool → ℕ → Type 0
AllAwaited awaited known = (worker : ℕ) → worker < known → get_or awaited worker false ≡ true

-- a row is carried at no block whose mark isn't set
abbrev pub MarksCarried : List (Option Actor) → List Bool → Type 0
MarksCarried actors carried = (n block : ℕ) → n < length actors → carries_at (get_or actors n None) block ≡ true → get_or carried (mark_of block) false ≡ true

-- this is there to be seen
pub record IsSurvey (with : Use) (cells : List (Option Cell)) (actors : List (Option Actor)) (survey : Survey) : Type 0 where
  pub awaited : KnowsAwaited with cells survey.awaited
  pub carried : MarksCarried actors survey.carried
