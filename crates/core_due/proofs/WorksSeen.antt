-- What is due for an open command is a function of what one thread sees that holds all cells: of them, and of how many servers and workers
-- there are.
use Rattle.std.proofs.Common.{ℕ, ◌≡◌, ◌∙◌, Bool, [], List, refl, sym, ap}
use Rattle.core_due.specs.{Look.{cells_only, history_at, setting_by, world_by}, Ready.IsStateOf, Works.work_due}
use Rattle.core_due.proofs.InStates.{cells-seen, counted}
use Rattle.dim_hierarchy.specs.Dimension.{Dimension}
use Rattle.row_ledger.specs.{declared.event.Event.Event, declared.settings.Use.Use}
use Rattle.core_steps.specs.volap_cell.specs.{Cells.{CellValue, ledger_in}, Setting.{Setting, ledger_cell}, Steps.history_in, Values.ActorValue, World.World, declared.command.Work.Work, declared.state.State.State}

-- no more is read of a state
work-told : (s : Setting) (w : World) (history : List Event) (alone : Bool) (a : ActorValue) (of : ℕ) (work : Work)
    → work_due s w history alone a of work ≡ work_due (counted s.servers s.workers) (cells_only w.cells) history alone a of work
work-told s w history alone a of work = refl

-- So a thread sees what is due.

module _ (h : List Dimension) (with : Use) (state : State) (s : Setting) (w : World) (is : IsStateOf h with state s w) where
  pub work-seen : (alone : Bool) (a : ActorValue) (of : ℕ) (work : Work)
      → work_due (setting_by [] with) (world_by state.cells.items) (history_at state.cells.items) alone a of work ≡ work_due s w (history_in w) alone a of work
  work-seen alone a of work = sym (work-told s w (history_in w) alone a of work
      ∙ ap (λ (k : ℕ). work_due (counted k s.workers) (cells_only w.cells) (history_in w) alone a of work) is.servers
      ∙ ap (λ (k : ℕ). work_due (counted with.servers k) (cells_only w.cells) (history_in w) alone a of work) is.workers
      ∙ ap (λ (cells : ℕ → CellValue). work_due (counted with.servers with.workers) (cells_only cells) (ledger_in (cells ledger_cell)).history alone a of work) (cells-seen state.cells.items state.actors.items w is.is))
