use Rattle.std.proofs.Common.{ℕ, sym, ap, ◌∙◌}
use Rattle.std.specs.Prelude.{⊤}
use Rattle.core_due.proofs.{InStates.{cells-seen, may-make}, Released.reuse-told, ReusesPrepared.{none-gone, reuse-prepared}}
use Rattle.core_due.specs.{Look.cells_only, Reuses.reuse_due}
use Rattle.core_steps.specs.Reuses.{reuse_asks, reuse_places}
use Rattle.core_steps.specs.volap_cell.specs.Cells.{CellValue}
use Rattle.core_due.proofs.reuse_laws.cells_can_be_reused.Goals as goal

pub returns : goal.returns
returns c = record {
  prepared = λ s w n step inv due. reuse-prepared s w inv n step due;
  seen = λ h with state s w a of. sym (reuse-told w a ∙ ap (λ (f : ℕ → CellValue). reuse_due (cells_only f) a) (cells-seen state.cells.items state.actors.items w of.is));
  ready = λ h with state s w n step of due. may-make h with state s w of n (reuse_places step) (reuse_asks step) ⊤ (reuse-prepared s w of.inv n step due) tt;
  none = none-gone;
}
