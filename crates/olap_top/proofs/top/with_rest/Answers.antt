use Rattle.std.proofs.Common.{◌≡◌, ◌∙◌, List, [], ◌∷◌, Option, Some, None, get_or, set, refl, ap, sym, subst}
use Rattle.core_laws.specs.volap_cell.specs.{Cells.{FreeCell, LedgerCell, cell_of}, Filling.cell_or, Setting.ledger_cell, World.{change, put}, declared.cell.Cell.Cell}
use Rattle.core_laws.specs.volap_cell.specs.declared.cell.Cell.TheVariants as cell
use Rattle.seeded_run.specs.Phase.{held}
use Rattle.olap_top.proofs.Handing.{cell-freed, cells-back, whole-left}
use Rattle.olap_top.proofs.top.with_rest.Goals as goal

pub returns-clause-rest : goal.returns-clause-rest
returns-clause-rest c = λ h with core.
    let xs = c.args.state.cells.items in
    let at = c.lift_one-cell.ensures.value.0 in
    let emptied : c.put_one.new.cells.items ≡ set (set xs 0 None) 0 (Some cell.Free) = c.put_one.ensures.value ∙ ap (λ l. set l 0 (Some cell.Free)) c.lift_one-cell.ensures.rest in
    let ledger : cell_of c.lift_one-cell.result ≡ LedgerCell c.into_inner.result = ap cell_of c.in-Ledger.is ∙ ap LedgerCell (sym c.into_inner.ensures) in
    record {
      rest = record { cells = c.put_one.new.cells; actors = c.args.state.actors };
      left = refl;
      about_is = refl;
      whole = whole-left h with c.args.state core (record { cells = c.put_one.new.cells; actors = c.args.state.actors }) emptied refl;
      freed = subst (λ (l : List (Option Cell)). get_or l 0 None ≡ Some cell.Free) (sym emptied) (cell-freed xs c.lift_one-cell.result at);
      same = (λ k. record {
        cells = λ y. subst (λ (l : List (Option Cell)). put (change ledger_cell FreeCell (LedgerCell c.into_inner.result) ∷ []) (λ z. cell_or (get_or l z None)) y ≡ cell_or (get_or xs y None)) (sym emptied) (cells-back xs c.lift_one-cell.result c.into_inner.result at ledger y) k;
        actors = (held h with c.args.state).actors;
      });
    }
