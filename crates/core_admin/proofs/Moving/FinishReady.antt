-- What the calls that end a move ask of the cells, the actor and its command is so in each state.
use Rattle.std.proofs.{Common.{◌≡◌, ℕ, List, [], ◌∷◌, ◌++◌, length, Some, refl, ap, ◌∙◌, subst, arith}, lemmas.List.length-append}
use Rattle.cell_stock.specs.{Stock.{AreOut, StockValue}, declared.purse.Spare.Spare}
use Rattle.dim_hierarchy.specs.Dimension.{Dimension}
use Rattle.row_ledger.specs.LedgerValue.{LedgerValue}
use Rattle.server_image.specs.Registry.{RegistryValue}
use Rattle.core_tree.specs.shard_store.specs.declared.gate.Gate.{Gate}
use Rattle.core_tree.specs.volap_cell.specs.{Cells.{CellValue, GateCell, LedgerCell, RegistryCell, StockCell}, Steps.IsHere, Values.{ActorValue, JobValue}, View.view, World.{Change, held}}
use Rattle.core_admin.specs.FinishDue.{IsMovedUp, MayFinish, MovesTo}
use Rattle.core_admin.proofs.Building.BuiltUp.{enough-promised, is-drained, is-late, is-listed, job-same, may-close, purse-here, rest-out, stock-here}

module _ (hs : List Dimension) (maps : List Change) (gate_at new_at registry_at stock_at ledger_at : ℕ) (gate new registry stock ledger : CellValue) (a : ActorValue)
    (here : IsHere hs (maps ++ held gate_at gate ∷ held new_at new ∷ held registry_at registry ∷ held stock_at stock ∷ held ledger_at ledger ∷ []) a) (due : IsMovedUp gate_at new_at registry stock ledger a) where
  abbrev spot : List Change
  spot = held new_at new ∷ []

  pub moves-of : (j : JobValue) → a.job ≡ Some j → MovesTo j
  moves-of j has = subst MovesTo (job-same hs maps spot gate_at registry_at stock_at ledger_at gate registry stock ledger a here due.up j has)
      (record { building = due.up.building; stage_is = due.up.has.stage_is; worker = due.worker; to_is = due.to_is })

  pub may-finish : (x : Gate) → gate ≡ GateCell x → (r : RegistryValue) → registry ≡ RegistryCell r → (sv : StockValue) → stock ≡ StockCell sv → (lv : LedgerValue) → ledger ≡ LedgerCell lv → MayFinish x r sv lv a
  may-finish x is r r_is sv sv_is lv lv_is =
      let late = is-late hs maps spot gate_at registry_at stock_at ledger_at gate registry stock ledger a here due.up x is in record {
        of = due.up.of;
        work = due.up.work;
        command = due.up.command;
        job = due.up.job;
        is_job = due.up.has.is_job;
        moves = moves-of due.up.job due.up.has.is_job;
        upto = late.upto;
        frozen = late.frozen;
        drained = is-drained hs maps spot gate_at registry_at stock_at ledger_at gate registry stock ledger a here due.up x is;
        listed = is-listed hs maps spot gate_at registry_at stock_at ledger_at gate registry stock ledger a here due.up r r_is;
        spares = record {
          some = (let all = ap (λ (xs : List Spare). length xs) due.spares in let both = length-append due.rest (due.spare ∷ []) in omega (arith, all, both));
          out = λ others last spares. subst (λ (z : StockValue). AreOut z others) (stock-here hs maps spot gate_at registry_at stock_at ledger_at gate registry stock ledger a here due.up sv sv_is)
              (rest-out a.setting (view a.setting here.world) here.inv.ghost_of here.inv.holds here.number others (last ∷ []) (purse-here hs maps spot gate_at registry_at stock_at ledger_at gate registry stock ledger a here due.up ∙ spares));
        };
        promised = enough-promised hs maps spot gate_at registry_at stock_at ledger_at gate registry stock ledger a here due.up lv lv_is;
        close = may-close hs maps spot gate_at registry_at stock_at ledger_at gate registry stock ledger a here due.up due.up.work refl;
      }
