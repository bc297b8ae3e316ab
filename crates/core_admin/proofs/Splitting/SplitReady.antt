-- What the calls that end a split ask of the cells, the actor and its command is so in each state.
use Rattle.std.proofs.{Common.{◌≡◌, ℕ, ◌+◌, ◌<◌, ◌≤◌, ◌^◌, List, [], ◌∷◌, ◌++◌, length, Option, Some, None, false, refl, sym, ap, ◌∙◌, subst, inl, inr, arith}, lemmas.List.length-append}
use Rattle.std.specs.FinMap as map
use Rattle.std.specs.Ordering.{nat_cmp}
use Rattle.cell_stock.specs.{Stock.{AreOut, StockValue}, declared.purse.Spare.Spare}
use Rattle.dim_hierarchy.specs.Dimension.{Dimension}
use Rattle.mapping_table.specs.declared.place.Where.{Where}
use Rattle.row_ledger.specs.LedgerValue.{LedgerValue}
use Rattle.server_image.specs.Registry.{RegistryValue, on_frontier}
use Rattle.core_tree.specs.shard_store.specs.declared.gate.Gate.{Gate}
use Rattle.list_words.specs.Counts.{Among}
use Rattle.list_words.proofs.Each.{among-right}
use Rattle.core_tree.specs.tree_shape.specs.Laws.{CollectEndLaw, GateLaw}
use Rattle.core_tree.specs.volap_cell.specs.{Cells.{CellValue, GateCell, LedgerCell, MapCell, RegistryCell, StockCell}, Ghost.{Ghost, InPurse}, Invariant.InvWith, Setting.Setting, Steps.IsHere, Values.{ActorValue, JobValue}, View.{View, view}, World.{Change, World, held}}
use Rattle.core_tree.specs.volap_cell.proofs.{Cells.Blanks.spare-owner, Cells.Spares.among-cells, Views.Shown.held-map}
use Rattle.core_admin.specs.{FinishDue.IsLate, SplitDue.{CanFinishSplit, MayDivideShard, MayFinishSplit, SplitsInto}}
use Rattle.core_admin.proofs.{Building.BuiltUp.{enough-promised, frozen-here, is-drained, is-late, is-listed, its-front, job-here, job-same, known, may-close, purse-here, rest-out, stock-here, there}, KnownIds.{next-nowhere, next-off}, Splitting.SplitSides.{left-valid, right-valid}}

module _ (hs : List Dimension) (table_at : ℕ) (table : CellValue) (gate_at left_at right_at registry_at stock_at ledger_at : ℕ) (gate left right registry stock ledger : CellValue) (a : ActorValue)
    (here : IsHere hs (held table_at table ∷ held gate_at gate ∷ held left_at left ∷ held right_at right ∷ held registry_at registry ∷ held stock_at stock ∷ held ledger_at ledger ∷ []) a) (due : CanFinishSplit table gate_at left_at right_at registry stock ledger a) where
  abbrev maps : List Change
  maps = held table_at table ∷ []

  abbrev spots : List Change
  spots = held left_at left ∷ held right_at right ∷ []

  abbrev s : Setting
  s = a.setting

  abbrev w : World
  w = here.world

  abbrev v : View
  v = view s w

  abbrev n : ℕ
  n = here.number

  abbrev g : Ghost
  g = here.inv.ghost_of

  abbrev i : InvWith s v g
  i = here.inv.holds

  purse-is : v.purses n ≡ due.rest ++ due.right_spare ∷ due.left_spare ∷ []
  purse-is = purse-here hs maps spots gate_at registry_at stock_at ledger_at gate registry stock ledger a here due.up ∙ due.spares

  own : g.owner left_at ≡ InPurse n
  own = ap g.owner due.left_cell ∙ spare-owner s w g i n due.left_spare.cell (among-cells due.left_spare (v.purses n) (subst (Among due.left_spare) (sym purse-is) (among-right due.rest (due.right_spare ∷ due.left_spare ∷ []) due.left_spare (inr (inl refl)))))

  pub to-none : due.up.job.to ≡ None
  to-none = by due.up.job.to refl
    where
      by : (o : Option ℕ) → due.up.job.to ≡ o → due.up.job.to ≡ None
      by None is = is
      by (Some to) is = (let no : None ≡ Some due.plane = sym ((frozen-here hs maps spots gate_at registry_at stock_at ledger_at gate registry stock ledger a here due.up).move to is) ∙ due.divided in absurd (cc))

  module _ (x : Gate) (is : gate ≡ GateCell x) where
    pub late-here : IsLate hs x
    late-here = is-late hs maps spots gate_at registry_at stock_at ledger_at gate registry stock ledger a here due.up x is

    splits-into : CollectEndLaw → GateLaw → SplitsInto hs due.up.job
    splits-into ends gates =
        let has = job-here hs maps spots gate_at registry_at stock_at ledger_at gate registry stock ledger a here due.up in
        let at = there hs maps spots gate_at registry_at stock_at ledger_at gate registry stock ledger a here due.up x is in
        let stage = due.up.has.stage_is in
        let full = due.up.in_cells in
        subst (λ (h : List Dimension). SplitsInto h due.up.job) here.about (record {
          building = due.up.building;
          stage_is = stage;
          plane = due.plane;
          divided = due.divided;
          right_tree = due.right_tree;
          right_is = due.right_is;
          is_plane = (frozen-here hs maps spots gate_at registry_at stock_at ledger_at gate registry stock ledger a here due.up).plane due.plane due.divided;
          left_valid = left-valid s w g i n due.up.job due.up.building has stage full x at late-here.upto late-here.frozen due.plane due.divided due.right_tree due.right_is ends gates left_at own;
          right_valid = right-valid s w g i n due.up.job due.up.building has stage full x at late-here.upto late-here.frozen due.plane due.divided due.right_tree due.right_is ends gates left_at own;
        })

    module _ (sv : StockValue) (sv_is : stock ≡ StockCell sv) where
      stock-is : v.stock ≡ sv
      stock-is = stock-here hs maps spots gate_at registry_at stock_at ledger_at gate registry stock ledger a here due.up sv sv_is

      -- the stock's next id is one
      pub ids-few : sv.ids < 2 ^ 32
      ids-few = subst (λ (k : StockValue). k.ids < 2 ^ 32) stock-is i.stocking.valid.ids

      nowhere : (tw : ℕ) (ft : map.FinMap nat_cmp Where) → table ≡ MapCell tw ft → (z : ℕ) → sv.ids ≤ z → map.get ft z ≡ None
      nowhere tw ft table_is z le =
          let held_table = held-map s w i.numbering.tag table_at tw ft (here.agrees.cells.0 ∙ table_is) in
          let same = ap (λ (k : StockValue). k.ids) stock-is in
          ap (λ (f : ℕ → Option Where). f z) (sym held_table.1) ∙ next-nowhere s v g i tw z (omega (arith, same, le))

      off : (r : RegistryValue) → registry ≡ RegistryCell r → (z : ℕ) → sv.ids ≤ z → on_frontier z r ≡ false
      off r r_is z le =
          let same = ap (λ (k : StockValue). k.ids) stock-is in
          next-off s v g i r (its-front hs maps spots gate_at registry_at stock_at ledger_at gate registry stock ledger a here due.up r r_is) z (omega (arith, same, le))

      pub may-divide : sv.ids + 2 < 2 ^ 32 → CollectEndLaw → GateLaw → (tw : ℕ) (ft : map.FinMap nat_cmp Where) → table ≡ MapCell tw ft → (r : RegistryValue) → registry ≡ RegistryCell r → (j : JobValue) → a.job ≡ Some j → MayDivideShard hs ft x r sv.ids j
      may-divide ids ends gates tw ft table_is r r_is j j_is =
          subst (MayDivideShard hs ft x r sv.ids) (job-same hs maps spots gate_at registry_at stock_at ledger_at gate registry stock ledger a here due.up j j_is) (record {
            into = splits-into ends gates;
            gate_is = late-here;
            enter = record {
              known = known hs maps spots gate_at registry_at stock_at ledger_at gate registry stock ledger a here due.up table_at table here.agrees.cells.0 due.table_is tw ft table_is;
              nowhere = record { few = omega arith; left = nowhere tw ft table_is sv.ids (omega arith); right = nowhere tw ft table_is (sv.ids + 1) (omega arith) };
              listed = is-listed hs maps spots gate_at registry_at stock_at ledger_at gate registry stock ledger a here due.up r r_is;
              left_new = off r r_is sv.ids (omega arith);
              right_new = off r r_is (sv.ids + 1) (omega arith);
            };
          })

      pub may-finish-split : sv.ids + 2 < 2 ^ 32 → (lv : LedgerValue) → ledger ≡ LedgerCell lv → MayFinishSplit x sv lv a
      may-finish-split ids lv lv_is = record {
        of = due.up.of;
        work = due.up.work;
        command = due.up.command;
        job = due.up.job;
        building = due.up.building;
        has = due.up.has;
        upto = late-here.upto;
        frozen = late-here.frozen;
        drained = is-drained hs maps spots gate_at registry_at stock_at ledger_at gate registry stock ledger a here due.up x is;
        spares = record {
          some = (let all = ap (λ (xs : List Spare). length xs) due.spares in let both = length-append due.rest (due.right_spare ∷ due.left_spare ∷ []) in omega (arith, all, both));
          out = λ others one two spares. subst (λ (z : StockValue). AreOut z others) stock-is
              (rest-out s v g i n others (two ∷ one ∷ []) (purse-here hs maps spots gate_at registry_at stock_at ledger_at gate registry stock ledger a here due.up ∙ spares));
          ids = ids;
        };
        promised = enough-promised hs maps spots gate_at registry_at stock_at ledger_at gate registry stock ledger a here due.up lv lv_is;
        close = may-close hs maps spots gate_at registry_at stock_at ledger_at gate registry stock ledger a here due.up due.up.work refl;
      }
