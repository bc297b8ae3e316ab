-- What the calls did that end a split is what the kind does.
use Rattle.std.proofs.{Common.{◌≡◌, ℕ, ◌+◌, ◌^◌, ◌<◌, List, [], ◌∷◌, ◌++◌, Option, Some, drop, refl, sym, ap, ◌∙◌, subst}, lemmas.List.append_assoc}
use Rattle.std.specs.FinMap as map
use Rattle.std.specs.{Option.option_map_or, Ordering.nat_cmp}
use Rattle.cell_stock.specs.{Stock.StockValue, declared.purse.Spare.Spare}
use Rattle.dim_hierarchy.specs.Dimension.{Dimension}
use Rattle.mapping_table.specs.declared.place.Where.{Where}
use Rattle.mapping_table.specs.declared.place.Where.TheVariants as where_is
use Rattle.row_ledger.specs.LedgerValue.{LedgerValue}
use Rattle.row_ledger.specs.declared.event.Event.TheVariants as event
use Rattle.server_image.specs.Registry.{RegistryValue, IsSplit}
use Rattle.core_tree.specs.shard_store.specs.declared.gate.Gate.{Gate}
use Rattle.core_tree.specs.tree_shape.specs.Laws.{CollectEndLaw, GateLaw, OtherLaw}
use Rattle.core_tree.specs.volap_cell.specs.{AdminKinds.{DoesFinishSplit, IsGateFor, IsTrueBox, left_of}, Cells.{CellValue, GateCell, LedgerCell, MapCell, MapOf, RegistryCell, StockCell, stock_in, tag_of}, Steps.{IsHere, Makes}, Values.{ActorValue, BuildingValue, JobValue}, Working.IsJobOf, World.{change, held}, declared.command.Command.Command, declared.command.Work.Work}
use Rattle.core_tree.specs.volap_cell.specs.declared.command.Work.TheVariants as work_is
use Rattle.core_tree.specs.volap_cell.specs.declared.kind.Kind.TheVariants as kind
use Rattle.core_tree.proofs.Calls.Behind.{last-same}
use Rattle.core_admin.specs.{FinishDue.{ClosesDone, IsLate, plans}, SplitDue.{CanFinishSplit, DividesShard, FinishesDivided, with_children}}
use Rattle.core_admin.proofs.{Building.BuiltUp.its-job, Moving.MoveMade.{finishes-as, same-building}, Splitting.FinishesSplit.split-keeps, Splitting.SplitReady.{late-here, to-none}}

-- lists with the same end have the same last two
last-two : (xs ys : List Spare) (x1 x2 y1 y2 : Spare) → xs ++ x1 ∷ x2 ∷ [] ≡ ys ++ y1 ∷ y2 ∷ [] → (x1 ≡ y1) × (x2 ≡ y2)
last-two xs ys x1 x2 y1 y2 is =
    let whole = last-same (xs ++ x1 ∷ []) (ys ++ y1 ∷ []) x2 y2 (append_assoc xs (x1 ∷ []) (x2 ∷ []) ∙ is ∙ sym (append_assoc ys (y1 ∷ []) (y2 ∷ []))) in
    ((last-same xs ys x1 y1 whole.0).1, whole.1)

module _ (other : OtherLaw) (ends : CollectEndLaw) (gates : GateLaw) (hs : List Dimension) (table_at : ℕ) (table : CellValue) (gate_at left_at right_at registry_at stock_at ledger_at : ℕ) (gate left right registry stock ledger : CellValue) (a : ActorValue)
    (here : IsHere hs (held table_at table ∷ held gate_at gate ∷ held left_at left ∷ held right_at right ∷ held registry_at registry ∷ held stock_at stock ∷ held ledger_at ledger ∷ []) a) (due : CanFinishSplit table gate_at left_at right_at registry stock ledger a)
    (tw : ℕ) (ft ft2 : map.FinMap nat_cmp Where) (table_is : table ≡ MapCell tw ft) (x x2 left_made right_made : Gate) (x_is : gate ≡ GateCell x) (left2 : CellValue) (left_is : left2 ≡ GateCell left_made) (right2 : CellValue) (right_is : right2 ≡ GateCell right_made)
    (r r2 : RegistryValue) (r_is : registry ≡ RegistryCell r) (sv sv2 : StockValue) (sv_is : stock ≡ StockCell sv) (lv lv2 : LedgerValue) (lv_is : ledger ≡ LedgerCell lv)
    (j : JobValue) (j_is : a.job ≡ Some j) (b : ActorValue) (way : DividesShard hs left_at right_at ft ft2 x r r2 sv.ids j left_made right_made) (did : FinishesDivided hs gate_at x x2 sv sv2 lv lv2 a b) (few : sv.ids + 2 < 2 ^ 32) where
  j-same : j ≡ did.job
  j-same = (let both : ◌≡◌ {A = Option JobValue} (Some j) (Some did.job) = sym j_is ∙ did.has.is_job in cc)

  did-same : did.job ≡ due.up.job
  did-same = (let both : ◌≡◌ {A = Option JobValue} (Some did.job) (Some due.up.job) = sym did.has.is_job ∙ due.up.has.is_job in cc)

  building-same : did.building ≡ due.up.building
  building-same = same-building did.building due.up.building (sym did.has.stage_is ∙ ap (λ (k : JobValue). k.stage) did-same ∙ due.up.has.stage_is)

  way-building : way.building ≡ did.building
  way-building = same-building way.building did.building (sym way.stage_is ∙ ap (λ (k : JobValue). k.stage) j-same ∙ did.has.stage_is)

  work-same : did.work ≡ due.up.work
  work-same = ap (λ (o : Option Command). option_map_or (λ (k : Command). k.work) o work_is.Query) (sym did.command ∙ due.up.command)

  its-worker : tw ≡ did.job.worker
  its-worker = (let both : MapOf tw ≡ MapOf due.up.job.worker = ap tag_of (sym table_is) ∙ due.table_is in let same : tw ≡ due.up.job.worker = cc in same ∙ ap (λ (k : JobValue). k.worker) (sym did-same))

  asks : IsJobOf did.work did.job
  asks = subst (λ (k : Work). IsJobOf k did.job) (sym work-same)
      (subst (IsJobOf due.up.work) (sym did-same) (its-job hs (held table_at table ∷ []) (held left_at left ∷ held right_at right ∷ []) gate_at registry_at stock_at ledger_at gate registry stock ledger a here due.up))

  closed : ClosesDone (plans did.work) did.job.shard did.job.to a.command b.command b.job
  closed =
      let none = ap (λ (k : JobValue). k.to) did-same ∙ to-none hs table_at table gate_at left_at right_at registry_at stock_at ledger_at gate left right registry stock ledger a here due in
      subst (λ (t : Option ℕ). ClosesDone (plans did.work) did.job.shard t a.command b.command b.job) (sym none) did.closed

  late : IsLate hs x
  late = late-here hs table_at table gate_at left_at right_at registry_at stock_at ledger_at gate left right registry stock ledger a here due x x_is

  last-spares : (due.right_spare ≡ did.gives.right) × (due.left_spare ≡ did.gives.left)
  last-spares = last-two due.rest did.gives.rest due.right_spare due.left_spare did.gives.right did.gives.left (sym due.spares ∙ did.gives.is)

  leads-now : ft2 ≡ with_children (map.insert ft did.job.shard (where_is.Split way.plane sv.ids (sv.ids + 1))) sv.ids left_at right_at
  leads-now = way.enters.leads ∙ ap (λ (k : JobValue). with_children (map.insert ft k.shard (where_is.Split way.plane sv.ids (sv.ids + 1))) sv.ids left_at right_at) j-same

  does : DoesFinishSplit hs (change table_at table (MapCell tw ft2)) (change gate_at gate (GateCell x2)) (change left_at left left2) (change right_at right right2) (change registry_at registry (RegistryCell r2)) (change stock_at stock (StockCell sv2)) (change ledger_at ledger (LedgerCell lv2)) a b
  does = record {
    of = did.of;
    work = did.work;
    command = did.command;
    job = did.job;
    building = did.building;
    has = did.has;
    in_cells = ap (λ (k : BuildingValue). k.unbuilt) building-same ∙ due.up.in_cells;
    plane = way.plane;
    divided = ap (λ (k : BuildingValue). k.frozen.plane) (sym way-building) ∙ way.divided;
    right_tree = way.right_tree;
    right_is = ap (λ (k : BuildingValue). k.right) (sym way-building) ∙ way.right_is;
    here = ap (λ (k : BuildingValue). k.frozen.gate) building-same ∙ due.up.here;
    gate = x;
    gate_now = x2;
    upto = late.upto;
    frozen = late.frozen;
    retires = did.retires;
    turns = record { was = x_is; is = refl };
    rest = did.gives.rest;
    left_spare = did.gives.left;
    right_spare = did.gives.right;
    spares = did.gives.is;
    left_cell = due.left_cell ∙ ap (λ (k : Spare). k.cell) last-spares.1;
    right_cell = due.right_cell ∙ ap (λ (k : Spare). k.cell) last-spares.0;
    stock = sv;
    stock_now = sv2;
    left_gate = left_made;
    right_gate = right_made;
    left_is = subst (λ (k : BuildingValue). IsGateFor hs sv.ids k.left (left_of hs way.plane (drop late.upto x.queue.rows)) left_made) way-building (way.left_gate late.upto late.frozen);
    left_now = left_is;
    right_gate_is = way.right_gate late.upto late.frozen;
    right_now = right_is;
    table = ft;
    map_was = table_is ∙ (λ k. MapCell (its-worker k) ft);
    map_is = λ k. MapCell (its-worker k) (leads-now k);
    registry = r;
    registry_now = r2;
    left_box = way.left_box;
    right_box = way.right_box;
    left_true = subst (λ (k : BuildingValue). IsTrueBox hs k.left.set left_made.queue.rows way.left_box) way-building way.left_true;
    right_true = way.right_true;
    split = subst (λ (k : JobValue). IsSplit k.shard sv.ids way.left_box (sv.ids + 1) way.right_box r r2) j-same way.enters.split;
    registry_was = r_is;
    registry_is = refl;
    given = did.gives.given;
    purse = did.gives.purse;
    purse_now = did.gives.purse_now;
    purse_was = did.gives.purse_is;
    gives = did.gives.gives;
    ids = did.gives.ids;
    turns_stock = record { was = sv_is; is = refl };
    finishes = finishes-as gate_at did.of did.work did.job (event.Split did.of did.job.shard sv.ids (sv.ids + 1)) (change ledger_at ledger (LedgerCell lv2)) a b lv lv2 lv_is refl did.command did.noted closed did.seen did.actor_is did.work refl asks;
  }

  pub split-makes : Makes hs kind.FinishSplit
      (change table_at table (MapCell tw ft2) ∷ change gate_at gate (GateCell x2) ∷ change left_at left left2 ∷ change right_at right right2 ∷ change registry_at registry (RegistryCell r2) ∷ change stock_at stock (StockCell sv2)
      ∷ change ledger_at ledger (LedgerCell lv2) ∷ []) a b
  split-makes = record { does = does; keeps = split-keeps other ends gates hs _ _ _ _ _ _ _ a b does (subst (λ (c : CellValue). (stock_in c).ids + 2 < 2 ^ 32) (sym sv_is) few) }
