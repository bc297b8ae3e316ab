-- What the calls did that end a move is what the kind does.
use Rattle.std.proofs.Common.{◌≡◌, ℕ, List, [], ◌∷◌, ◌++◌, Bool, true, false, length, Option, Some, refl, sym, ap, ◌∙◌, subst, arith}
use Rattle.std.specs.{Option.option_map_or, Ordering.nat_cmp, Prelude.IsSome}
use Rattle.std.specs.FinMap as map
use Rattle.cell_stock.specs.{Stock.StockValue, declared.purse.Spare.Spare}
use Rattle.dim_hierarchy.specs.Dimension.{Dimension}
use Rattle.mapping_table.specs.declared.place.Where.{Where}
use Rattle.mapping_table.specs.declared.place.Where.TheVariants as where_is
use Rattle.row_ledger.specs.{LedgerValue.LedgerValue, declared.event.Event.Event, declared.event.Event.TheVariants.Moved}
use Rattle.server_image.specs.Registry.{RegistryValue}
use Rattle.core_tree.specs.shard_store.specs.declared.gate.Gate.{Gate}
use Rattle.core_tree.specs.tree_shape.specs.Laws.{CollectEndLaw, OtherLaw}
use Rattle.core_tree.specs.volap_cell.specs.{AdminKinds.{DoesFinishMove, Finishes, MovesIn}, Cells.{CellValue, GateCell, LedgerCell, MapCell, MapOf, RegistryCell, StockCell, tag_of}, ImageKinds.doing, Steps.{IsHere, Keeps, Makes}, Values.{ActorValue, BuildingValue, Builds, JobValue}, Working.IsJobOf, World.{Agrees, Change, change, held}, declared.command.Command.Command, declared.command.Work.Work}
use Rattle.core_tree.specs.volap_cell.specs.declared.command.Work.TheVariants as work_is
use Rattle.core_tree.specs.volap_cell.specs.declared.kind.Kind.TheVariants as kind
use Rattle.core_tree.proofs.Calls.Behind.{last-same}
use Rattle.core_admin.specs.FinishDue.{CanFinishHere, CanFinishMove, ClosesDone, FinishesFor, IsMovedUp, IsNextGate, MakesWay, MakesWayHere, MayMakeWay, NotesDone, plans}
use Rattle.core_admin.proofs.{Building.BuiltUp.{is-late, its-job, known}, Moving.FinishReady.moves-of, Moving.FinishesMove.{finish-move, one-table-kept, two-tables-kept}}

-- A command that is noted and closed has finished its job.
module _ (gate of : ℕ) (its_work : Work) (job : JobValue) (e : Event) (led : Change) (a b : ActorValue) (lv lv2 : LedgerValue) (was : led.before ≡ LedgerCell lv) (is : led.now ≡ LedgerCell lv2) (command : a.command ≡ doing of its_work)
    (noted : NotesDone (plans its_work) of e lv lv2) (closed : ClosesDone (plans its_work) job.shard job.to a.command b.command b.job) (seen : b.seen ≡ length lv2.history) (actor_is : b ≡ record a { purse = []; seen = b.seen; command = b.command; job = b.job; gone_gates = a.gone_gates ++ gate ∷ [] }) where
  pub finishes-as : (work : Work) → its_work ≡ work → IsJobOf work job → Finishes gate of work job e led a b
  finishes-as (work_is.Balance balance) same asks =
      let planned : plans its_work ≡ true = ap plans same in
      let did : NotesDone true of e lv lv2 = subst (λ (x : Bool). NotesDone x of e lv lv2) planned noted in
      let on : ClosesDone true job.shard job.to a.command b.command b.job = subst (λ (x : Bool). ClosesDone x job.shard job.to a.command b.command b.job) planned closed in
      let next = on of balance (command ∙ ap (doing of) same) in
      let promised = did.promised in (
        record { ledger = lv; ledger_now = lv2; was = was; is = is; history = did.history; promised = omega (arith, promised); all_seen = seen },
        actor_is ∙ (λ k. record a { purse = []; seen = b.seen; command = next.0 k; job = next.1 k; gone_gates = a.gone_gates ++ gate ∷ [] }),
      )
  finishes-as (work_is.Action act) same asks =
      let planned : plans its_work ≡ false = ap plans same in
      let did : NotesDone false of e lv lv2 = subst (λ (x : Bool). NotesDone x of e lv lv2) planned noted in
      let over : ClosesDone false job.shard job.to a.command b.command b.job = subst (λ (x : Bool). ClosesDone x job.shard job.to a.command b.command b.job) planned closed in
      let promised = did.promised in (
        record { ledger = lv; ledger_now = lv2; was = was; is = is; history = did.history; promised = omega (arith, promised); all_seen = seen },
        actor_is ∙ (λ k. record a { purse = []; seen = b.seen; command = over.0 k; job = over.1 k; gone_gates = a.gone_gates ++ gate ∷ [] }),
      )
  finishes-as (work_is.Insert row routed) same asks = absurd asks
  finishes-as work_is.Query same asks = absurd asks
  finishes-as (work_is.Sync server pulled) same asks = absurd asks
  finishes-as work_is.Bare same asks = absurd asks
  finishes-as (work_is.Settle pulls) same asks = absurd asks
  finishes-as (work_is.Page subject there shown) same asks = absurd asks

pub same-building : (x y : BuildingValue) → Builds x ≡ Builds y → x ≡ y
same-building x y is = cc

-- The tables that are held are known by what they lead to.
module _ (hs : List Dimension) (maps maps_now : List Change) (gate_at new_at registry_at stock_at ledger_at : ℕ) (gate new registry stock ledger : CellValue) (a : ActorValue)
    (here : IsHere hs (maps ++ held gate_at gate ∷ held new_at new ∷ held registry_at registry ∷ held stock_at stock ∷ held ledger_at ledger ∷ []) a) (due : IsMovedUp gate_at new_at registry stock ledger a)
    (x x2 made : Gate) (x_is : gate ≡ GateCell x) (new2 : CellValue) (new_is : new2 ≡ GateCell made) (r r2 : RegistryValue) (r_is : registry ≡ RegistryCell r) (sv sv2 : StockValue) (sv_is : stock ≡ StockCell sv) (lv lv2 : LedgerValue) (lv_is : ledger ≡ LedgerCell lv)
    (b : ActorValue) (did : FinishesFor hs gate_at x x2 r r2 sv sv2 lv lv2 a b) where
  pub job-same : (j : JobValue) → a.job ≡ Some j → j ≡ due.up.job
  job-same j has = (let both : ◌≡◌ {A = Option JobValue} (Some j) (Some due.up.job) = sym has ∙ due.up.has.is_job in cc)

  its : did.job ≡ due.up.job
  its = job-same did.job did.has.is_job

  pub worker-same : did.worker ≡ due.worker
  worker-same = (let both : ◌≡◌ {A = Option ℕ} (Some did.worker) (Some due.worker) = sym did.to_is ∙ ap (λ (j : JobValue). j.to) its ∙ due.to_is in cc)

  building-same : did.building ≡ due.up.building
  building-same = same-building did.building due.up.building (sym did.has.stage_is ∙ ap (λ (j : JobValue). j.stage) its ∙ due.up.has.stage_is)

  work-same : did.work ≡ due.up.work
  work-same = ap (λ (o : Option Command). option_map_or (λ (k : Command). k.work) o work_is.Query) (sym did.command ∙ due.up.command)

  abbrev led : Change
  led = change ledger_at ledger (LedgerCell lv2)

  pub does-move : ((j : JobValue) → j ≡ due.up.job → IsNextGate hs x j made) → MovesIn maps_now did.job did.worker new_at
      → DoesFinishMove hs maps_now (change gate_at gate (GateCell x2)) (change new_at new new2) (change registry_at registry (RegistryCell r2)) (change stock_at stock (StockCell sv2)) led a b
  does-move next moves =
      let late = is-late hs maps (held new_at new ∷ []) gate_at registry_at stock_at ledger_at gate registry stock ledger a here due.up x x_is in record {
        of = did.of;
        work = did.work;
        command = did.command;
        job = did.job;
        to = did.worker;
        to_is = did.to_is;
        building = did.building;
        has = did.has;
        in_cells = ap (λ (k : BuildingValue). k.unbuilt) building-same ∙ due.up.in_cells;
        here = ap (λ (k : BuildingValue). k.frozen.gate) building-same ∙ due.up.here;
        gate = x;
        gate_now = x2;
        upto = late.upto;
        frozen = late.frozen;
        retires = did.retires;
        turns = record { was = x_is; is = refl };
        rest = did.gives.rest;
        spare = did.gives.spare;
        spares = did.gives.is;
        cell = due.cell ∙ ap (λ (k : Spare). k.cell) (last-same due.rest did.gives.rest due.spare did.gives.spare (sym due.spares ∙ did.gives.is)).1;
        new_gate = made;
        new_is = next did.job its did.building late.upto did.has.stage_is late.frozen;
        new_now = new_is;
        moves = moves;
        registry = r;
        registry_now = r2;
        rehosted = did.rehosted;
        registry_was = r_is;
        registry_is = refl;
        stock = sv;
        stock_now = sv2;
        purse = did.gives.purse;
        purse_now = did.gives.purse_now;
        purse_was = did.gives.purse_is;
        gives = did.gives.gives;
        turns_stock = record { was = sv_is; is = refl };
        finishes = finishes-as gate_at did.of did.work did.job (Moved did.of did.job.shard did.worker) led a b lv lv2 lv_is refl did.command did.noted did.closed did.seen did.actor_is did.work refl
            (subst (λ (k : Work). IsJobOf k did.job) (sym work-same) (subst (IsJobOf due.up.work) (sym its) (its-job hs maps (held new_at new ∷ []) gate_at registry_at stock_at ledger_at gate registry stock ledger a here due.up)));
      }

-- What the tables are asked for.
module _ (hs : List Dimension) (from_at : ℕ) (from : CellValue) (to_at : ℕ) (to : CellValue) (gate_at new_at registry_at stock_at ledger_at : ℕ) (gate new registry stock ledger : CellValue) (a : ActorValue)
    (here : IsHere hs (held from_at from ∷ held to_at to ∷ held gate_at gate ∷ held new_at new ∷ held registry_at registry ∷ held stock_at stock ∷ held ledger_at ledger ∷ []) a) (due : CanFinishMove from to gate_at new_at registry stock ledger a) where
  pub may-make-way : (fw : ℕ) (ft : map.FinMap nat_cmp Where) → from ≡ MapCell fw ft → (x : Gate) → gate ≡ GateCell x → (j : JobValue) → a.job ≡ Some j → MayMakeWay hs ft x j
  may-make-way fw ft from_is x x_is j j_is =
      let before = held from_at from ∷ held to_at to ∷ [] in
      let same : due.moved.up.job ≡ j = (let both : ◌≡◌ {A = Option JobValue} (Some due.moved.up.job) (Some j) = sym due.moved.up.has.is_job ∙ j_is in cc) in
      record {
        moves = moves-of hs before gate_at new_at registry_at stock_at ledger_at gate new registry stock ledger a here due.moved j j_is;
        gate_is = is-late hs before (held new_at new ∷ []) gate_at registry_at stock_at ledger_at gate registry stock ledger a here due.moved.up x x_is;
        known = subst (λ (k : JobValue). IsSome (map.get ft k.shard)) same (known hs before (held new_at new ∷ []) gate_at registry_at stock_at ledger_at gate registry stock ledger a here due.moved.up from_at from here.agrees.cells.0 due.from_is fw ft from_is);
      }

-- That keeps what a kind must keep.

two-keep : OtherLaw → CollectEndLaw → (h : List Dimension) (m k x gc reg c led : Change) (a b : ActorValue) (d : DoesFinishMove h (m ∷ k ∷ []) x gc reg c led a b) → Keeps h kind.FinishMove (m ∷ k ∷ x ∷ gc ∷ reg ∷ c ∷ led ∷ []) a b d
two-keep other ends h m k x gc reg c led a b d s w n g about i ag sight =
    let own : Agrees w (m ∷ k ∷ x ∷ gc ∷ reg ∷ c ∷ led ∷ []) n (w.actors n) = record { cells = ag.cells; actor_is = refl; free = λ y ne. ag.free y ne } in
    let its : DoesFinishMove s.hierarchy (m ∷ k ∷ []) x gc reg c led (w.actors n) b =
    subst (λ (z : List Dimension). DoesFinishMove z (m ∷ k ∷ []) x gc reg c led (w.actors n) b) (sym about) (subst (λ (z : ActorValue). DoesFinishMove h (m ∷ k ∷ []) x gc reg c led z b) (sym ag.actor_is) d) in
    two-tables-kept x gc reg c led b s w n g i m k own its (finish-move (m ∷ k ∷ []) x gc reg c led b s w n g i own its ends other)

one-keeps : OtherLaw → CollectEndLaw → (h : List Dimension) (m x gc reg c led : Change) (a b : ActorValue) (d : DoesFinishMove h (m ∷ []) x gc reg c led a b) → Keeps h kind.FinishMove (m ∷ x ∷ gc ∷ reg ∷ c ∷ led ∷ []) a b d
one-keeps other ends h m x gc reg c led a b d s w n g about i ag sight =
    let own : Agrees w (m ∷ x ∷ gc ∷ reg ∷ c ∷ led ∷ []) n (w.actors n) = record { cells = ag.cells; actor_is = refl; free = λ y ne. ag.free y ne } in
    let its : DoesFinishMove s.hierarchy (m ∷ []) x gc reg c led (w.actors n) b =
    subst (λ (z : List Dimension). DoesFinishMove z (m ∷ []) x gc reg c led (w.actors n) b) (sym about) (subst (λ (z : ActorValue). DoesFinishMove h (m ∷ []) x gc reg c led z b) (sym ag.actor_is) d) in
    one-table-kept x gc reg c led b s w n g i m own its (finish-move (m ∷ []) x gc reg c led b s w n g i own its ends other)

-- To another worker.
module _ (other : OtherLaw) (ends : CollectEndLaw) (hs : List Dimension) (from_at : ℕ) (from : CellValue) (to_at : ℕ) (to : CellValue) (gate_at new_at registry_at stock_at ledger_at : ℕ) (gate new registry stock ledger : CellValue) (a : ActorValue)
    (here : IsHere hs (held from_at from ∷ held to_at to ∷ held gate_at gate ∷ held new_at new ∷ held registry_at registry ∷ held stock_at stock ∷ held ledger_at ledger ∷ []) a) (due : CanFinishMove from to gate_at new_at registry stock ledger a)
    (fw tw : ℕ) (ft ft2 tt_ tt2 : map.FinMap nat_cmp Where) (from_is : from ≡ MapCell fw ft) (to_is : to ≡ MapCell tw tt_)
    (x x2 made : Gate) (x_is : gate ≡ GateCell x) (new2 : CellValue) (new_is : new2 ≡ GateCell made) (r r2 : RegistryValue) (r_is : registry ≡ RegistryCell r) (sv sv2 : StockValue) (sv_is : stock ≡ StockCell sv) (lv lv2 : LedgerValue) (lv_is : ledger ≡ LedgerCell lv)
    (j : JobValue) (j_is : a.job ≡ Some j) (b : ActorValue) (way : MakesWay hs new_at ft ft2 tt_ tt2 x j made) (did : FinishesFor hs gate_at x x2 r r2 sv sv2 lv lv2 a b) where
  abbrev maps : List Change
  maps = held from_at from ∷ held to_at to ∷ []

  abbrev maps_now : List Change
  maps_now = change from_at from (MapCell fw ft2) ∷ change to_at to (MapCell tw tt2) ∷ []

  j-same : j ≡ due.moved.up.job
  j-same = job-same hs maps maps_now gate_at new_at registry_at stock_at ledger_at gate new registry stock ledger a here due.moved x x2 made x_is new2 new_is r r2 r_is sv sv2 sv_is lv lv2 lv_is b did j j_is

  did-same : did.job ≡ due.moved.up.job
  did-same = job-same hs maps maps_now gate_at new_at registry_at stock_at ledger_at gate new registry stock ledger a here due.moved x x2 made x_is new2 new_is r r2 r_is sv sv2 sv_is lv lv2 lv_is b did did.job did.has.is_job

  to-same : did.worker ≡ due.moved.worker
  to-same = worker-same hs maps maps_now gate_at new_at registry_at stock_at ledger_at gate new registry stock ledger a here due.moved x x2 made x_is new2 new_is r r2 r_is sv sv2 sv_is lv lv2 lv_is b did

  from-worker : fw ≡ did.job.worker
  from-worker = (let both : MapOf fw ≡ MapOf due.moved.up.job.worker = ap tag_of (sym from_is) ∙ due.from_is in let same : fw ≡ due.moved.up.job.worker = cc in same ∙ ap (λ (k : JobValue). k.worker) (sym did-same))

  to-worker : tw ≡ did.worker
  to-worker = (let both : MapOf tw ≡ MapOf due.moved.worker = ap tag_of (sym to_is) ∙ due.to_is in let same : tw ≡ due.moved.worker = cc in same ∙ sym to-same)

  -- the job that the tables were turned for
  turned : j ≡ did.job
  turned = j-same ∙ sym did-same

  moves : MovesIn maps_now did.job did.worker new_at
  moves = (
    λ e. due.elsewhere (sym to-same ∙ e ∙ ap (λ (k : JobValue). k.worker) did-same),
    (ft, from_is ∙ (λ k. MapCell (from-worker k) ft), (let now = subst (λ (k : JobValue). (worker : ℕ) → k.to ≡ Some worker → ft2 ≡ map.insert ft k.shard (where_is.Moved worker)) turned way.leads_on did.worker did.to_is in λ k. MapCell (from-worker k) (now k))),
    (tt_, to_is ∙ (λ k. MapCell (to-worker k) tt_), (let now = subst (λ (k : JobValue). tt2 ≡ map.insert tt_ k.shard (where_is.Gate new_at)) turned way.leads in λ k. MapCell (to-worker k) (now k))),
  )

  pub move-makes : Makes hs kind.FinishMove
      (change from_at from (MapCell fw ft2) ∷ change to_at to (MapCell tw tt2) ∷ change gate_at gate (GateCell x2) ∷ change new_at new new2 ∷ change registry_at registry (RegistryCell r2) ∷ change stock_at stock (StockCell sv2)
      ∷ change ledger_at ledger (LedgerCell lv2) ∷ []) a b
  move-makes =
      let d = does-move hs maps maps_now gate_at new_at registry_at stock_at ledger_at gate new registry stock ledger a here due.moved x x2 made x_is new2 new_is r r2 r_is sv sv2 sv_is lv lv2 lv_is b did
      (λ k same. subst (λ (z : JobValue). IsNextGate hs x z made) (j-same ∙ sym same) way.next) moves in
      record { does = d; keeps = two-keep other ends hs _ _ _ _ _ _ _ a b d }

-- To the worker that has the shard.
module _ (other : OtherLaw) (ends : CollectEndLaw) (hs : List Dimension) (table_at : ℕ) (table : CellValue) (gate_at new_at registry_at stock_at ledger_at : ℕ) (gate new registry stock ledger : CellValue) (a : ActorValue)
    (here : IsHere hs (held table_at table ∷ held gate_at gate ∷ held new_at new ∷ held registry_at registry ∷ held stock_at stock ∷ held ledger_at ledger ∷ []) a) (due : CanFinishHere table gate_at new_at registry stock ledger a)
    (tw : ℕ) (tt_ tt2 : map.FinMap nat_cmp Where) (to_is : table ≡ MapCell tw tt_)
    (x x2 made : Gate) (x_is : gate ≡ GateCell x) (new2 : CellValue) (new_is : new2 ≡ GateCell made) (r r2 : RegistryValue) (r_is : registry ≡ RegistryCell r) (sv sv2 : StockValue) (sv_is : stock ≡ StockCell sv) (lv lv2 : LedgerValue) (lv_is : ledger ≡ LedgerCell lv)
    (j : JobValue) (j_is : a.job ≡ Some j) (b : ActorValue) (way : MakesWayHere hs new_at tt_ tt2 x j made) (did : FinishesFor hs gate_at x x2 r r2 sv sv2 lv lv2 a b) where
  abbrev table_was : List Change
  table_was = held table_at table ∷ []

  abbrev table_now : List Change
  table_now = change table_at table (MapCell tw tt2) ∷ []

  j-here : j ≡ due.moved.up.job
  j-here = job-same hs table_was table_now gate_at new_at registry_at stock_at ledger_at gate new registry stock ledger a here due.moved x x2 made x_is new2 new_is r r2 r_is sv sv2 sv_is lv lv2 lv_is b did j j_is

  did-here : did.job ≡ due.moved.up.job
  did-here = job-same hs table_was table_now gate_at new_at registry_at stock_at ledger_at gate new registry stock ledger a here due.moved x x2 made x_is new2 new_is r r2 r_is sv sv2 sv_is lv lv2 lv_is b did did.job did.has.is_job

  to-here : did.worker ≡ due.moved.worker
  to-here = worker-same hs table_was table_now gate_at new_at registry_at stock_at ledger_at gate new registry stock ledger a here due.moved x x2 made x_is new2 new_is r r2 r_is sv sv2 sv_is lv lv2 lv_is b did

  worker-here : tw ≡ did.worker
  worker-here = (let both : MapOf tw ≡ MapOf due.moved.worker = ap tag_of (sym to_is) ∙ due.table_is in let same : tw ≡ due.moved.worker = cc in same ∙ sym to-here)

  moves-here : MovesIn table_now did.job did.worker new_at
  moves-here = (
    to-here ∙ due.here ∙ ap (λ (k : JobValue). k.worker) (sym did-here),
    (tt_, to_is ∙ (λ k. MapCell (worker-here k) tt_), (let now = subst (λ (k : JobValue). tt2 ≡ map.insert tt_ k.shard (where_is.Gate new_at)) (j-here ∙ sym did-here) way.leads in λ k. MapCell (worker-here k) (now k))),
  )

  pub here-makes : Makes hs kind.FinishMove
      (change table_at table (MapCell tw tt2) ∷ change gate_at gate (GateCell x2) ∷ change new_at new new2 ∷ change registry_at registry (RegistryCell r2) ∷ change stock_at stock (StockCell sv2) ∷ change ledger_at ledger (LedgerCell lv2) ∷ []) a b
  here-makes =
      let d = does-move hs table_was table_now gate_at new_at registry_at stock_at ledger_at gate new registry stock ledger a here due.moved x x2 made x_is new2 new_is r r2 r_is sv sv2 sv_is lv lv2 lv_is b did
      (λ k same. subst (λ (z : JobValue). IsNextGate hs x z made) (j-here ∙ sym same) way.next) moves-here in
      record { does = d; keeps = one-keeps other ends hs _ _ _ _ _ _ a b d }
