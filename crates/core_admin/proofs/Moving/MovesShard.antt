-- The cells that a move changes, as the view sees them.
use Rattle.std.proofs.{Common.{◌≡◌, ◌≢◌, ℕ, List, [], ◌∷◌, ◌++◌, map, Some, refl, sym, ap, ◌∙◌, inl, inr, eqb, Option, subst}, lemmas.Bool.{eqb-true, eqb-false}}
use Rattle.std.specs.{FinMap.FinMap, Ordering.nat_cmp}
use Rattle.mapping_table.specs.declared.place.Where.{Where}
use Rattle.cell_stock.specs.Stock.{StockValue}
use Rattle.row_ledger.specs.{LedgerValue.LedgerValue, declared.event.Event.TheVariants.Moved}
use Rattle.server_image.specs.Registry.{RegistryValue}
use Rattle.core_tree.specs.shard_store.specs.declared.gate.Gate.{Gate}
use Rattle.list_words.specs.Counts.{Each}
use Rattle.list_words.proofs.{Each.each-left, Truth.on_bool}
use Rattle.core_tree.specs.volap_cell.specs.{AdminKinds.{DoesFinishMove, MovesIn}, Cells.{CellValue, GateCell, LedgerCell, MapCell, MapOf, RegistryCell, StockCell, ledger_in, tag_of}, Ghost.Ghost, Invariant.InvWith, Setting.{Setting, ledger_cell}, Values.{ActorValue, JobValue}, View.{View, view}, World.{Agrees, Change, World, after}}
use Rattle.core_tree.specs.volap_cell.proofs.{Cells.Spares.move-blank, Views.Fields.IsNew, Views.Frames.{AreAt, AreApartCells}, Views.Touches.IsBlank}
use Rattle.std.specs.FinMap as map
use Rattle.mapping_table.specs.declared.place.Where.TheVariants as where_is
use Rattle.core_admin.proofs.EndedCells.{EndsCells, IsTable, at-x as at_x, get-other, get-same, kept as cells_kept, ledger-now as ledger_now, ledger-of, new-now, registry-now as registry_now, stock-now as stock_now, table-now, tables-off, x-now as x_now}

-- What the tables have afterwards: on the worker that had the shard it has moved, and on the other one it has its new gate.
pub record AreMoved (was now : ℕ → ℕ → Option Where) (shard from to gate : ℕ) : Type 0 where
  pub to_gate : now to shard ≡ Some (where_is.Gate gate)
  pub leads_on : from ≢ to → now from shard ≡ Some (where_is.Moved to)
  pub other_worker : (w : ℕ) → w ≢ to → w ≢ from → now w shard ≡ was w shard
  pub other_shard : (w z : ℕ) → z ≢ shard → now w z ≡ was w z

turned-tables : (maps : List Change) (job : JobValue) (to gate : ℕ) → MovesIn maps job to gate → Each IsTable maps
turned-tables [] job to gate m = absurd m
turned-tables (d ∷ []) job to gate m = (record { worker = to; table = m.1.0; table_now = map.insert m.1.0 job.shard (where_is.Gate gate); was = m.1.1; is = m.1.2 }, tt)
turned-tables (d ∷ f ∷ []) job to gate m = (
  record { worker = job.worker; table = m.1.0; table_now = map.insert m.1.0 job.shard (where_is.Moved to); was = m.1.1; is = m.1.2 },
  (record { worker = to; table = m.2.0; table_now = map.insert m.2.0 job.shard (where_is.Gate gate); was = m.2.1; is = m.2.2 }, tt),
)
turned-tables (d ∷ f ∷ k ∷ more) job to gate m = absurd m

-- two tables are of two workers
apart-tables : (cells : ℕ → CellValue) (maps : List Change) (job : JobValue) (to gate : ℕ) → MovesIn maps job to gate → AreAt cells maps → AreApartCells maps
apart-tables cells [] job to gate m at = tt
apart-tables cells (d ∷ []) job to gate m at = (tt, tt)
apart-tables cells (d ∷ f ∷ []) job to gate m at = (((λ e. let both : MapOf to ≡ MapOf job.worker = sym (ap tag_of m.2.1) ∙ ap tag_of (sym at.1.0) ∙ ap (λ (z : ℕ). tag_of (cells z)) e ∙ ap tag_of at.0 ∙ ap tag_of m.1.1 in m.0 cc), tt), (tt, tt))
apart-tables cells (d ∷ f ∷ k ∷ more) job to gate m at = absurd m

-- tables of two workers are two
of-map : (one two : ℕ) (m m2 : map.FinMap nat_cmp Where) → MapCell one m ≡ MapCell two m2 → one ≡ two
of-map one two m m2 is = (let both : MapOf one ≡ MapOf two = ap tag_of is in cc)

module _ (maps : List Change) (x gc reg c led : Change) (b : ActorValue) (s : Setting) (w : World) (n : ℕ) (g : Ghost) (i : InvWith s (view s w) g) (ag : Agrees w (maps ++ x ∷ gc ∷ reg ∷ c ∷ led ∷ []) n (w.actors n)) (d : DoesFinishMove s.hierarchy maps x gc reg c led (w.actors n) b) where
  abbrev pub v : View
  v = view s w

  abbrev pub rest : List Change
  rest = x ∷ gc ∷ reg ∷ c ∷ led ∷ []

  abbrev pub cs : List Change
  cs = maps ++ rest

  abbrev pub w2 : World
  w2 = after w cs n b

  abbrev pub u : View
  u = view s w2

  blank : IsBlank gc.before
  blank = move-blank s w g i n s.hierarchy maps x gc reg c led (w.actors n) b ag d

  at-maps : AreAt w.cells maps
  at-maps = each-left (λ (e : Change). w.cells e.number ≡ e.before) maps rest ag.cells

  abbrev cells : EndsCells maps (gc ∷ []) x reg c led
  cells = record {
    tables = turned-tables maps d.job d.to gc.number d.moves;
    tables_apart = apart-tables w.cells maps d.job d.to gc.number d.moves at-maps;
    new_gates = (record { blank = blank; gate = d.new_gate; is = d.new_now }, tt);
    gates_apart = (tt, tt);
    gate = d.gate;
    gate_now = d.gate_now;
    turns = d.turns;
    registry = d.registry;
    registry_now = d.registry_now;
    registry_was = d.registry_was;
    registry_is = d.registry_is;
    stock = d.stock;
    stock_now = d.stock_now;
    turns_stock = d.turns_stock;
    ledger = ledger-of x.number d.of d.work d.job (Moved d.of d.job.shard d.to) led (w.actors n) b d.finishes;
  }

  pub at-x : w.cells x.number ≡ GateCell d.gate
  at-x = at_x maps (gc ∷ []) x reg c led b s w n g i ag cells

  pub x-now : w2.cells x.number ≡ GateCell d.gate_now
  x-now = x_now maps (gc ∷ []) x reg c led b s w n g i ag cells

  pub gc-now : w2.cells gc.number ≡ GateCell d.new_gate
  gc-now = new-now maps (gc ∷ []) x reg c led b s w n g i ag cells gc (inl refl) ∙ d.new_now

  pub registry-now : (v.registry ≡ d.registry) × (u.registry ≡ d.registry_now)
  registry-now = registry_now maps (gc ∷ []) x reg c led b s w n g i ag cells

  pub stock-now : (v.stock ≡ d.stock) × (u.stock ≡ d.stock_now)
  stock-now = stock_now maps (gc ∷ []) x reg c led b s w n g i ag cells

  pub ledger-now : (lv lv2 : LedgerValue) → led.before ≡ LedgerCell lv → led.now ≡ LedgerCell lv2 → IsNew (ledger_in (w2.cells ledger_cell)) (ledger_in (w.cells ledger_cell)) lv lv2
  ledger-now = ledger_now maps (gc ∷ []) x reg c led b s w n g i ag cells

  -- everywhere but at the new gate, what a table, the registry, the stock and the ledger don't tell is as before
  pub kept : {A : Type 0} (f : CellValue → A) → ((worker : ℕ) (t t2 : FinMap nat_cmp Where) → f (MapCell worker t) ≡ f (MapCell worker t2)) → ((r r2 : RegistryValue) → f (RegistryCell r) ≡ f (RegistryCell r2)) → ((k k2 : StockValue) → f (StockCell k) ≡ f (StockCell k2))
      → ((l l2 : LedgerValue) → f (LedgerCell l) ≡ f (LedgerCell l2)) → (y : ℕ) → (y ≡ x.number → f (GateCell d.gate_now) ≡ f (GateCell d.gate)) → y ≢ gc.number → f (w2.cells y) ≡ f (w.cells y)
  kept f of_map of_registry of_stock of_ledger y of_x ne = cells_kept maps (gc ∷ []) x reg c led b s w n g i ag cells f of_map of_registry of_stock of_ledger y of_x (ne, tt)

  -- an entry of another shard stays
  off-entry : (worker z : ℕ) (table : map.FinMap nat_cmp Where) (to : Where) → (v.maps worker ≡ map.get table) × (u.maps worker ≡ map.get (map.insert table d.job.shard to)) → z ≢ d.job.shard → u.maps worker z ≡ v.maps worker z
  off-entry worker z table to both ne = ap (λ (k : ℕ → Option Where). k z) both.1 ∙ get-other table d.job.shard to z ne ∙ sym (ap (λ (k : ℕ → Option Where). k z) both.0)

-- The tables, by whether there is one or two.
pub moved-tables : (maps : List Change) (x gc reg c led : Change) (b : ActorValue) (s : Setting) (w : World) (n : ℕ) (g : Ghost) (i : InvWith s (view s w) g) (ag : Agrees w (maps ++ x ∷ gc ∷ reg ∷ c ∷ led ∷ []) n (w.actors n)) (d : DoesFinishMove s.hierarchy maps x gc reg c led (w.actors n) b)
    → AreMoved (view s w).maps (view s (after w (maps ++ x ∷ gc ∷ reg ∷ c ∷ led ∷ []) n b)).maps d.job.shard d.job.worker d.to gc.number
moved-tables [] x gc reg c led b s w n g i ag d = absurd d.moves
moved-tables (k ∷ []) x gc reg c led b s w n g i ag d =
    let t = cells (k ∷ []) x gc reg c led b s w n g i ag d in
    let one = d.moves.1 in
    let here = table-now (k ∷ []) (gc ∷ []) x reg c led b s w n g i ag t k (inl refl) d.to one.0 (map.insert one.0 d.job.shard (where_is.Gate gc.number)) ag.cells.0 one.1 one.2 in
    let off : (worker : ℕ) → worker ≢ d.to → (view s (after w (k ∷ x ∷ gc ∷ reg ∷ c ∷ led ∷ []) n b)).maps worker ≡ (view s w).maps worker = λ worker ne.
    tables-off (k ∷ []) (gc ∷ []) x reg c led b s w n g i ag t worker ((λ other table was same. ne (same ∙ of-map other d.to table one.0 (sym was ∙ one.1))), tt) in
    record {
      to_gate = ap (λ (z : ℕ → Option Where). z d.job.shard) here.1 ∙ get-same one.0 d.job.shard (where_is.Gate gc.number);
      leads_on = λ ne. absurd (ne (sym d.moves.0));
      other_worker = λ worker ne away. ap (λ (z : ℕ → Option Where). z d.job.shard) (off worker ne);
      other_shard = λ worker z ne. on_bool (eqb worker d.to)
          (λ q. subst (λ (p : ℕ). (view s (after w (k ∷ x ∷ gc ∷ reg ∷ c ∷ led ∷ []) n b)).maps p z ≡ (view s w).maps p z) (sym (eqb-true worker d.to q)) (off-entry (k ∷ []) x gc reg c led b s w n g i ag d d.to z one.0 (where_is.Gate gc.number) here ne))
          (λ q. ap (λ (p : ℕ → Option Where). p z) (off worker (eqb-false worker d.to q)));
    }
moved-tables (k ∷ f ∷ []) x gc reg c led b s w n g i ag d =
    let t = cells (k ∷ f ∷ []) x gc reg c led b s w n g i ag d in
    let one = d.moves.1 in
    let two = d.moves.2 in
    let here = table-now (k ∷ f ∷ []) (gc ∷ []) x reg c led b s w n g i ag t k (inl refl) d.job.worker one.0 (map.insert one.0 d.job.shard (where_is.Moved d.to)) ag.cells.0 one.1 one.2 in
    let there = table-now (k ∷ f ∷ []) (gc ∷ []) x reg c led b s w n g i ag t f (inr (inl refl)) d.to two.0 (map.insert two.0 d.job.shard (where_is.Gate gc.number)) ag.cells.1.0 two.1 two.2 in
    let off : (worker : ℕ) → worker ≢ d.to → worker ≢ d.job.worker → (view s (after w (k ∷ f ∷ x ∷ gc ∷ reg ∷ c ∷ led ∷ []) n b)).maps worker ≡ (view s w).maps worker = λ worker ne away.
    tables-off (k ∷ f ∷ []) (gc ∷ []) x reg c led b s w n g i ag t worker ((λ other table was same. away (same ∙ of-map other d.job.worker table one.0 (sym was ∙ one.1))), ((λ other table was same. ne (same ∙ of-map other d.to table two.0 (sym was ∙ two.1))), tt)) in
    record {
      to_gate = ap (λ (z : ℕ → Option Where). z d.job.shard) there.1 ∙ get-same two.0 d.job.shard (where_is.Gate gc.number);
      leads_on = λ ne. ap (λ (z : ℕ → Option Where). z d.job.shard) here.1 ∙ get-same one.0 d.job.shard (where_is.Moved d.to);
      other_worker = λ worker ne away. ap (λ (z : ℕ → Option Where). z d.job.shard) (off worker ne away);
      other_shard = λ worker z ne. on_bool (eqb worker d.to)
          (λ q. subst (λ (p : ℕ). (view s (after w (k ∷ f ∷ x ∷ gc ∷ reg ∷ c ∷ led ∷ []) n b)).maps p z ≡ (view s w).maps p z) (sym (eqb-true worker d.to q)) (off-entry (k ∷ f ∷ []) x gc reg c led b s w n g i ag d d.to z two.0 (where_is.Gate gc.number) there ne))
          (λ q. on_bool (eqb worker d.job.worker)
          (λ r. subst (λ (p : ℕ). (view s (after w (k ∷ f ∷ x ∷ gc ∷ reg ∷ c ∷ led ∷ []) n b)).maps p z ≡ (view s w).maps p z) (sym (eqb-true worker d.job.worker r)) (off-entry (k ∷ f ∷ []) x gc reg c led b s w n g i ag d d.job.worker z one.0 (where_is.Moved d.to) here ne))
          (λ r. ap (λ (p : ℕ → Option Where). p z) (off worker (eqb-false worker d.to q) (eqb-false worker d.job.worker r))));
    }
moved-tables (k ∷ f ∷ e ∷ more) x gc reg c led b s w n g i ag d = absurd d.moves
