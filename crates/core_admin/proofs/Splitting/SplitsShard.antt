-- The cells that a split changes, as the view sees them.
use Rattle.std.proofs.Common.{◌≡◌, ◌≢◌, ℕ, ◌+◌, ◌≤◌, Bool, List, [], ◌∷◌, Option, Some, refl, sym, ap, ◌∙◌, subst, inl, inr, arith}
use Rattle.std.specs.FinMap as map
use Rattle.std.specs.Ordering.{nat_cmp}
use Rattle.mapping_table.specs.declared.place.Where.{Where}
use Rattle.mapping_table.specs.declared.place.Where.TheVariants as where_is
use Rattle.cell_stock.specs.{Stock.{StockValue, cells_of}, declared.purse.Spare.Spare}
use Rattle.row_ledger.specs.{LedgerValue.LedgerValue, declared.event.Event.TheVariants.Split}
use Rattle.server_image.specs.Registry.{RegistryValue}
use Rattle.list_words.specs.Counts.{Among, same, times}
use Rattle.list_words.proofs.{Each.among-right, Times.same_is, Truth.on_bool}
use Rattle.core_tree.specs.volap_cell.specs.{AdminKinds.DoesFinishSplit, Cells.{CellValue, GateCell, LedgerCell, MapCell, MapOf, RegistryCell, StockCell, ledger_in, tag_of}, Ghost.{Ghost, InPurse, Owner, is_in_purse}, Invariant.InvWith, Setting.Setting, Values.ActorValue, View.{View, view}, World.{Agrees, Change, World, after}}
use Rattle.core_tree.specs.volap_cell.proofs.{Cells.Blanks.spare-owner, Cells.Spares.{among-cells, split-blank}, Views.Fields.IsNew, Views.Touches.IsBlank}
use Rattle.core_admin.proofs.{EndedCells.{EndsCells, at-x as at_x, get-other, get-same, kept as cells_kept, ledger-now as ledger_now, ledger-of, new-now, registry-now as registry_now, stock-now as stock_now, table-now, tables-off as tables_off, x-now as x_now}, Postponing.Returned.{cells-append, one}}

one-few : (n : ℕ) (o : Owner) → one (is_in_purse n o) ≤ 1
one-few n o = by (is_in_purse n o)
  where
    by : (b : Bool) → one b ≤ 1
    by b = on_bool b (λ q. rw q (omega arith)) (λ q. rw q (omega arith))

module _ (m x l r reg c led : Change) (b : ActorValue) (s : Setting) (w : World) (n : ℕ) (g : Ghost) (i : InvWith s (view s w) g) (ag : Agrees w (m ∷ x ∷ l ∷ r ∷ reg ∷ c ∷ led ∷ []) n (w.actors n)) (d : DoesFinishSplit s.hierarchy m x l r reg c led (w.actors n) b) where
  abbrev pub v : View
  v = view s w

  abbrev pub cs : List Change
  cs = m ∷ x ∷ l ∷ r ∷ reg ∷ c ∷ led ∷ []

  abbrev pub w2 : World
  w2 = after w cs n b

  abbrev pub u : View
  u = view s w2

  abbrev pub left : ℕ
  left = d.stock.ids

  abbrev pub right : ℕ
  right = d.stock.ids + 1

  blank : IsBlank l.before × IsBlank r.before
  blank = split-blank s w g i n s.hierarchy m x l r reg c led (w.actors n) b ag d

  pub owner-l : g.owner l.number ≡ InPurse n
  owner-l = ap g.owner d.left_cell ∙ spare-owner s w g i n d.left_spare.cell (among-cells d.left_spare (w.actors n).purse (subst (Among d.left_spare) (sym d.spares) (among-right d.rest (d.right_spare ∷ d.left_spare ∷ []) d.left_spare (inr (inl refl)))))

  pub owner-r : g.owner r.number ≡ InPurse n
  owner-r = ap g.owner d.right_cell ∙ spare-owner s w g i n d.right_spare.cell (among-cells d.right_spare (w.actors n).purse (subst (Among d.right_spare) (sym d.spares) (among-right d.rest (d.right_spare ∷ d.left_spare ∷ []) d.right_spare (inl refl))))

  -- the cells of the purse are those of the two gates and of what is left
  pub purse-cells : (z : ℕ) → times z (cells_of (v.purses n)) ≡ times z (cells_of d.rest) + same z r.number + same z l.number
  purse-cells z =
      let all = ap (λ (k : List Spare). times z (cells_of k)) d.spares ∙ cells-append z d.rest (d.right_spare ∷ d.left_spare ∷ []) in
      let one = ap (same z) d.right_cell in
      let two = ap (same z) d.left_cell in
      omega (arith, all, one, two)

  pub gates-apart : r.number ≢ l.number
  gates-apart e =
      let all = purse-cells l.number in
      let mine = i.stocking.purse n l.number in
      let few = one-few n (g.owner l.number) in
      let one = same_is l.number l.number refl in
      let two = same_is l.number r.number (sym e) in
      absurd (omega (arith, all, mine, few, one, two))

  abbrev cells : EndsCells (m ∷ []) (l ∷ r ∷ []) x reg c led
  cells = record {
    tables = (record { worker = d.job.worker; table = d.table; table_now = map.insert (map.insert (map.insert d.table d.job.shard (where_is.Split d.plane left right)) left (where_is.Gate l.number)) right (where_is.Gate r.number); was = d.map_was; is = d.map_is }, tt);
    tables_apart = (tt, tt);
    new_gates = (record { blank = blank.0; gate = d.left_gate; is = d.left_now }, (record { blank = blank.1; gate = d.right_gate; is = d.right_now }, tt));
    gates_apart = ((gates-apart, tt), (tt, tt));
    gate = d.gate;
    gate_now = d.gate_now;
    turns = d.turns;
    registry = d.registry;
    registry_now = d.registry_now;
    registry_was = d.registry_was;
    registry_is = d.registry_is;
    stock = d.stock;
    stock_now = d.stock_now;
    turns_stock = d.turns_stock;
    ledger = ledger-of x.number d.of d.work d.job (Split d.of d.job.shard left right) led (w.actors n) b d.finishes;
  }

  pub at-x : w.cells x.number ≡ GateCell d.gate
  at-x = at_x (m ∷ []) (l ∷ r ∷ []) x reg c led b s w n g i ag cells

  pub x-now : w2.cells x.number ≡ GateCell d.gate_now
  x-now = x_now (m ∷ []) (l ∷ r ∷ []) x reg c led b s w n g i ag cells

  pub l-now : w2.cells l.number ≡ GateCell d.left_gate
  l-now = new-now (m ∷ []) (l ∷ r ∷ []) x reg c led b s w n g i ag cells l (inl refl) ∙ d.left_now

  pub r-now : w2.cells r.number ≡ GateCell d.right_gate
  r-now = new-now (m ∷ []) (l ∷ r ∷ []) x reg c led b s w n g i ag cells r (inr (inl refl)) ∙ d.right_now

  pub registry-now : (v.registry ≡ d.registry) × (u.registry ≡ d.registry_now)
  registry-now = registry_now (m ∷ []) (l ∷ r ∷ []) x reg c led b s w n g i ag cells

  pub stock-now : (v.stock ≡ d.stock) × (u.stock ≡ d.stock_now)
  stock-now = stock_now (m ∷ []) (l ∷ r ∷ []) x reg c led b s w n g i ag cells

  pub ledger-now : (lv lv2 : LedgerValue) → led.before ≡ LedgerCell lv → led.now ≡ LedgerCell lv2 → IsNew (ledger_in (w2.cells 0)) (ledger_in (w.cells 0)) lv lv2
  ledger-now = ledger_now (m ∷ []) (l ∷ r ∷ []) x reg c led b s w n g i ag cells

  -- everywhere but at the new gates, what a table, the registry, the stock and the ledger don't tell is as before
  pub kept : {A : Type 0} (f : CellValue → A) → ((worker : ℕ) (t t2 : map.FinMap nat_cmp Where) → f (MapCell worker t) ≡ f (MapCell worker t2)) → ((k k2 : RegistryValue) → f (RegistryCell k) ≡ f (RegistryCell k2)) → ((k k2 : StockValue) → f (StockCell k) ≡ f (StockCell k2))
      → ((k k2 : LedgerValue) → f (LedgerCell k) ≡ f (LedgerCell k2)) → (y : ℕ) → (y ≡ x.number → f (GateCell d.gate_now) ≡ f (GateCell d.gate)) → y ≢ l.number → y ≢ r.number → f (w2.cells y) ≡ f (w.cells y)
  kept f of_map of_registry of_stock of_ledger y of_x off_l off_r = cells_kept (m ∷ []) (l ∷ r ∷ []) x reg c led b s w n g i ag cells f of_map of_registry of_stock of_ledger y of_x (off_l, (off_r, tt))

  -- Tables.

  tables : (v.maps d.job.worker ≡ map.get d.table) × (u.maps d.job.worker ≡ map.get (map.insert (map.insert (map.insert d.table d.job.shard (where_is.Split d.plane left right)) left (where_is.Gate l.number)) right (where_is.Gate r.number)))
  tables = table-now (m ∷ []) (l ∷ r ∷ []) x reg c led b s w n g i ag cells m (inl refl) d.job.worker d.table _ ag.cells.0 d.map_was d.map_is

  pub tables-off : (worker : ℕ) → worker ≢ d.job.worker → u.maps worker ≡ v.maps worker
  tables-off worker ne = tables_off (m ∷ []) (l ∷ r ∷ []) x reg c led b s w n g i ag cells worker ((λ other table was same. let both : MapOf other ≡ MapOf d.job.worker = ap tag_of (sym was) ∙ ap tag_of d.map_was in let its : other ≡ d.job.worker = cc in ne (same ∙ its)), tt)

  pub record AreSplit : Type 0 where
    pub at_shard : u.maps d.job.worker d.job.shard ≡ Some (where_is.Split d.plane left right)
    pub at_left : u.maps d.job.worker left ≡ Some (where_is.Gate l.number)
    pub at_right : u.maps d.job.worker right ≡ Some (where_is.Gate r.number)
    pub at_other : (z : ℕ) → z ≢ d.job.shard → z ≢ left → z ≢ right → u.maps d.job.worker z ≡ v.maps d.job.worker z

  pub split-tables : d.job.shard ≢ left → d.job.shard ≢ right → AreSplit
  split-tables off_left off_right =
      let one = map.insert d.table d.job.shard (where_is.Split d.plane left right) in
      let two = map.insert one left (where_is.Gate l.number) in
      let at : (z : ℕ) → u.maps d.job.worker z ≡ map.get (map.insert two right (where_is.Gate r.number)) z = λ z. ap (λ (k : ℕ → Option Where). k z) tables.1 in
      let apart : left ≢ right = (λ e. absurd (omega (arith, e))) in
      record {
        at_shard = at d.job.shard ∙ get-other two right (where_is.Gate r.number) d.job.shard off_right ∙ get-other one left (where_is.Gate l.number) d.job.shard off_left ∙ get-same d.table d.job.shard (where_is.Split d.plane left right);
        at_left = at left ∙ get-other two right (where_is.Gate r.number) left apart ∙ get-same one left (where_is.Gate l.number);
        at_right = at right ∙ get-same two right (where_is.Gate r.number);
        at_other = λ z ne off_l off_r. at z ∙ get-other two right (where_is.Gate r.number) z off_r ∙ get-other one left (where_is.Gate l.number) z off_l ∙ get-other d.table d.job.shard (where_is.Split d.plane left right) z ne
            ∙ sym (ap (λ (k : ℕ → Option Where). k z) tables.0);
      }
