-- The cells that a job's end changes, as the view sees them: tables of workers, the old gate, the new ones, the registry, the stock and
-- the ledger.
use Rattle.std.proofs.{Common.{◌≡◌, ◌≢◌, ℕ, Bool, true, false, cond, eqb, List, [], ◌∷◌, ◌++◌, Some, None, refl, sym, ap, ◌∙◌, inl, inr, arith}, lemmas.Bool.eqb-true, lemmas.Cmp.nat_cmp_total}
use Rattle.std.specs.FinMap as map
use Rattle.std.specs.Ordering.{nat_cmp, is_eq}
use Rattle.cell_stock.specs.Stock.{StockValue}
use Rattle.list_words.specs.Counts.{Among, Each}
use Rattle.list_words.proofs.{Each.{among-left, among-right, each-both, each-append, each-left, each-map, each-right}, Truth.on_bool}
use Rattle.mapping_table.specs.declared.place.Where.{Where}
use Rattle.row_ledger.specs.{LedgerValue.LedgerValue, declared.event.Event.Event}
use Rattle.server_image.specs.Registry.{RegistryValue}
use Rattle.core_tree.specs.shard_store.specs.declared.gate.Gate.{Gate}
use Rattle.core_tree.specs.volap_cell.specs.{AdminKinds.{Finishes, TurnsStock}, Cells.{BlockCell, CellValue, DeskCell, FreeCell, GateCell, ImageCell, LedgerCell, MapCell, MapOf, OfStock, RegistryCell, StockCell, Tag, TheLedger, TheRegistry, TheStock, active_in, gate_shard, ledger_in, pins_in, registry_in, stock_in, tag_of, where_in}, Ghost.Ghost, Invariant.InvWith, Setting.{Setting, ledger_cell, map_cell}, TreeKinds.TurnsGate, Values.{ActorValue, JobValue}, View.{View, view}, World.{Agrees, Change, World, after, put}, declared.command.Work.Work}
use Rattle.core_tree.specs.volap_cell.specs.declared.command.Work.TheVariants as work_is
use Rattle.core_tree.specs.volap_cell.proofs.{Cells.Numbers.{at-ledger, at-map, at-registry, at-stock}, Views.Fields.IsNew, Views.Frames.{AreApartCells, AreAt, put-at}, Views.Touches.{IsBlank, turned}}

-- each change is of another cell, or leaves what f tells
put-keeps : {A : Type 0} (f : CellValue → A) (cs : List Change) (cells : ℕ → CellValue) (y : ℕ) → AreAt cells cs → Each (λ d. d.number ≡ y → f d.now ≡ f d.before) cs → f (put cs cells y) ≡ f (cells y)
put-keeps f [] cells y at same = refl
put-keeps f (d ∷ cs) cells y at same =
    let ih = put-keeps f cs cells y at.1 same.1 in
    on_bool (eqb y d.number)
    (λ q. let e = eqb-true y d.number q in ap (λ (b : Bool). f (cond b d.now (put cs cells y))) q ∙ same.0 (sym e) ∙ ap f (sym at.0) ∙ ap (λ (z : ℕ). f (cells z)) (sym e))
    (λ q. ap (λ (b : Bool). f (cond b d.now (put cs cells y))) q ∙ ih)

-- a job's end leaves a ledger
pub ledger-of : (gate of : ℕ) (work : Work) (job : JobValue) (e : Event) (l : Change) (a b : ActorValue) → Finishes gate of work job e l a b → (lv : LedgerValue) × (lv2 : LedgerValue) × (l.before ≡ LedgerCell lv) × (l.now ≡ LedgerCell lv2)
ledger-of gate of (work_is.Balance balance) job e l a b f = (f.0.ledger, f.0.ledger_now, f.0.was, f.0.is)
ledger-of gate of (work_is.Insert row routed) job e l a b f = (f.0.ledger, f.0.ledger_now, f.0.was, f.0.is)
ledger-of gate of work_is.Query job e l a b f = (f.0.ledger, f.0.ledger_now, f.0.was, f.0.is)
ledger-of gate of (work_is.Sync server pulled) job e l a b f = (f.0.ledger, f.0.ledger_now, f.0.was, f.0.is)
ledger-of gate of work_is.Bare job e l a b f = (f.0.ledger, f.0.ledger_now, f.0.was, f.0.is)
ledger-of gate of (work_is.Settle pulls) job e l a b f = (f.0.ledger, f.0.ledger_now, f.0.was, f.0.is)
ledger-of gate of (work_is.Action act) job e l a b f = (f.0.ledger, f.0.ledger_now, f.0.was, f.0.is)
ledger-of gate of (work_is.Page subject there shown) job e l a b f = (f.0.ledger, f.0.ledger_now, f.0.was, f.0.is)

-- a gate has no table, and a blank cell has none
blank-where : (gate : Gate) (c : CellValue) → tag_of c ≡ OfStock → where_in (GateCell gate) ≡ where_in c
blank-where gate FreeCell tag = refl
blank-where gate (BlockCell k) tag = refl
blank-where gate (GateCell k) tag = refl
blank-where gate (LedgerCell l) tag = cc
blank-where gate (StockCell k) tag = cc
blank-where gate (RegistryCell r) tag = cc
blank-where gate (ImageCell k image) tag = cc
blank-where gate (DeskCell k desk) tag = cc
blank-where gate (MapCell worker m) tag = cc

-- a blank cell has no gate that counts
pub blank-counts : (c : CellValue) → tag_of c ≡ OfStock → gate_shard c ≡ None → (active_in c ≡ 0) × (pins_in c ≡ 0)
blank-counts FreeCell tag none = (refl, refl)
blank-counts (BlockCell k) tag none = (refl, refl)
blank-counts (GateCell k) tag none = cc
blank-counts (LedgerCell l) tag none = cc
blank-counts (StockCell k) tag none = cc
blank-counts (RegistryCell r) tag none = cc
blank-counts (ImageCell k image) tag none = cc
blank-counts (DeskCell k desk) tag none = cc
blank-counts (MapCell worker m) tag none = cc

pub get-same : (m : map.FinMap nat_cmp Where) (x : ℕ) (to : Where) → map.get (map.insert m x to) x ≡ Some to
get-same m x to = map.get-insert nat_cmp_total m x to x ∙ ap (λ (b : Bool). cond b (Some to) (map.get m x)) (nat-itself x)
  where
    nat-itself : (x : ℕ) → is_eq (nat_cmp x x) ≡ true
    nat-itself x = grind arith

pub get-other : (m : map.FinMap nat_cmp Where) (x : ℕ) (to : Where) (z : ℕ) → z ≢ x → map.get (map.insert m x to) z ≡ map.get m z
get-other m x to z ne = map.get-insert nat_cmp_total m x to z ∙ ap (λ (b : Bool). cond b (Some to) (map.get m z)) (nat-apart z x ne)
  where
    nat-apart : (z x : ℕ) → z ≢ x → is_eq (nat_cmp z x) ≡ false
    nat-apart z x ne = grind arith

apart-append : (xs ys : List Change) → AreApartCells xs → AreApartCells ys → Each (λ (k : Change). Each (λ (f : Change). f.number ≢ k.number) ys) xs → AreApartCells (xs ++ ys)
apart-append [] ys one two off = two
apart-append (k ∷ xs) ys one two off = (each-append (λ (f : Change). f.number ≢ k.number) xs ys one.0 off.0, apart-append xs ys one.1 two off.1)

-- a worker's table gets other entries
pub record IsTable (k : Change) : Type 0 where
  pub worker : ℕ
  pub table : map.FinMap nat_cmp Where
  pub table_now : map.FinMap nat_cmp Where
  pub was : k.before ≡ MapCell worker table
  pub is : k.now ≡ MapCell worker table_now

-- a cell of the stock becomes a gate
pub record IsNewGate (k : Change) : Type 0 where
  pub blank : IsBlank k.before
  pub gate : Gate
  pub is : k.now ≡ GateCell gate

pub record EndsCells (maps gates : List Change) (x reg c led : Change) : Type 0 where
  pub tables : Each IsTable maps
  pub tables_apart : AreApartCells maps
  pub new_gates : Each IsNewGate gates
  pub gates_apart : AreApartCells gates
  pub gate : Gate
  pub gate_now : Gate
  pub turns : TurnsGate gate gate_now x
  pub registry : RegistryValue
  pub registry_now : RegistryValue
  pub registry_was : reg.before ≡ RegistryCell registry
  pub registry_is : reg.now ≡ RegistryCell registry_now
  pub stock : StockValue
  pub stock_now : StockValue
  pub turns_stock : TurnsStock stock stock_now c
  pub ledger : (lv : LedgerValue) × (lv2 : LedgerValue) × (led.before ≡ LedgerCell lv) × (led.now ≡ LedgerCell lv2)

module _ (maps gates : List Change) (x reg c led : Change) (b : ActorValue) (s : Setting) (w : World) (n : ℕ) (g : Ghost) (i : InvWith s (view s w) g) (ag : Agrees w (maps ++ x ∷ (gates ++ reg ∷ c ∷ led ∷ [])) n (w.actors n)) (t : EndsCells maps gates x reg c led) where
  abbrev v : View
  v = view s w

  abbrev tail : List Change
  tail = reg ∷ c ∷ led ∷ []

  abbrev rest : List Change
  rest = x ∷ (gates ++ tail)

  abbrev cs : List Change
  cs = maps ++ rest

  abbrev w2 : World
  w2 = after w cs n b

  abbrev u : View
  u = view s w2

  abbrev IsAt : Change → Type 0
  IsAt k = w.cells k.number ≡ k.before

  at-maps : AreAt w.cells maps
  at-maps = each-left IsAt maps rest ag.cells

  at-rest : AreAt w.cells rest
  at-rest = each-right IsAt maps rest ag.cells

  at-gates : AreAt w.cells gates
  at-gates = each-left IsAt gates tail at-rest.1

  at-tail : AreAt w.cells tail
  at-tail = each-right IsAt gates tail at-rest.1

  pub at-x : w.cells x.number ≡ GateCell t.gate
  at-x = at-rest.0 ∙ t.turns.was

  tag-x : tag_of x.before ≡ OfStock
  tag-x = ap tag_of t.turns.was

  tag-reg : tag_of reg.before ≡ TheRegistry
  tag-reg = ap tag_of t.registry_was

  tag-c : tag_of c.before ≡ TheStock
  tag-c = ap tag_of t.turns_stock.was

  tag-led : tag_of led.before ≡ TheLedger
  tag-led = ap tag_of t.ledger.2

  -- The cells are different ones.

  tags : (e f : Change) (p k : Tag) → IsAt e → IsAt f → tag_of e.before ≡ p → tag_of f.before ≡ k → p ≢ k → f.number ≢ e.number
  tags e f p k here there tag other ne is = ne (sym tag ∙ ap tag_of (sym here) ∙ ap (λ (z : ℕ). tag_of (w.cells z)) (sym is) ∙ ap tag_of there ∙ other)

  off-tail : (e : Change) (p : Tag) → IsAt e → tag_of e.before ≡ p → p ≢ TheRegistry → p ≢ TheStock → p ≢ TheLedger → Each (λ (f : Change). f.number ≢ e.number) tail
  off-tail e p here tag one two three = (tags e reg p TheRegistry here at-tail.0 tag tag-reg one, (tags e c p TheStock here at-tail.1.0 tag tag-c two, (tags e led p TheLedger here at-tail.1.1.0 tag tag-led three, tt)))

  tail-apart : AreApartCells tail
  tail-apart = (
    (tags reg c TheRegistry TheStock at-tail.0 at-tail.1.0 tag-reg tag-c (λ k. cc), (tags reg led TheRegistry TheLedger at-tail.0 at-tail.1.1.0 tag-reg tag-led (λ k. cc), tt)),
    ((tags c led TheStock TheLedger at-tail.1.0 at-tail.1.1.0 tag-c tag-led (λ k. cc), tt), (tt, tt)),
  )

  gates-off : Each (λ (f : Change). f.number ≢ x.number) gates
  gates-off = each-both IsNewGate IsAt (λ (f : Change). f.number ≢ x.number) gates
      (λ f new there e. let no : None ≡ Some t.gate.shard = sym new.blank.no_gate ∙ ap gate_shard (sym there) ∙ ap (λ (z : ℕ). gate_shard (w.cells z)) e ∙ ap gate_shard at-x in cc) t.new_gates at-gates

  rest-apart : AreApartCells rest
  rest-apart = (
    each-append (λ (f : Change). f.number ≢ x.number) gates tail gates-off (off-tail x OfStock at-rest.0 tag-x (λ k. cc) (λ k. cc) (λ k. cc)),
    apart-append gates tail t.gates_apart tail-apart
        (each-both IsNewGate IsAt (λ (k : Change). Each (λ (f : Change). f.number ≢ k.number) tail) gates (λ k new there. off-tail k OfStock there new.blank.tag (λ e. cc) (λ e. cc) (λ e. cc)) t.new_gates at-gates),
  )

  pub apart : AreApartCells cs
  apart = apart-append maps rest t.tables_apart rest-apart (each-both IsTable IsAt (λ (k : Change). Each (λ (f : Change). f.number ≢ k.number) rest) maps (λ k table here.
      let tag : tag_of k.before ≡ MapOf table.worker = ap tag_of table.was in (
        tags k x (MapOf table.worker) OfStock here at-rest.0 tag tag-x (λ e. cc),
        each-append (λ (f : Change). f.number ≢ k.number) gates tail
            (each-both IsNewGate IsAt (λ (f : Change). f.number ≢ k.number) gates (λ f new there. tags k f (MapOf table.worker) OfStock here there tag new.blank.tag (λ e. cc)) t.new_gates at-gates)
            (off-tail k (MapOf table.worker) here tag (λ e. cc) (λ e. cc) (λ e. cc)),
      )) t.tables at-maps)

  -- What they are afterwards.

  now : (k : Change) → Among k rest → w2.cells k.number ≡ k.now
  now k among = put-at cs w.cells k apart (among-right maps rest k among)

  in-tail : (k : Change) → Among k tail → w2.cells k.number ≡ k.now
  in-tail k among = now k (inr (among-right gates tail k among))

  pub x-now : w2.cells x.number ≡ GateCell t.gate_now
  x-now = now x (inl refl) ∙ t.turns.is

  pub new-now : (k : Change) → Among k gates → w2.cells k.number ≡ k.now
  new-now k among = now k (inr (among-left gates tail k among))

  pub registry-now : (v.registry ≡ t.registry) × (u.registry ≡ t.registry_now)
  registry-now =
      let number = at-registry s w.cells i.numbering.tag reg.number t.registry (at-tail.0 ∙ t.registry_was) in (
        ap (λ (y : ℕ). registry_in (w.cells y)) (sym number) ∙ ap registry_in (at-tail.0 ∙ t.registry_was),
        ap (λ (y : ℕ). registry_in (w2.cells y)) (sym number) ∙ ap registry_in (in-tail reg (inl refl) ∙ t.registry_is),
      )

  pub stock-now : (v.stock ≡ t.stock) × (u.stock ≡ t.stock_now)
  stock-now =
      let number = at-stock s w.cells i.numbering.tag c.number t.stock (at-tail.1.0 ∙ t.turns_stock.was) in (
        ap (λ (y : ℕ). stock_in (w.cells y)) (sym number) ∙ ap stock_in (at-tail.1.0 ∙ t.turns_stock.was),
        ap (λ (y : ℕ). stock_in (w2.cells y)) (sym number) ∙ ap stock_in (in-tail c (inr (inl refl)) ∙ t.turns_stock.is),
      )

  pub ledger-now : (lv lv2 : LedgerValue) → led.before ≡ LedgerCell lv → led.now ≡ LedgerCell lv2 → IsNew (ledger_in (w2.cells ledger_cell)) (ledger_in (w.cells ledger_cell)) lv lv2
  ledger-now lv lv2 was is =
      let number = at-ledger s w.cells i.numbering.tag led.number lv (at-tail.1.1.0 ∙ was) in record {
        was_that = ap (λ (y : ℕ). ledger_in (w.cells y)) (sym number) ∙ ap ledger_in (at-tail.1.1.0 ∙ was);
        is_that = ap (λ (y : ℕ). ledger_in (w2.cells y)) (sym number) ∙ ap ledger_in (in-tail led (inr (inr (inl refl))) ∙ is);
      }

  -- everywhere but at the new gates, what a table, the registry, the stock and the ledger don't tell is as before
  pub kept : {A : Type 0} (f : CellValue → A) → ((worker : ℕ) (m m2 : map.FinMap nat_cmp Where) → f (MapCell worker m) ≡ f (MapCell worker m2)) → ((k k2 : RegistryValue) → f (RegistryCell k) ≡ f (RegistryCell k2)) → ((k k2 : StockValue) → f (StockCell k) ≡ f (StockCell k2))
      → ((k k2 : LedgerValue) → f (LedgerCell k) ≡ f (LedgerCell k2)) → (y : ℕ) → (y ≡ x.number → f (GateCell t.gate_now) ≡ f (GateCell t.gate)) → Each (λ (k : Change). y ≢ k.number) gates → f (w2.cells y) ≡ f (w.cells y)
  kept f of_map of_registry of_stock of_ledger y of_x off = put-keeps f cs w.cells y ag.cells
      (each-append (λ (e : Change). e.number ≡ y → f e.now ≡ f e.before) maps rest
      (each-map IsTable (λ (e : Change). e.number ≡ y → f e.now ≡ f e.before) maps (λ e k is. turned f e _ _ k.was k.is (of_map k.worker _ _)) t.tables) (
        (λ e. turned f x _ _ t.turns.was t.turns.is (of_x (sym e))),
        each-append (λ (e : Change). e.number ≡ y → f e.now ≡ f e.before) gates tail (each-map (λ (k : Change). y ≢ k.number) (λ (e : Change). e.number ≡ y → f e.now ≡ f e.before) gates (λ e ne is. absurd (ne (sym is))) off)
            ((λ e. turned f reg _ _ t.registry_was t.registry_is (of_registry _ _)), ((λ e. turned f c _ _ t.turns_stock.was t.turns_stock.is (of_stock _ _)), ((λ e. turned f led _ _ t.ledger.2 t.ledger.3 (of_ledger _ _)), tt))),
      ))

  -- Tables.

  pub table-now : (k : Change) → Among k maps → (worker : ℕ) (m m2 : map.FinMap nat_cmp Where) → IsAt k → k.before ≡ MapCell worker m → k.now ≡ MapCell worker m2 → (v.maps worker ≡ map.get m) × (u.maps worker ≡ map.get m2)
  table-now k among worker m m2 here was is =
      let number = (at-map s w.cells i.numbering.tag k.number worker m (here ∙ was)).0 in (
        ap (λ (y : ℕ). where_in (w.cells y)) (sym number) ∙ ap where_in (here ∙ was),
        ap (λ (y : ℕ). where_in (w2.cells y)) (sym number) ∙ ap where_in (put-at cs w.cells k apart (among-left maps rest k among) ∙ is),
      )

  pub tables-off : (worker : ℕ) → Each (λ (k : Change). (other : ℕ) (m : map.FinMap nat_cmp Where) → k.before ≡ MapCell other m → worker ≢ other) maps → u.maps worker ≡ v.maps worker
  tables-off worker off = put-keeps where_in cs w.cells (map_cell s worker) ag.cells
      (each-append (λ (e : Change). e.number ≡ map_cell s worker → where_in e.now ≡ where_in e.before) maps rest
      (each-both (λ (k : Change). (other : ℕ) (m : map.FinMap nat_cmp Where) → k.before ≡ MapCell other m → worker ≢ other) (λ (k : Change). IsTable k × IsAt k) (λ (e : Change). e.number ≡ map_cell s worker → where_in e.now ≡ where_in e.before) maps
      (λ k ne both is. let number = (at-map s w.cells i.numbering.tag k.number both.0.worker both.0.table (both.1 ∙ both.0.was)).0 in absurd (ne both.0.worker both.0.table both.0.was (omega (arith, number, is)))) off
      (each-both IsTable IsAt (λ (k : Change). IsTable k × IsAt k) maps (λ k table here. (table, here)) t.tables at-maps)) (
        (λ e. turned where_in x _ _ t.turns.was t.turns.is refl),
        each-append (λ (e : Change). e.number ≡ map_cell s worker → where_in e.now ≡ where_in e.before) gates tail
            (each-map IsNewGate (λ (e : Change). e.number ≡ map_cell s worker → where_in e.now ≡ where_in e.before) gates (λ k new is. ap where_in new.is ∙ blank-where new.gate k.before new.blank.tag) t.new_gates)
            ((λ e. turned where_in reg _ _ t.registry_was t.registry_is refl), ((λ e. turned where_in c _ _ t.turns_stock.was t.turns_stock.is refl), ((λ e. turned where_in led _ _ t.ledger.2 t.ledger.3 refl), tt))),
      ))
