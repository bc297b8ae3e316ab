-- Where nobody is at a part, the tree of a gate that stands is at rest, so that a page made of the gate and the blocks is what the state has.
use Rattle.std.proofs.{Common.{ℕ, ◌≡◌, ◌≢◌, ◌-◌, ◌<◌, true, false, cond, eqb, List, [], ◌∷◌, map, Option, Some, None, inl, refl, sym, ap, ◌∙◌, subst, arith}, lemmas.Bool.{eqb-true, eqb-false}}
use Rattle.std.specs.Prelude.{IsSome}
use Rattle.dim_hierarchy.specs.{Dimension.Dimension, declared.row.Row.Row}
use Rattle.dc_node.specs.Summary.{IsSummaryOf}
use Rattle.row_ledger.specs.declared.page.TreePage.{TreePage}
use Rattle.core_image.specs.shard_store.specs.{Gate.{IsQueueOf, root_entry}, declared.gate.Gate.Gate, declared.gate.Phase.Phase}
use Rattle.list_words.proofs.{Each.each-made, Times.each-times, Truth.on_bool}
use Rattle.list_words.specs.Counts.{Each, times}
use Rattle.core_image.specs.tree_shape.specs.{PageLines.{CellBlocks, lines}, Shape.{Shape, Table, TreeCells, numbers}, Trees.IsTree}
use Rattle.core_image.specs.tree_shape.proofs.Whole.Totals.{gate-sum}
use Rattle.core_image.specs.volap_cell.specs.{Cells.{CellValue, FreeCell, LedgerCell, StockCell, RegistryCell, ImageCell, DeskCell, MapCell, GateCell, BlockCell, gate_shard, phase_of, queue_in, way_in, way_to_tree}, Errands.{RowWay, way_of}, Ghost.{Ghost, NotOfStock, AGate, InTree}, Growing.table_of, Invariant.InvWith, Setting.Setting, Sights.{HasRows, SeesTree, blocks_seen}, Stocking.{IsWhole, cells_at}, View.{View, view}, World.World}
use Rattle.core_pages.specs.{Looks.{IsValid, StateValue, blocks_of, cells_in, gate_in}, Seen.{CanSee, CanSeeIn, IsOfGate, IsSeenIn}, Still.{IsStill, ShowsTree, cells_with}}
use Rattle.core_pages.proofs.{AnyShape.same-placed, Counts.root-times}

-- a cell with a shard has its gate
pub has-gate : (c : CellValue) → IsSome (gate_shard c) → c ≡ GateCell (gate_in c)
has-gate FreeCell e = (let never : false ≡ true = e in absurd (cc))
has-gate (LedgerCell l) e = (let never : false ≡ true = e in absurd (cc))
has-gate (StockCell k) e = (let never : false ≡ true = e in absurd (cc))
has-gate (RegistryCell r) e = (let never : false ≡ true = e in absurd (cc))
has-gate (ImageCell n i) e = (let never : false ≡ true = e in absurd (cc))
has-gate (DeskCell n d) e = (let never : false ≡ true = e in absurd (cc))
has-gate (MapCell n m) e = (let never : false ≡ true = e in absurd (cc))
has-gate (GateCell g) e = refl
has-gate (BlockCell b) e = (let never : false ≡ true = e in absurd (cc))

-- rows by their numbers, each the one of its number
numbers-back : (row : ℕ → Row) (ns : List ℕ) → Each (λ n. (row n).no ≡ n) ns → numbers (map row ns) ≡ ns
numbers-back row [] each = refl
numbers-back row (n ∷ ns) each = (λ k. each.0 k ∷ numbers-back row ns each.1 k)

module _ (s : Setting) (w : World) (ghost : Ghost) (inv : InvWith s (view s w) ghost) (at : ℕ) (can : CanSee w at) where
  abbrev v : View
  v = view s w

  abbrev blocks : CellBlocks
  blocks = blocks_seen s v

  abbrev gate : Gate
  gate = gate_in (w.cells at)

  abbrev gate_cell : w.cells at ≡ GateCell gate
  gate_cell = has-gate (w.cells at) can.gate

  abbrev table : Table
  table = table_of s v.row

  abbrev g0 : Shape
  g0 = ghost.shape at

  whole : IsWhole v.gates v.phases v.pins at
  whole = (can.gate, inl can.stands)

  -- Who is at no part carries no row.
  settled : (r : ℕ) → g0.placed r ≡ true → g0.carried r ≡ false
  settled r p = on_bool (g0.carried r)
      (λ q. let k = inv.turning.carried at r (λ none. let never : ◌≡◌ {A = Option Phase} (Some gate.phase) None = sym (ap phase_of gate_cell) ∙ none in absurd (cc)) p q in
      let never : ◌≡◌ {A = Option RowWay} None (Some k.2) = ap way_of (sym (can.quiet k.0)) ∙ k.3 in absurd (cc))
      (λ q. q)

  -- the cells of the tree are of the stock, so they are among those of the state
  known : (y : ℕ) → g0.inside y ≡ true → y < blocks.count
  known y inside = (inv.stocking.within y (on_bool (eqb y at)
      (λ q. subst (λ (z : ℕ). ghost.owner z ≢ NotOfStock) (sym (eqb-true _ _ q)) (λ o. (let never : AGate ≡ NotOfStock = sym (inv.stocking.gate at can.gate) ∙ o in cc)))
      (λ q o. let never : InTree at ≡ NotOfStock = sym (inv.stocking.tree at y whole inside (eqb-false _ _ q)).0 ∙ o in cc))).1

  -- a tree of the state, as a page reads it
  pub as-read : (g : Shape) → IsTree table (cells_at v.blocks v.trees at) g → IsTree table (cells_with at gate blocks) g
  as-read g tree =
      let same : cells_at v.blocks v.trees at ≡ record { gate_cell = at; gate = way_to_tree gate; block = v.blocks } = λ k. record { gate_cell = at; gate = way_in (gate_cell k); block = v.blocks } in
      let t : IsTree table (record { gate_cell = at; gate = way_to_tree gate; block = v.blocks }) g = subst (λ (c : TreeCells). IsTree table c g) same tree in
      record {
        tree = t.tree;
        top = t.top;
        some = t.some;
        height = t.height;
        level = t.level;
        only = t.only;
        entered = t.entered;
        heads = t.heads;
        alone = t.alone;
        numbered = t.numbered;
        blocks = t.blocks;
      }

  pub still : IsStill table at gate blocks g0
  still = record { tree = as-read g0 (inv.growing.tree at whole); settled = settled; known = known }

  pub tall : 0 < gate.height
  tall = still.tree.some

  -- the numbers of the tree's rows, and the rows

  abbrev ns : List ℕ
  ns = g0.below gate.root

  all-placed : (r : ℕ) → times r ns ≡ cond (g0.placed r) 1 0
  all-placed r = root-times table at gate blocks g0 still r

  all-numbered : Each (λ n. (v.row n).no ≡ n) ns
  all-numbered = each-times (λ n. (v.row n).no ≡ n) ns (λ n k. on_bool (g0.placed n)
      (λ p. (still.tree.numbered n p).0)
      (λ p. let none : times n ns ≡ 0 = all-placed n ∙ (rw p refl) in absurd (omega arith)))

  abbrev pub tree_rows : List Row
  tree_rows = map v.row ns

  -- the rows that the shard has
  abbrev has-rows-of : (x : ℕ) → v.gates at ≡ Some x → HasRows s v x tree_rows gate.queue.rows
  has-rows-of x e = record {
    gate = at;
    is_gate = e;
    stands = can.stands;
    queue_is = ap (λ (c : CellValue). (queue_in c).rows) gate_cell;
    named = each-made (λ n. (v.row n).no ≡ n) (λ (r : Row). v.row r.no ≡ r) v.row ns (λ n e. ap v.row e) all-numbered;
    tree_is = λ g tree r. ap (times r) (numbers-back v.row ns all-numbered) ∙ same-placed table at gate blocks g0 g still (as-read g tree) r;
  }

  pub has-rows : (x : ℕ) → v.gates at ≡ Some x → HasRows s v x tree_rows gate.queue.rows
  has-rows x e = has-rows-of x e

  pub tree-sums : IsSummaryOf s.hierarchy tree_rows gate.agg gate.set
  tree-sums = gate-sum table (cells_with at gate blocks) g0 still.tree ns all-placed

  pub queue-is : IsQueueOf s.hierarchy gate.queue
  queue-is = subst (IsQueueOf s.hierarchy) (ap queue_in gate_cell) (inv.queueing.queue at can.gate)

  pub shown-seen : (shown : TreePage) → ShowsTree gate blocks shown → SeesTree s v shown
  shown-seen shown shows = record {
    tree = tree_rows;
    queue = gate.queue.rows;
    has = has-rows-of shown.shard (ap gate_shard gate_cell ∙ ap Some (sym shows.shard));
    is_page = shows.page table at g0 still ns all-placed;
    height = shows.height ∙ sym (ap (λ (c : CellValue). (way_in c).height) gate_cell);
    nodes = shows.nodes ∙ sym (ap (λ (c : CellValue). lines blocks ((way_in c).height - 1) 0 (root_entry (way_in c))) gate_cell);
  }

-- The same of whatever state is seen.
module _ (state : StateValue) (many at : ℕ) where
  pub seen-in : CanSeeIn state many at → (shown : TreePage) → ShowsTree (gate_in (cells_in state at)) (blocks_of many (cells_in state)) shown → IsSeenIn state shown
  seen-in can shown shows s w is inv =
      let k = can s w is inv in
      shown-seen s w inv.ghost_of inv.holds at k.1 shown
      (subst (λ (n : ℕ). ShowsTree (gate_in (w.cells at)) (blocks_of n w.cells) shown) (sym k.0)
      (subst (λ (cells : ℕ → CellValue). ShowsTree (gate_in (cells at)) (blocks_of many cells) shown) is.cells shows))

  module _ (valid : (h : List Dimension) × IsValid h state) (can : CanSeeIn state many at) where
    abbrev seen : CanSee valid.1.world at
    seen = (can valid.1.setting valid.1.world valid.1.is valid.1.inv).1

    pub gate-seen : IsSome (gate_shard (cells_in state at))
    gate-seen = subst (λ (cells : ℕ → CellValue). IsSome (gate_shard (cells at))) (sym valid.1.is.cells) seen.gate

    pub tall-seen : 0 < (gate_in (cells_in state at)).height
    tall-seen = subst (λ (cells : ℕ → CellValue). 0 < (gate_in (cells at)).height) (sym valid.1.is.cells) (tall valid.1.setting valid.1.world valid.1.inv.ghost_of valid.1.inv.holds at seen)

    pub of-gate : (shown : TreePage) → shown.shard ≡ (gate_in (cells_in state at)).shard → IsOfGate state at shown
    of-gate shown shard = ap gate_shard (has-gate (cells_in state at) gate-seen) ∙ ap Some (sym shard)
