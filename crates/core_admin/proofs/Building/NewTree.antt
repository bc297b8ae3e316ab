-- A tree that a job has built: its blocks are in their cells, and a new gate leads to it.
use Rattle.std.proofs.{Common.{◌≡◌, ◌≢◌, ℕ, ◌≤◌, Bool, true, false, cond, eqb, List, [], ◌∷◌, map, Contains, refl, sym, ap, ◌∙◌, subst, inl, inr, arith, zero, suc}, lemmas.Bool.{eqb-true, eqb-false}}
use Rattle.cell_stock.specs.{Stock.{PurseValue, cells_of}, declared.purse.Spare.Spare}
use Rattle.dim_hierarchy.specs.{Dimension.Dimension, declared.row.Row.Row}
use Rattle.dc_node.specs.{Block.entries_in, Summary.coords, declared.block.Block.Block, declared.entry.Entry.Entry}
use Rattle.describing_set.specs.DescSet.{IsSetOf}
use Rattle.core_tree.specs.link_descent.specs.declared.entered.Fresh.{Fresh}
use Rattle.core_tree.specs.shard_build.specs.{Building.{spare_of, spare_to}, Built.{IsBuilt, IsInCells, root_of}, declared.builder.Built.Built}
use Rattle.core_tree.specs.shard_store.specs.{Gate.root_entry, declared.gate.Gate.Gate}
use Rattle.list_words.specs.Counts.{Among, Each, times}
use Rattle.list_words.proofs.{Each.{each-map, each-all, each-left, each-right, each-among}, Elements.Contains-nil, Times.{same_is, same_not}, Truth.on_bool}
use Rattle.core_tree.specs.tree_shape.specs.{Forest.{AfterBuilding, AreInCells, AreRowsOf, all_entries, filled_cells}, Laws.GateLaw, Shape.{Shape, nodes, numbers}, Trees.IsTree}
use Rattle.core_tree.specs.volap_cell.specs.{AdminKinds.{IsGateFor, tree_of, spent_by}, Cells.way_to_tree, Ghost.{Ghost, InPurse, Owner, is_in_job}, Growing.table_of, Setting.Setting, Stocking.{cells_at, spent_of}, View.View, declared.job.BuiltTree.BuiltTree}

-- the cells of spent spares are those of the blocks
pub cells-spent : (fs : List Fresh) → cells_of (spent_by fs) ≡ filled_cells fs
cells-spent [] = refl
cells-spent (f ∷ fs) = ap (λ (ys : List ℕ). f.cell ∷ ys) (cells-spent fs)

pub contains-among : (z : Spare) (fs : List Fresh) → Contains (map spare_of fs) z → Among z (spent_by fs)
contains-among z [] has = absurd (Contains-nil z has)
contains-among z (f ∷ fs) (zero, k, is) = inl (sym is)
contains-among z (f ∷ fs) (suc j, k, is) = inr (contains-among z fs (j, omega (arith, k), is))

-- a cell among those of blocks has one of them
pub fresh-at : (y : ℕ) (fs : List Fresh) → 1 ≤ times y (filled_cells fs) → (f : Fresh) × Among f fs × (f.cell ≡ y)
fresh-at y [] some = absurd (omega (arith, some))
fresh-at y (f ∷ fs) some = (let later = fresh-at y fs in on_bool (eqb y f.cell)
    (λ q. (f, inl refl, sym (eqb-true y f.cell q)))
    (λ q. let none = same_not y f.cell (eqb-false y f.cell q) in let o = later (omega (arith, some, none)) in (o.0, inr o.1, o.2)))

-- what holds of the entries of all blocks holds of those of one
entries-of : (P : Entry → Type 0) (f : Fresh) (fs : List Fresh) → Each P (all_entries fs) → Among f fs → Each P (entries_in f.block.body)
entries-of P f [] e m = absurd m
entries-of P f (x ∷ fs) e m = elim m [
  | inl is ↦ subst (λ (z : Fresh). Each P (entries_in z.block.body)) (sym is) (each-left P (entries_in x.block.body) (all_entries fs) e)
  | inr more ↦ entries-of P f fs (each-right P (entries_in x.block.body) (all_entries fs) e) more
]

pub is-true : (a : Bool) (k : ℕ) → 1 ≤ cond a k 0 → a ≡ true
is-true true k le = refl
is-true false k le = absurd (omega (arith, le))

-- What is known of it: it has these rows, none of them carried, and the gate's cell and the blocks' cells, no others; each entry has
-- the stamp of a spare that the job has spent.
pub record IsNewTree (s : Setting) (v : View) (n : ℕ) (blocks : ℕ → Block) (trees : ℕ → Gate) (y : ℕ) (filled rows : List ℕ) : Type 0 where
  pub shape : Shape
  pub tree : IsTree (table_of s v.row) (cells_at blocks trees y) shape
  pub placed : (r : ℕ) → times r rows ≡ cond (shape.placed r) 1 0
  pub settled : (r : ℕ) → shape.carried r ≡ false
  pub filled_in : (z : ℕ) → shape.inside z ≡ true → z ≢ y → 1 ≤ times z filled
  pub in_filled : (z : ℕ) → 1 ≤ times z filled → shape.inside z ≡ true
  pub leads : (z : ℕ) → shape.inside z ≡ true → Each (λ (e : Entry). (k : Spare) × Among k (spent_of (v.jobs n)) × (e.stamp ≡ k.stamp)) (nodes (cells_at blocks trees y) z).entries

-- rows have their numbers' rows
rows-back : (row : ℕ → Row) (rows : List Row) → Each (λ (r : Row). row r.no ≡ r) rows → map row (numbers rows) ≡ rows
rows-back row [] named = refl
rows-back row (r ∷ rows) named = (let rest = rows-back row rows named.1 in λ k. named.0 k ∷ rest k)

-- the gate's set is that of the rows
pub tree-set : {s : Setting} {v : View} {n : ℕ} {blocks : ℕ → Block} {trees : ℕ → Gate} {y : ℕ} {filled : List ℕ} (rows : List Row) → GateLaw → IsNewTree s v n blocks trees y filled (numbers rows) → Each (λ (r : Row). v.row r.no ≡ r) rows
    → IsSetOf s.hierarchy (coords rows) (trees y).set
tree-set {s} {v} {n} {blocks} {trees} {y} {filled} rows gates t named = subst (λ (xs : List Row). IsSetOf s.hierarchy (coords xs) (trees y).set) (rows-back v.row rows named)
    (gates (table_of s v.row) (cells_at blocks trees y) t.shape t.tree (numbers rows) t.placed).set_of

-- a new gate leads to the tree for which it was made
pub leads-to : (h : List Dimension) (shard : ℕ) (t : BuiltTree) (tree : Built) (queued : List Row) (gate c : Gate) → c ≡ way_to_tree gate → IsGateFor h shard t queued gate → t ≡ tree_of tree → (root_entry c ≡ root_of tree) × (c.height ≡ tree.height)
leads-to h shard t tree queued gate c is made same = (
  ap root_entry is ∙ (λ k. record { child = made.root k; stamp = made.stamp k; agg = made.agg k; set = made.set k }) ∙ (λ k. record { child = (same k).root; stamp = (same k).stamp; agg = (same k).agg; set = (same k).set }),
  ap (λ (z : Gate). z.height) is ∙ made.height ∙ ap (λ (z : BuiltTree). z.height) same,
)

module _ (s : Setting) (v : View) (g : Ghost) (n : ℕ) (blocks : ℕ → Block) (trees : ℕ → Gate) (y : ℕ) (tree : Built) (rows : List Row) (before now : PurseValue) (built : IsBuilt s.hierarchy rows before now tree)
    (own : g.owner y ≡ InPurse n) (few : (z : ℕ) → times z (filled_cells tree.blocks.items) ≤ cond (is_in_job n (g.owner z)) 1 0) (spent : (k : Spare) → Contains (map spare_of tree.blocks.items) k → Among k (spent_of (v.jobs n)))
    (stand : AreInCells blocks tree.blocks.items) (root : root_entry (trees y) ≡ root_of tree) (height : (trees y).height ≡ tree.height) (are_rows : AreRowsOf (table_of s v.row) rows) where
  in-cells : IsInCells (cells_at blocks trees y) tree
  in-cells = record {
    blocks = stand;
    apart = λ z. let k = few z in on_bool (eqb z y)
        (λ q.
        let is = eqb-true z y q in
        let none : ◌≡◌ {A = ℕ} (cond (is_in_job n (g.owner z)) 1 0) 0 = ap (λ (o : Owner). cond (is_in_job n o) 1 0) (ap g.owner is ∙ own) in
        let one = same_is z y is in omega (arith, k, none, one))
        (λ q. let none = same_not z y (eqb-false z y q) in let most = one-or-none (is_in_job n (g.owner z)) in omega (arith, k, none, most));
    root = root;
    height = height;
  }
    where
      one-or-none : (a : Bool) → cond a 1 0 ≤ 1
      one-or-none true = omega arith
      one-or-none false = omega arith

  law : AfterBuilding (table_of s v.row) (cells_at blocks trees y) (filled_cells tree.blocks.items) (numbers rows)
  law = built.tree (table_of s v.row) (cells_at blocks trees y) refl are_rows in-cells

  filled-in : (z : ℕ) → law.shape.inside z ≡ true → z ≢ y → 1 ≤ times z (filled_cells tree.blocks.items)
  filled-in z inside ne =
      let all = law.inside z in
      let one : ◌≡◌ {A = ℕ} (cond (law.shape.inside z) 1 0) 1 = ap (λ (k : Bool). cond k 1 0) inside in
      let off = same_not z y ne in omega (arith, all, one, off)

  pub new-tree : IsNewTree s v n blocks trees y (filled_cells tree.blocks.items) (numbers rows)
  new-tree = record {
    shape = law.shape;
    tree = law.tree;
    placed = law.placed;
    settled = law.settled;
    filled_in = filled-in;
    in_filled = λ z some. let all = law.inside z in is-true (law.shape.inside z) 1 (omega (arith, all, some));
    leads = λ z inside. on_bool (eqb z y)
        (λ q. rw q ((spare_to (root_of tree), spent (spare_to (root_of tree)) built.root, ap (λ (e : Entry). e.stamp) root), tt))
        (λ q.
        let f = fresh-at z tree.blocks.items (filled-in z inside (eqb-false z y q)) in
        let block : blocks z ≡ f.0.block = ap blocks (sym f.2) ∙ each-among (λ (k : Fresh). blocks k.cell ≡ k.block) f.0 tree.blocks.items stand f.1 in
        let led = entries-of (λ (e : Entry). Contains (map spare_of tree.blocks.items) (spare_to e)) f.0 tree.blocks.items (each-all (λ (e : Entry). Contains (map spare_of tree.blocks.items) (spare_to e)) (all_entries tree.blocks.items) built.led) f.1 in
        rw q (subst (λ (k : Block). Each (λ (e : Entry). (z : Spare) × Among z (spent_of (v.jobs n)) × (e.stamp ≡ z.stamp)) (entries_in k.body)) (sym block)
        (each-map (λ (e : Entry). Contains (map spare_of tree.blocks.items) (spare_to e)) (λ (e : Entry). (z : Spare) × Among z (spent_of (v.jobs n)) × (e.stamp ≡ z.stamp)) (entries_in f.0.block.body)
        (λ e has. (spare_to e, spent (spare_to e) has, refl)) led)));
  }
