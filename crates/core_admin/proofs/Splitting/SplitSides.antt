-- The two trees of a job that splits a shard, once all their blocks are in their cells: of the rows on either side of the plane, with
-- cells of the job, and with valid sets.
use Rattle.std.proofs.{Common.{◌≡◌, ℕ, ◌+◌, ◌≤◌, Bool, true, false, not, cond, List, [], ◌∷◌, ◌++◌, map, filter, Some, None, Contains, refl, sym, ap, ◌∙◌, subst, inl, inr, arith}, lemmas.Bool.{false≢true}, lemmas.List.map-append, lemmas.List.Elements.All-map}
use Rattle.cell_stock.specs.{Stock.{PurseValue, cells_of}, declared.purse.Spare.Spare}
use Rattle.dc_node.specs.Summary.{coords}
use Rattle.describing_set.specs.{Plane.goes_left, Sets.IsDescSetOf, declared.plane.Plane.Plane}
use Rattle.dim_hierarchy.specs.{Row.IsCoordOf, Rows.IsRowOf, declared.row.Row.Row}
use Rattle.core_tree.specs.link_descent.specs.declared.entered.Fresh.{Fresh}
use Rattle.core_tree.specs.shard_build.specs.{Building.spare_of, Built.IsBuilt, declared.builder.Built.Built}
use Rattle.core_tree.specs.shard_store.specs.{declared.gate.Gate.Gate, declared.gate.Phase.TheVariants.Frozen}
use Rattle.list_words.specs.Counts.{Among, Each, times}
use Rattle.list_words.proofs.{Each.{each-map, all-each, among-left, among-right, each-here, each-left, each-right, each-filter}, Times.{times-append, same_not}, Truth.on_bool}
use Rattle.core_tree.specs.tree_shape.specs.{Forest.{AreInCells, AreRowsOf, filled_cells}, Laws.{CollectEndLaw, GateLaw}, Shape.{Table, numbers}}
use Rattle.core_tree.specs.volap_cell.specs.{AdminKinds.{left_of, right_of, spent_by, tree_of}, Cells.GateCell, Ghost.{Ghost, InJob, InPurse, is_in_job}, Growing.table_of, Invariant.InvWith, Setting.Setting, Stocking.spent_of, Values.{BuildingValue, Builds, JobValue}, View.{View, view}, Working.IsBuilding, World.World, declared.job.BuiltTree.BuiltTree}
use Rattle.core_tree.specs.volap_cell.proofs.{Cells.Blanks.spent-owner, Cells.Spares.among-cells}
use Rattle.core_admin.proofs.{Building.BuildsBlock.among-spent, Building.NewTree.{cells-spent, contains-among, new-tree, tree-set}, Jobs.FinishedJob.{is-job-cell, once, rows, rows-named, rows-valid, spent-is, was}}

-- Sides of lists.

-- the rows that a test picks, where it tells their numbers apart
pub side-times : (p : Row → Bool) (side : ℕ → Bool) (rows : List Row) → Each (λ (x : Row). side x.no ≡ p x) rows → (q : ℕ) → times q (numbers (filter p rows)) ≡ cond (side q) (times q (numbers rows)) 0
side-times p side [] e q = on_bool (side q) (λ t. rw t refl) (λ t. rw t refl)
side-times p side (x ∷ rows) e q =
    let rest = side-times p side rows e.1 q in
    on_bool (side q)
    (λ t.
    let all : times q (numbers (filter p rows)) ≡ times q (numbers rows) = rest ∙ ap (λ (b : Bool). cond b (times q (numbers rows)) 0) t in
    on_bool (p x)
    (λ k. rw (k, t) (omega (arith, all)))
    (λ k. let off = same_not q x.no (λ is. false≢true (sym (ap side is ∙ e.0 ∙ k) ∙ t)) in rw (k, t) (omega (arith, all, off))))
    (λ t.
    let none : times q (numbers (filter p rows)) ≡ 0 = rest ∙ ap (λ (b : Bool). cond b (times q (numbers rows)) 0) t in
    on_bool (p x)
    (λ k. let off = same_not q x.no (λ is. false≢true (sym t ∙ ap side is ∙ e.0 ∙ k)) in rw (k, t) (omega (arith, none, off)))
    (λ k. rw (k, t) (omega (arith, none))))

at-most : (b : Bool) (k : ℕ) → cond b k 0 ≤ k
at-most true k = omega arith
at-most false k = omega arith

-- rows of a table, of which some are picked
pub picked-rows : (table : Table) (p : Row → Bool) (side : ℕ → Bool) (rows : List Row) → Each (λ (x : Row). side x.no ≡ p x) rows → Each (λ (x : Row). table.row x.no ≡ x) rows → Each (IsRowOf table.hierarchy) rows → ((q : ℕ) → times q (numbers rows) ≤ 1)
    → AreRowsOf table (filter p rows)
picked-rows table p side rows sides named valid once = record {
  named = all-each (λ (x : Row). table.row x.no ≡ x) (filter p rows) (each-filter (λ (x : Row). table.row x.no ≡ x) p rows named);
  valid = all-each (IsRowOf table.hierarchy) (filter p rows) (each-filter (IsRowOf table.hierarchy) p rows valid);
  once = λ q. let k = side-times p side rows sides q in let few = at-most (side q) (times q (numbers rows)) in let one = once q in omega (arith, k, few, one);
}

module _ (s : Setting) (w : World) (g : Ghost) (i : InvWith s (view s w) g) (n : ℕ) (job : JobValue) (building : BuildingValue) (has : (w.actors n).job ≡ Some job) (stage : job.stage ≡ Builds building) (in_cells : building.unbuilt ≡ [])
    (gate : Gate) (here : w.cells building.frozen.gate ≡ GateCell gate) (upto : ℕ) (frozen_at : gate.phase ≡ Frozen upto) (plane : Plane) (divided : building.frozen.plane ≡ Some plane) (right_tree : BuiltTree) (right_there : building.right ≡ Some right_tree) where
  abbrev pub v : View
  v = view s w

  abbrev is : IsBuilding s v.history v.blocks v.made v.trees v.queues v.phases v.active g.shape (v.purses n) building
  is = was s w g i n job building has stage in_cells gate here upto frozen_at

  abbrev old_rows : List Row
  old_rows = rows s w g i n job building has stage in_cells gate here upto frozen_at

  -- which side a row goes to
  abbrev pub side : ℕ → Bool
  side q = goes_left s.hierarchy plane (v.row q).at

  -- What was built.

  pub record AreTwo : Type 0 where
    pub left : Built
    pub right : Built
    pub between : PurseValue
    pub left_built : IsBuilt s.hierarchy (left_of s.hierarchy plane old_rows) is.purse_was between left
    pub right_built : IsBuilt s.hierarchy (right_of s.hierarchy plane old_rows) between is.purse_now right
    pub left_is : building.left ≡ tree_of left
    pub right_is : right_tree ≡ tree_of right
    pub built : is.built ≡ left.blocks.items ++ right.blocks.items

  pub two : AreTwo
  two =
      let all : building.unbuilt ++ is.built ≡ is.built = ap (λ (fs : List Fresh). fs ++ is.built) in_cells in
      elim is.trees_are.built [
        | inl t ↦ (let no : None ≡ Some plane = sym t.0 ∙ divided in cc)
        | inr t ↦
            let both : Some t.0 ≡ Some plane = sym t.1 ∙ divided in
            let cut : t.0 ≡ plane = cc in
            let trees = t.2 in
            let right_both : Some right_tree ≡ Some (tree_of trees.1) = sym right_there ∙ trees.6 in
            record {
              left = trees.0;
              right = trees.1;
              between = trees.2;
              left_built = subst (λ (p : Plane). IsBuilt s.hierarchy (left_of s.hierarchy p old_rows) is.purse_was trees.2 trees.0) cut trees.3;
              right_built = subst (λ (p : Plane). IsBuilt s.hierarchy (right_of s.hierarchy p old_rows) trees.2 is.purse_now trees.1) cut trees.4;
              left_is = trees.5;
              right_is = cc;
              built = sym all ∙ trees.7;
            }
      ]

  abbrev pub left_cells : List ℕ
  left_cells = filled_cells two.left.blocks.items

  abbrev pub right_cells : List ℕ
  right_cells = filled_cells two.right.blocks.items

  spent-here : spent_of (v.jobs n) ≡ spent_by (two.left.blocks.items ++ two.right.blocks.items)
  spent-here = spent-is s w g i n job building has stage in_cells gate here upto frozen_at ∙ ap spent_by two.built

  -- the cells of the new blocks are the job's
  pub job-cell : (z : ℕ) → times z left_cells + times z right_cells ≡ cond (is_in_job n (g.owner z)) 1 0
  job-cell z =
      let all : times z (filled_cells (two.left.blocks.items ++ two.right.blocks.items)) ≡ times z left_cells + times z right_cells =
      ap (times z) (map-append (λ (f : Fresh). f.cell) two.left.blocks.items two.right.blocks.items) ∙ times-append z left_cells right_cells in
      let its = ap (times z) (sym (ap cells_of spent-here ∙ cells-spent (two.left.blocks.items ++ two.right.blocks.items))) ∙ i.stocking.job n z in
      omega (arith, all, its)

  pub owner-filled : (z : ℕ) → 1 ≤ times z left_cells + times z right_cells → g.owner z ≡ InJob n
  owner-filled z some = (let k = job-cell z in is-job-cell n (g.owner z) (omega (arith, k, some)))

  pub spent-left : (k : Spare) → Contains (map spare_of two.left.blocks.items) k → Among k (spent_of (v.jobs n))
  spent-left k has = subst (Among k) (sym (spent-here ∙ map-append spent two.left.blocks.items two.right.blocks.items)) (among-left (spent_by two.left.blocks.items) (spent_by two.right.blocks.items) k (contains-among k two.left.blocks.items has))
    where
      spent : Fresh → Spare
      spent f = record { cell = f.cell; stamp = f.block.stamp }

  pub spent-right : (k : Spare) → Contains (map spare_of two.right.blocks.items) k → Among k (spent_of (v.jobs n))
  spent-right k has = subst (Among k) (sym (spent-here ∙ map-append spent two.left.blocks.items two.right.blocks.items)) (among-right (spent_by two.left.blocks.items) (spent_by two.right.blocks.items) k (contains-among k two.right.blocks.items has))
    where
      spent : Fresh → Spare
      spent f = record { cell = f.cell; stamp = f.block.stamp }

  pub own-blocks : Each (λ (f : Fresh). g.owner f.cell ≡ InJob n) is.built
  own-blocks = each-here (λ (f : Fresh). g.owner f.cell ≡ InJob n) is.built (λ f mine.
      let spare : Spare = record { cell = f.cell; stamp = f.block.stamp } in
      spent-owner s w g i n f.cell (among-cells spare (spent_of (v.jobs n))
      (subst (Among spare) (sym (spent-is s w g i n job building has stage in_cells gate here upto frozen_at)) (among-spent f is.built mine))))

  -- The rows of either.

  module _ (ends : CollectEndLaw) where
    pub named : Each (λ (q : Row). v.row q.no ≡ q) old_rows
    named = rows-named s w g i n job building has stage in_cells gate here upto frozen_at ends

    pub left-test : (rows : List Row) → Each (λ (q : Row). v.row q.no ≡ q) rows → Each (λ (q : Row). side q.no ≡ goes_left s.hierarchy plane q.at) rows
    left-test rows = each-map (λ (q : Row). v.row q.no ≡ q) (λ (q : Row). side q.no ≡ goes_left s.hierarchy plane q.at) rows (λ q is. ap (λ (z : Row). goes_left s.hierarchy plane z.at) is)

    pub right-test : (rows : List Row) → Each (λ (q : Row). v.row q.no ≡ q) rows → Each (λ (q : Row). not (side q.no) ≡ not (goes_left s.hierarchy plane q.at)) rows
    right-test rows = each-map (λ (q : Row). v.row q.no ≡ q) (λ (q : Row). not (side q.no) ≡ not (goes_left s.hierarchy plane q.at)) rows (λ q is. ap (λ (z : Row). not (goes_left s.hierarchy plane z.at)) is)

    pub left-rows : AreRowsOf (table_of s v.row) (left_of s.hierarchy plane old_rows)
    left-rows = picked-rows (table_of s v.row) (λ (q : Row). goes_left s.hierarchy plane q.at) side old_rows (left-test old_rows named) named
        (rows-valid s w g i n job building has stage in_cells gate here upto frozen_at ends) (once s w g i n job building has stage in_cells gate here upto frozen_at ends)

    pub right-rows : AreRowsOf (table_of s v.row) (right_of s.hierarchy plane old_rows)
    right-rows = picked-rows (table_of s v.row) (λ (q : Row). not (goes_left s.hierarchy plane q.at)) (λ q. not (side q)) old_rows (right-test old_rows named) named
        (rows-valid s w g i n job building has stage in_cells gate here upto frozen_at ends) (once s w g i n job building has stage in_cells gate here upto frozen_at ends)

    -- Their sets are valid: the trees are whole already, though no gate leads to them yet.

    module _ (gates : GateLaw) (y : ℕ) (own : g.owner y ≡ InPurse n) where
      abbrev stand : AreInCells v.blocks (two.left.blocks.items ++ two.right.blocks.items)
      stand = subst (AreInCells v.blocks) two.built (each-map (λ (f : Fresh). (v.blocks f.cell ≡ f.block) × (v.made f.cell ≡ true)) (λ (f : Fresh). v.blocks f.cell ≡ f.block) is.built (λ f both. both.0) is.in_cells)

      -- a gate that would lead to a tree
      abbrev gate_to : Built → ℕ → Gate
      gate_to t z = record gate { root = t.root; stamp = t.stamp; height = t.height; agg = t.agg; set = t.set }

      pub left-valid : IsDescSetOf s.hierarchy building.left.set
      left-valid =
          let t = new-tree s v g n v.blocks (gate_to two.left) y two.left (left_of s.hierarchy plane old_rows) is.purse_was two.between two.left_built own (λ z. let k = job-cell z in omega (arith, k)) spent-left
          (each-left (λ (f : Fresh). v.blocks f.cell ≡ f.block) two.left.blocks.items two.right.blocks.items stand) refl refl left-rows in
          subst (λ (z : BuiltTree). IsDescSetOf s.hierarchy z.set) (sym two.left_is) (record {
            hierarchy = i.numbering.setting.hierarchy;
            rows = coords (left_of s.hierarchy plane old_rows);
            valid = All-map (IsCoordOf s.hierarchy) (λ (x : Row). x.at) (left_of s.hierarchy plane old_rows) left-rows.valid;
            set_of = tree-set (left_of s.hierarchy plane old_rows) gates t (each-filter (λ (q : Row). v.row q.no ≡ q) (λ (q : Row). goes_left s.hierarchy plane q.at) old_rows named);
          })

      pub right-valid : IsDescSetOf s.hierarchy right_tree.set
      right-valid =
          let t = new-tree s v g n v.blocks (gate_to two.right) y two.right (right_of s.hierarchy plane old_rows) two.between is.purse_now two.right_built own (λ z. let k = job-cell z in omega (arith, k)) spent-right
          (each-right (λ (f : Fresh). v.blocks f.cell ≡ f.block) two.left.blocks.items two.right.blocks.items stand) refl refl right-rows in
          subst (λ (z : BuiltTree). IsDescSetOf s.hierarchy z.set) (sym two.right_is) (record {
            hierarchy = i.numbering.setting.hierarchy;
            rows = coords (right_of s.hierarchy plane old_rows);
            valid = All-map (IsCoordOf s.hierarchy) (λ (x : Row). x.at) (right_of s.hierarchy plane old_rows) right-rows.valid;
            set_of = tree-set (right_of s.hierarchy plane old_rows) gates t (each-filter (λ (q : Row). v.row q.no ≡ q) (λ (q : Row). not (goes_left s.hierarchy plane q.at)) old_rows named);
          })
