-- Where all blocks of the administrator's job are in their cells, spares are left for the gates: one after a move, and two after a split.
use Rattle.std.proofs.{Common.{◌≡◌, ◌∙◌, ℕ, ◌+◌, ◌≤◌, List, ◌++◌, length, map, take, Option, Some, None, sym, ap, inl, inr, arith}, lemmas.List.{length-append, length-map, length-take-le}}
use Rattle.std.specs.Prelude.{IsSome}
use Rattle.cell_stock.specs.declared.purse.Spare.{Spare}
use Rattle.core_steps.specs.core_admin.proofs.{Building.BuildsHere.PartsFit, Building.MadeTrees.sides-count, Collecting.FrozenGates.{IsGateOf, frozen-gate}}
use Rattle.describing_set.specs.declared.plane.Plane.{Plane}
use Rattle.dim_hierarchy.specs.declared.row.Row.{Row}
use Rattle.link_descent.specs.declared.entered.Fresh.{Fresh}
use Rattle.measure_agg.specs.Aggregate.{Aggregate}
use Rattle.shard_plan.specs.Building.{cells_for, split_need}
use Rattle.core_steps.specs.shard_store.specs.declared.gate.Phase.TheVariants as phase
use Rattle.core_steps.specs.tree_shape.specs.{Collecting.AfterCollecting, Laws.CollectEndLaw, Shape.numbers}
use Rattle.core_steps.specs.volap_cell.specs.{AdminKinds.{cells_needed, left_of, right_of, spent_by, spent_in, tree_of}, Ghost.Ghost, Growing.table_of, Invariant.InvWith, Setting.Setting, Steps.Inv, Stocking.cells_at, Values.{BuildingValue, Builds, JobValue, StageValue}, View.{View, view}, Working.{IsBuilding, IsFrozenFor, frozen_in}, World.World, declared.job.BuiltTree.BuiltTree}

none-some : (o : Option Plane) → o ≡ None → IsSome o → ⊥
none-some None is some = cc
none-some (Some p) is some = cc

module _ (s : Setting) (w : World) (inv : Inv s w) (n : ℕ) (ends : CollectEndLaw) (x : JobValue) (is_job : (w.actors n).job ≡ Some x) (b : BuildingValue) (stage : x.stage ≡ Builds b) where
  abbrev v : View
  v = view s w

  abbrev g : Ghost
  g = inv.ghost_of

  abbrev i : InvWith s (view s w) inv.ghost_of
  i = inv.holds

  abbrev gate : ℕ
  gate = b.frozen.gate

  on : frozen_in x.stage ≡ Some b.frozen
  on = ap frozen_in stage

  abbrev was : IsBuilding s v.history v.blocks v.made v.trees v.queues v.phases v.active g.shape (w.actors n).purse b
  was = i.working.building n x b is_job stage

  abbrev its : IsFrozenFor s v.trees v.phases g.gate (w.actors n).purse x b.frozen
  its = i.working.frozen n x b.frozen is_job on

  gate-is : IsGateOf s v g x.shard x.worker b.frozen.gate
  gate-is = frozen-gate s v g i n x is_job b.frozen on

  -- the rows of the new trees
  abbrev rows : List Row
  rows = was.at_blocks ++ take was.upto (v.queues gate).rows

  ended : AfterCollecting (table_of s v.row) (cells_at v.blocks v.trees gate) (g.shape gate) b.read (numbers was.at_blocks)
  ended = ends (table_of s v.row) (cells_at v.blocks v.trees gate) (g.shape gate) b.read (numbers was.at_blocks) gate-is.tree was.read

  -- they are as many as were counted when the shard was frozen
  rows-count : length rows ≡ b.frozen.rows
  rows-count =
      let upto : its.upto ≡ was.upto = (let both : Some (phase.Frozen its.upto) ≡ Some (phase.Frozen was.upto) = sym its.phase_is ∙ was.phase_is in cc) in
      let within = i.queueing.upto gate was.upto was.phase_is in
      let parts = length-append was.at_blocks (take was.upto (v.queues gate).rows) in
      let first = length-take-le was.upto (v.queues gate).rows within in
      let told : (v.trees gate).agg.count ≡ length (map v.row (numbers was.at_blocks)) = ap (λ (z : Aggregate). z.count) ended.summary.agg in
      let long = length-map (numbers was.at_blocks) v.row in
      let longer = length-map was.at_blocks (λ (r : Row). r.no) in
      let frozen = its.rows in
      omega (arith, upto, parts, first, told, long, longer, frozen)

  -- of the cells that the job needs, each block has got one
  abbrev blocks : List Fresh
  blocks = b.unbuilt ++ was.built

  left-over : length (w.actors n).purse + length blocks ≡ cells_needed x.to b.frozen.rows
  left-over =
      let all = its.cells in
      let here : length (spent_in x.stage) ≡ length b.spent = ap (λ (st : StageValue). length (spent_in st)) stage in
      let spent : length b.spent ≡ length (spent_by blocks) = ap (λ (xs : List Spare). length xs) was.trees_are.spent in
      let each = length-map {B = Spare} blocks (λ (f : Fresh). record { cell = f.cell; stamp = f.block.stamp }) in
      omega (arith, all, here, spent, each)

  -- A move.

  module _ (to : ℕ) (to_is : x.to ≡ Some to) where
    one-tree : length blocks ≡ cells_for (length rows)
    one-tree = elim was.trees_are.built [
      | inl one ↦ ap (λ (fs : List Fresh). length fs) one.1.4 ∙ (one.1.1).count
      | inr two ↦ absurd (let never : None ≡ Some two.0 = sym (its.move to to_is) ∙ two.1 in cc)
    ]

    pub one-left : length (w.actors n).purse ≡ 1
    one-left =
        let all = left-over in
        let need : cells_needed x.to b.frozen.rows ≡ 1 + cells_for b.frozen.rows = ap (λ (t : Option ℕ). cells_needed t b.frozen.rows) to_is in
        let used : length blocks ≡ cells_for b.frozen.rows = one-tree ∙ ap cells_for rows-count in
        omega (arith, all, need, used)

  -- A split.

  -- the two trees, and how many blocks they have
  pub record AreTwo : Type 0 where
    pub plane : Plane
    pub divided : b.frozen.plane ≡ Some plane
    pub right_tree : BuiltTree
    pub right_is : b.right ≡ Some right_tree
    pub count : length blocks ≡ cells_for (length (left_of s.hierarchy plane rows)) + cells_for (length (right_of s.hierarchy plane rows))

  module _ (to_is : x.to ≡ None) where
    pub two-trees : AreTwo
    two-trees = elim was.trees_are.built [
      | inl one ↦ absurd (none-some b.frozen.plane one.0 (its.split to_is))
      | inr t ↦
          let trees = t.2 in
          record {
            plane = t.0;
            divided = t.1;
            right_tree = tree_of trees.1;
            right_is = trees.6;
            count = ap (λ (fs : List Fresh). length fs) trees.7 ∙ length-append trees.0.blocks.items trees.1.blocks.items ∙ (λ k. (trees.3).count k + (trees.4).count k);
          }
    ]

    pub two-left : PartsFit → 2 ≤ length (w.actors n).purse
    two-left fits =
        let all = left-over in
        let need : cells_needed x.to b.frozen.rows ≡ split_need b.frozen.rows = ap (λ (t : Option ℕ). cells_needed t b.frozen.rows) to_is in
        let used = two-trees.count in
        let left = length (left_of s.hierarchy two-trees.plane rows) in
        let right = length (right_of s.hierarchy two-trees.plane rows) in
        let fit = fits left right in
        let same : split_need (left + right) ≡ split_need b.frozen.rows = ap split_need (sides-count s.hierarchy two-trees.plane rows ∙ rows-count) in
        omega (arith, all, need, used, fit, same)
