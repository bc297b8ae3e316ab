-- The trees of an opening: each gate stands over an empty leaf.
use Rattle.std.proofs.{Common.{◌≡◌, ◌≢◌, ◌∙◌, ℕ, ◌<◌, inl, inr, true, false, [], refl, sym, ap, subst}, lemmas.Bool.{cases_eq, false≢true, true≢false}}
use Rattle.std.specs.Prelude.{None, IsSome}
use Rattle.describing_set.specs.{DescSet.IsSetOf, declared.set.DescSet.DescSet}
use Rattle.shard_build.specs.shard_store.specs.declared.gate.Gate.{Gate}
use Rattle.shard_build.specs.tree_shape.specs.{Shape.{Shape, TreeCells}, Steps.{AfterOpening, OpensOver}, Trees.{IsTree, leaf_without_rows}}
use Rattle.shard_build.specs.tree_shape.proofs.{Building.Openings.opening-law, Whole.Totals.leads-root}
use Rattle.volap_cell.specs.{Cells.{block_in, way_in, way_to_tree}, Ghost.Ghost, Growing.table_of, Numbering.IsSetting, Opening.IsOpening, Setting.Setting, Stocking.cells_at, View.{View, view}, World.World}
use Rattle.volap_cell.proofs.{FirstState.Cells.{IsOther, IsSpare, IsGateOf, IsRootOf, block-owned, seek, seek-found, seek-within}, FirstState.Found.{found, owner_at}}

module _ (s : Setting) (w : World) (set : IsSetting s) (o : IsOpening s w) where
  abbrev pub v : View
  v = view s w

  -- the tree of a worker's first shard
  abbrev pub cells : ℕ → TreeCells
  cells i = cells_at v.blocks v.trees (o.gate i)

  way-at : (i : ℕ) (low : i < s.workers) → v.trees (o.gate i) ≡ way_to_tree (o.shards i low).gate
  way-at i low = ap way_in (o.shards i low).in_cell

  pub root-at : (i : ℕ) → i < s.workers → (v.trees (o.gate i)).root ≡ o.root i
  root-at i low = ap (λ (g : Gate). g.root) (way-at i low) ∙ (o.shards i low).is_new.root_is

  pub leaf-at : (i : ℕ) (low : i < s.workers) → v.blocks (v.trees (o.gate i)).root ≡ leaf_without_rows i
  leaf-at i low = ap v.blocks (root-at i low) ∙ ap block_in (o.shards i low).root

  opens : (i : ℕ) (low : i < s.workers) → OpensOver (table_of s v.row) (cells i) (leaf_without_rows i)
  opens i low =
      let d = o.shards i low in
      record {
        root = leaf-at i low;
        apart = λ e. d.apart (sym e ∙ root-at i low);
        stamp = ap (λ (g : Gate). g.stamp) (way-at i low) ∙ d.is_new.stamp_is;
        height = ap (λ (g : Gate). g.height) (way-at i low) ∙ d.is_new.height_is;
        agg = ap (λ (g : Gate). g.agg) (way-at i low) ∙ d.is_new.agg_is;
        set = subst (λ (x : DescSet). IsSetOf s.hierarchy [] x) (sym (ap (λ (g : Gate). g.set) (way-at i low) ∙ d.is_new.set_is)) d.empty;
      }

  pub opened : (i : ℕ) → i < s.workers → AfterOpening (table_of s v.row) (cells i)
  opened i low = opening-law i [] refl (table_of s v.row) (cells i) (opens i low)

  abbrev pub worker_at : ℕ → ℕ
  worker_at c = seek o.gate s.workers c

  pub worker-low : (c : ℕ) → worker_at c < s.workers
  worker-low c = seek-within o.gate s.workers c set.workers

  abbrev pub shape_at : ℕ → Shape
  shape_at c = (opened (worker_at c) (worker-low c)).shape

  -- the ghost beside an opening
  abbrev pub ghost : Ghost
  ghost = record { owner = owner_at s w set o; gate = o.gate; shape = shape_at; placed = λ r. false; home = λ r. 0; path = λ r. []; counted = λ server x. [] }

  pub none-there : (c r : ℕ) → (shape_at c).placed r ≡ false
  none-there c r = (opened (worker_at c) (worker-low c)).empty r

  none-some : (c : ℕ) → v.gates c ≡ None → IsSome (v.gates c) → ⊥
  none-some c none some = false≢true (subst IsSome none some)

  -- a cell with a gate is a worker's
  pub is-gate : (c : ℕ) → IsSome (v.gates c) → (i : ℕ) × (i < s.workers) × (o.gate i ≡ c)
  is-gate c some = elim (found s w set o c) [
    | IsOther out a b none ↦ absurd (none-some c none.gate some)
    | IsSpare a b d e none ↦ absurd (none-some c none.gate some)
    | IsGateOf i low is a b d e ↦ (i, low, is)
    | IsRootOf i low is a b d e none ↦ absurd (none-some c none.gate some)
  ]

  -- a cell with a block is a worker's root, whose stamp is the worker's number
  pub is-root : (y : ℕ) → v.made y ≡ true → (i : ℕ) × (i < s.workers) × (o.root i ≡ y) × ((v.blocks y).stamp ≡ i)
  is-root y made =
      let owned = block-owned s o.gate o.root y (w.cells y) made in
      elim (found s w set o y) [
        | IsOther out own a none ↦ absurd (let never : ⊥ = cc in never)
        | IsSpare a b own d none ↦ absurd (let never : ⊥ = cc in never)
        | IsGateOf i low is a b own d ↦ absurd (let never : ⊥ = cc in never)
        | IsRootOf i low is a b own d none ↦ (i, low, is, ap (λ (k : ℕ). (v.blocks k).stamp) (sym is) ∙ ap (λ c. (block_in c).stamp) (o.shards i low).root)
      ]

  worker-found : (c : ℕ) → IsSome (v.gates c) → o.gate (worker_at c) ≡ c
  worker-found c some = let g = is-gate c some in seek-found o.gate s.workers c g.0 g.1 g.2

  pub tree-at : (c : ℕ) → IsSome (v.gates c) → IsTree (table_of s v.row) (cells_at v.blocks v.trees c) (shape_at c)
  tree-at c some = subst (λ (k : ℕ). IsTree (table_of s v.row) (cells_at v.blocks v.trees k) (shape_at c)) (worker-found c some) (opened (worker_at c) (worker-low c)).tree

  -- in a tree there are the gate and the root
  pub inside-root : (c y : ℕ) → IsSome (v.gates c) → (shape_at c).inside y ≡ true → y ≢ c → y ≡ (v.trees c).root
  inside-root c y some inside off =
      let at = worker-found c some in
      elim (cases_eq y (v.trees (o.gate (worker_at c))).root) [
        | inl here ↦ here ∙ ap (λ (k : ℕ). (v.trees k).root) at
        | inr other ↦ absurd (true≢false (sym inside ∙ (opened (worker_at c) (worker-low c)).others y (λ e. off (e ∙ at)) other))
      ]

  pub root-inside : (c : ℕ) → IsSome (v.gates c) → (shape_at c).inside (v.trees c).root ≡ true
  root-inside c some = (leads-root (table_of s v.row) (cells_at v.blocks v.trees c) (shape_at c) (tree-at c some)).inside
