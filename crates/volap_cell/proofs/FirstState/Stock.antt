-- An opening meets the parts of the invariant that speak of cells, trees and queues.
use Rattle.std.proofs.{Common.{◌≡◌, ◌≢◌, ◌∙◌, ℕ, ◌<◌, ◌≤◌, inl, inr, true, cond, List, [], sym, ap, subst, arith}, lemmas.Bool.{cases_eq, false≢true}}
use Rattle.std.specs.Prelude.{IsSome, is_some}
use Rattle.cell_stock.specs.{Stock.{StockValue, cells_of}, declared.purse.Spare.Spare}
use Rattle.dc_node.specs.{declared.block.Block.Block, declared.entry.Entry.Entry}
use Rattle.shard_build.specs.shard_store.specs.Gate.{IsQueueOf}
use Rattle.list_words.specs.Counts.{Each, times}
use Rattle.shard_build.specs.tree_shape.specs.{Queries.NoneWaits, Shape.{Node, nodes, node_of}, Steps.{AreApart, AreSpares}, Trees.leaf_without_rows}
use Rattle.shard_build.specs.tree_shape.proofs.Whole.Assembled.{node-block, node-gate}
use Rattle.volap_cell.specs.{Cells.{has_block, queue_in, way_in}, Ghost.{Ghost, Owner, NotOfStock, Unused, AGate, InTree, is_unused, is_in_purse, is_in_job}, Growing.{Growing, Queueing, Resting}, Numbering.IsSetting, Opening.IsOpening, Querying.{Pinning, pins_of}, Setting.{Setting, actor_count, cell_count, first_stock_cell}, Stocking.{Stocking, Stamping, IsWhole, LeavesStamp, NoneExpects, all_items, all_spares, cells_at, spent_of}, Turning.{Turning, inside_of}, View.View, World.World}
use Rattle.volap_cell.proofs.{FirstState.Cells.{IsOther, IsSpare, IsGateOf, IsRootOf}, FirstState.Found.{found, owner-root}, FirstState.Shapes.{ghost, inside-root, is-gate, is-root, none-there, root-at, leaf-at, root-inside, tree-at}, FirstState.View.{v, gate-shard, items-none, job-none, no-read, no-way, not-frozen, not-gone, purse-none, quiet, read-none, spares-none, stock-is, sum-none, way-none}}

each-none : {A : Type 0} (P : A → Type 0) (xs : List A) → xs ≡ [] → Each P xs
each-none P xs none = subst (Each P) (sym none) tt

module _ (s : Setting) (w : World) (set : IsSetting s) (o : IsOpening s w) where
  abbrev vs : View
  vs = v s w set o

  abbrev g : Ghost
  g = ghost s w set o

  pub turning : Turning s vs.ways vs.purses vs.boxes vs.phases vs.active g.gate g.shape g.home
  turning = record {
    one = λ a b m n is is2 same. no-way s w set o a m is;
    carrying = λ a c y m is at. no-way s w set o a m is;
    in_leaf = λ a c m is at. no-way s w set o a m is;
    carried = λ c r some placed. absurd (false≢true (sym (none-there s w set o c r) ∙ placed));
    enough = λ a c y m is at. no-way s w set o a m is;
    boxed = λ a m is filled. no-way s w set o a m is;
    counts = λ c. (quiet s w set o c).active ∙ sym (sum-none (actor_count s) (λ a. inside_of c (vs.ways a)) (λ a. ap (inside_of c) (way-none s w set o a)));
  }

  -- The stock.

  unused : (y : ℕ) → times y o.stock.free ≡ cond (is_unused (g.owner y)) 1 0
  unused y = elim (found s w set o y) [
    | IsOther out own free none ↦ free ∙ sym (ap (λ (x : Owner). cond (is_unused x) 1 0) own)
    | IsSpare high low own free none ↦ free ∙ sym (ap (λ (x : Owner). cond (is_unused x) 1 0) own)
    | IsGateOf i l is high low own free ↦ free ∙ sym (ap (λ (x : Owner). cond (is_unused x) 1 0) own)
    | IsRootOf i l is high low own free none ↦ free ∙ sym (ap (λ (x : Owner). cond (is_unused x) 1 0) own)
  ]

  within : (y : ℕ) → g.owner y ≢ NotOfStock → (first_stock_cell s ≤ y) × (y < cell_count s)
  within y used = elim (found s w set o y) [
    | IsOther out own free none ↦ absurd (used own)
    | IsSpare high low own free none ↦ (high, low)
    | IsGateOf i l is high low own free ↦ (high, low)
    | IsRootOf i l is high low own free none ↦ (high, low)
  ]

  every : (y : ℕ) → first_stock_cell s ≤ y → y < cell_count s → g.owner y ≢ NotOfStock
  every y high low used = elim (found s w set o y) [
    | IsOther out own free none ↦ elim out [ inl before ↦ absurd (omega (arith, before, high)) | inr past ↦ absurd (omega (arith, past, low)) ]
    | IsSpare h l own free none ↦ (let never : Unused ≡ NotOfStock = sym own ∙ used in cc)
    | IsGateOf i l is h l2 own free ↦ (let never : AGate ≡ NotOfStock = sym own ∙ used in cc)
    | IsRootOf i l is h l2 own free none ↦ (let never : InTree (o.gate i) ≡ NotOfStock = sym own ∙ used in cc)
  ]

  -- no cell is an actor's
  in-purse : (a y : ℕ) → ◌≡◌ {A = ℕ} (cond (is_in_purse a (g.owner y)) 1 0) 0
  in-purse a y = elim (found s w set o y) [
    | IsOther out own free none ↦ ap (λ (x : Owner). cond (is_in_purse a x) 1 0) own
    | IsSpare high low own free none ↦ ap (λ (x : Owner). cond (is_in_purse a x) 1 0) own
    | IsGateOf i l is high low own free ↦ ap (λ (x : Owner). cond (is_in_purse a x) 1 0) own
    | IsRootOf i l is high low own free none ↦ ap (λ (x : Owner). cond (is_in_purse a x) 1 0) own
  ]

  in-job : (a y : ℕ) → ◌≡◌ {A = ℕ} (cond (is_in_job a (g.owner y)) 1 0) 0
  in-job a y = elim (found s w set o y) [
    | IsOther out own free none ↦ ap (λ (x : Owner). cond (is_in_job a x) 1 0) own
    | IsSpare high low own free none ↦ ap (λ (x : Owner). cond (is_in_job a x) 1 0) own
    | IsGateOf i l is high low own free ↦ ap (λ (x : Owner). cond (is_in_job a x) 1 0) own
    | IsRootOf i l is high low own free none ↦ ap (λ (x : Owner). cond (is_in_job a x) 1 0) own
  ]

  gate-owned : (c : ℕ) → IsSome (vs.gates c) → g.owner c ≡ AGate
  gate-owned c some = elim (found s w set o c) [
    | IsOther out own free none ↦ absurd (false≢true (subst IsSome none.gate some))
    | IsSpare high low own free none ↦ absurd (false≢true (subst IsSome none.gate some))
    | IsGateOf i l is high low own free ↦ own
    | IsRootOf i l is high low own free none ↦ absurd (false≢true (subst IsSome none.gate some))
  ]

  gate-some : (i : ℕ) → i < s.workers → IsSome (vs.gates (o.gate i))
  gate-some i l = ap is_some (gate-shard s w set o i l)

  owned-gate : (c : ℕ) → g.owner c ≡ AGate → IsSome (vs.gates c)
  owned-gate c is_owned = elim (found s w set o c) [
    | IsOther out own free none ↦ absurd (let never : ⊥ = cc in never)
    | IsSpare high low own free none ↦ absurd (let never : ⊥ = cc in never)
    | IsGateOf i l is high low own free ↦ subst (λ (k : ℕ). IsSome (vs.gates k)) is (gate-some i l)
    | IsRootOf i l is high low own free none ↦ absurd (let never : ⊥ = cc in never)
  ]

  -- the root of a gate's tree

  root-owned : (c y : ℕ) → IsSome (vs.gates c) → y ≡ (vs.trees c).root → (g.owner y ≡ InTree c) × (vs.made y ≡ true)
  root-owned c y some is =
      let i = is-gate s w set o c some in
      let here : y ≡ o.root i.0 = is ∙ sym (ap (λ (k : ℕ). (vs.trees k).root) i.2) ∙ root-at s w set o i.0 i.1 in
      subst (λ (k : ℕ). (g.owner k ≡ InTree c) × (vs.made k ≡ true)) (sym here)
      (owner-root s w set o i.0 i.1 ∙ ap InTree i.2, ap has_block (o.shards i.0 i.1).root)

  in-tree : (c y : ℕ) → g.owner y ≡ InTree c → IsSome (vs.gates c) × (IsWhole vs.gates vs.phases vs.pins c → ((g.shape c).inside y ≡ true) × (y ≢ c))
  in-tree c y is_owned = elim (found s w set o y) [
    | IsOther out own free none ↦ absurd (let never : ⊥ = cc in never)
    | IsSpare high low own free none ↦ absurd (let never : ⊥ = cc in never)
    | IsGateOf i l is high low own free ↦ absurd (let never : ⊥ = cc in never)
    | IsRootOf i l is high low own free none ↦
        let at : o.gate i ≡ c = cc in
        let some : IsSome (vs.gates c) = subst (λ (k : ℕ). IsSome (vs.gates k)) at (gate-some i l) in
        let here : (vs.trees c).root ≡ y = ap (λ (k : ℕ). (vs.trees k).root) (sym at) ∙ root-at s w set o i l ∙ is in
        (some, λ whole. (subst (λ (k : ℕ). (g.shape c).inside k ≡ true) here (root-inside s w set o c some), λ same. (o.shards i l).apart (at ∙ sym same ∙ sym is)))
  ]

  stocking-own : Stocking s o.stock vs.made vs.gates vs.phases vs.pins vs.gone vs.purses vs.jobs g.owner g.shape
  stocking-own = record {
    valid = o.valid;
    count = o.count;
    within = within;
    every = every;
    unused = unused;
    purse = λ a y. ap (λ (p : List Spare). times y (cells_of p)) (purse-none s w set o a) ∙ sym (in-purse a y);
    job = λ a y. ap (λ j. times y (cells_of (spent_of j))) (job-none s w set o a) ∙ sym (in-job a y);
    gate = gate-owned;
    gate_back = owned-gate;
    tree = λ c y whole inside off. root-owned c y whole.0 (inside-root s w set o c y whole.0 inside off);
    tree_back = in-tree;
    gone_cells = λ c is y. absurd (not-gone s w set o c is);
    none_gone = λ c not. (quiet s w set o c).gone;
  }

  pub stocking : Stocking s vs.stock vs.made vs.gates vs.phases vs.pins vs.gone vs.purses vs.jobs g.owner g.shape
  stocking = subst (λ (x : StockValue). Stocking s x vs.made vs.gates vs.phases vs.pins vs.gone vs.purses vs.jobs g.owner g.shape) (sym (stock-is s w set o)) stocking-own

  -- Stamps.

  -- the one entry of a tree is the gate's, and its stamp is given out
  expected : (c stamp : ℕ) → IsSome (vs.gates c) → o.stock.stamps ≤ stamp → NoneExpects (g.shape c) (cells_at vs.blocks vs.trees c) stamp
  expected c stamp some high b l inside level =
      let cells = cells_at vs.blocks vs.trees c in
      let i = is-gate s w set o c some in
      let d = o.shards i.0 i.1 in
      let low = i.1 in
      let given = o.stamps in
      elim (cases_eq b c) [
        | inl here ↦
            let stamp_is : (vs.trees c).stamp ≡ i.0 = sym (ap (λ (k : ℕ). (vs.trees k).stamp) i.2) ∙ ap (λ x. (way_in x).stamp) d.in_cell ∙ d.is_new.stamp_is in
            subst (λ (k : ℕ). Each (λ (e : Entry). e.stamp ≢ stamp) (nodes cells k).entries) (sym here)
            (subst (λ (n : Node). Each (λ (e : Entry). e.stamp ≢ stamp) n.entries) (sym (node-gate cells)) ((λ same. absurd (omega arith)), tt))
        | inr off ↦
            let root = inside-root s w set o c b some inside off in
            let leaf : vs.blocks b ≡ leaf_without_rows i.0 = ap vs.blocks (root ∙ sym (ap (λ (k : ℕ). (vs.trees k).root) i.2)) ∙ leaf-at s w set o i.0 i.1 in
            each-none (λ (e : Entry). e.stamp ≢ stamp) (nodes cells b).entries (ap (λ (n : Node). n.entries) (node-block cells b off) ∙ ap (λ (x : Block). (node_of x).entries) leaf)
      ]

  stamping-own : Stamping o.stock vs.blocks vs.made vs.trees vs.gates vs.phases vs.pins vs.purses vs.reads vs.jobs g.shape
  stamping-own = record {
    blocks_given = λ y made. let r = is-root s w set o y made in let low = r.1 in let is = r.3 in let all = o.stamps in omega arith;
    blocks_apart = λ y z ne made made2 same. let a = is-root s w set o y made in let b = is-root s w set o z made2 in ne (sym a.2 ∙ ap o.root (sym a.3 ∙ same ∙ b.3) ∙ b.2);
    unspared = λ a y made. each-none (LeavesStamp y (vs.blocks y).stamp) (all_spares vs.purses vs.jobs a) (spares-none s w set o a);
    given = λ a. each-none (λ (x : Spare). x.stamp < o.stock.stamps) (all_spares vs.purses vs.jobs a) (spares-none s w set o a);
    apart = λ a b ne. each-none (λ (x : Spare). Each (AreApart x) (all_spares vs.purses vs.jobs b)) (all_spares vs.purses vs.jobs a) (spares-none s w set o a);
    spare = λ a c whole. subst (AreSpares (g.shape c) (nodes (cells_at vs.blocks vs.trees c))) (sym (spares-none s w set o a)) tt;
    waits = λ a b. each-none (λ (x : Spare). NoneWaits x.stamp (all_items vs.reads vs.jobs b)) (all_spares vs.purses vs.jobs a) (spares-none s w set o a);
    fresh = λ c stamp whole high. expected c stamp whole.0 high;
    fresh_waits = λ b stamp high. subst (NoneWaits stamp) (sym (items-none s w set o b)) tt;
  }

  pub stamping : Stamping vs.stock vs.blocks vs.made vs.trees vs.gates vs.phases vs.pins vs.purses vs.reads vs.jobs g.shape
  stamping = subst (λ (x : StockValue). Stamping x vs.blocks vs.made vs.trees vs.gates vs.phases vs.pins vs.purses vs.reads vs.jobs g.shape) (sym (stock-is s w set o)) stamping-own

  -- Trees and queues.

  pub growing : Growing s vs.row vs.blocks vs.trees vs.gates vs.phases vs.pins g.shape
  growing = record { tree = λ c whole. tree-at s w set o c whole.0 }

  queue-at : (c : ℕ) → IsSome (vs.gates c) → IsQueueOf s.hierarchy (vs.queues c)
  queue-at c some =
      let i = is-gate s w set o c some in let d = o.shards i.0 i.1 in
      subst (λ (k : ℕ). IsQueueOf s.hierarchy (vs.queues k)) i.2 (subst (IsQueueOf s.hierarchy) (sym (ap queue_in d.in_cell)) d.is_new.queue)

  pub queueing : Queueing s vs.row vs.gates vs.phases vs.queues
  queueing = record {
    queue = queue-at;
    named = λ c some. each-none (λ r. vs.row r.no ≡ r) (vs.queues c).rows (quiet s w set o c).rows;
    upto = λ c n is. absurd (not-frozen s w set o c n is);
  }

  pub resting : Resting vs.history vs.gates vs.phases g.shape g.placed g.home
  resting = record { rests = λ c x r is gone placed. absurd (not-gone s w set o c gone) }

  pub pinning : Pinning s vs.gates vs.pins vs.reads
  pinning = record {
    counts = λ c. (quiet s w set o c).pins ∙ sym (sum-none (actor_count s) (λ a. pins_of c (vs.reads a)) (λ a. ap (pins_of c) (read-none s w set o a)));
    shard = λ a c p is pinned. no-read s w set o a p is;
  }
