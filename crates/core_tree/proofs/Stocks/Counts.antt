-- How many there can be: rows in a tree and inserts on their way there, no more than there are events; and spares in a purse.
use Rattle.std.proofs.{Common.{◌≡◌, ◌≢◌, ℕ, ◌<◌, ◌≤◌, Bool, true, cond, eqb, length, map, Option, Some, None, IsSome, refl, sym, ap, ◌∙◌, subst, ◌⊎◌, inl, inr, arith}, lemmas.List.length-map}
use Rattle.cell_stock.specs.{Stock.cells_of, declared.purse.Spare.Spare}
use Rattle.dc_node.specs.Summary.{IsSummaryOf, coords}
use Rattle.describing_set.specs.Sets.{IsDescSetOf}
use Rattle.measure_agg.specs.Aggregate.{Aggregate}
use Rattle.volap_cell.specs.shard_store.specs.declared.gate.Phase.{Phase}
use Rattle.volap_cell.specs.shard_store.specs.declared.gate.Phase.TheVariants as phase
use Rattle.list_words.specs.Counts.{same}
use Rattle.list_words.proofs.Truth.{on_bool}
use Rattle.volap_cell.specs.tree_shape.specs.Laws.{GateLaw}
use Rattle.volap_cell.specs.tree_shape.proofs.Whole.Sums.{coords-valid}
use Rattle.volap_cell.specs.{Errands.{RowPlace, RowWay, Outside, AtBlock, InLeaf, AtRest}, Ghost.{Ghost, InPurse, NotOfStock, is_in_purse}, Growing.table_of, Invariant.InvWith, Setting.{Setting, actor_count, cell_count}, Stocking.{cells_at, IsWhole}, Turning.{is_inside, inside_of}, View.View}
use Rattle.volap_cell.proofs.{Counting.{length-few, passing, passing-once, sum-keyed}, OneEvent.Older.insert-within}
use Rattle.core_tree.proofs.Stocks.Spares.{owner-purse}

-- Trees.

gone-or : (p : Option Phase) → (p ≡ Some phase.Gone) ⊎ (p ≢ Some phase.Gone)
gone-or None = inr (λ e. cc)
gone-or (Some phase.Gone) = inl refl
gone-or (Some phase.Open) = inr (λ e. cc)
gone-or (Some (phase.Frozen n)) = inr (λ e. cc)

the-shard : (o : Option ℕ) → IsSome o → (x : ℕ) × (o ≡ Some x)
the-shard None e = absurd (cc)
the-shard (Some x) e = (x, refl)

module _ (s : Setting) (v : View) (g : Ghost) (i : InvWith s v g) where
  -- a row in a tree that is whole has passed a gate
  pub tree-placed : (c r : ℕ) → IsWhole v.gates v.phases v.pins c → (g.shape c).placed r ≡ true → g.placed r ≡ true
  tree-placed c r whole pl =
      let (x, isg) = the-shard (v.gates c) whole.0 in
      elim (gone-or (v.phases c)) [
        | inl gone ↦ (i.resting.rests c x r isg gone pl).1.is_placed
        | inr stands ↦
            let (live, gate) = i.lineage.live c x isg stands in
            let one = i.placing.one x r live in
            let here : (g.shape (g.gate x)).placed r ≡ true = ap (λ (y : ℕ). (g.shape y).placed r) gate ∙ pl in
            let count : ◌≡◌ {A = ℕ} (cond ((g.shape (g.gate x)).placed r) 1 0) 1 = ap (λ (b : Bool). cond b 1 0) here in
            on_bool (g.placed r) (λ q. q) (λ q. let none : ◌≡◌ {A = ℕ} (cond (g.placed r) (same (g.home r) x) 0) 0 = ap (λ (b : Bool). cond b (same (g.home r) x) 0) q in absurd (omega arith))
      ]

  pub placed-within : (r : ℕ) → g.placed r ≡ true → r < length v.history
  placed-within r pl = (let (ins, is) = i.placing.begun r pl in insert-within v.history r ins is)

  -- a gate tells of the rows of its tree, of which there are no more than events
  tree-told : GateLaw → (c : ℕ) → IsWhole v.gates v.phases v.pins c → IsSummaryOf s.hierarchy (map v.row (passing (g.shape c).placed (length v.history))) (v.trees c).agg (v.trees c).set
  tree-told gates c whole = gates (table_of s v.row) (cells_at v.blocks v.trees c) (g.shape c) (i.growing.tree c whole) (passing (g.shape c).placed (length v.history))
      (passing-once (g.shape c).placed (length v.history) (λ r pl. placed-within r (tree-placed c r whole pl)))

  pub tree-few : GateLaw → (c : ℕ) → IsWhole v.gates v.phases v.pins c → (v.trees c).agg.count ≤ length v.history
  tree-few gates c whole =
      let there = (g.shape c).placed in
      let ns = passing there (length v.history) in
      let count : (v.trees c).agg.count ≡ length (map v.row ns) = ap (λ (a : Aggregate). a.count) (tree-told gates c whole).agg in
      let long = length-map ns v.row in
      let each = passing-once there (length v.history) (λ r pl. placed-within r (tree-placed c r whole pl)) in
      let few = length-few ns (length v.history)
      (λ r. let k = each r in on_bool (there r) (λ q. let z : ◌≡◌ {A = ℕ} (cond (there r) 1 0) 1 = ap (λ (b : Bool). cond b 1 0) q in omega arith) (λ q. let z : ◌≡◌ {A = ℕ} (cond (there r) 1 0) 0 = ap (λ (b : Bool). cond b 1 0) q in omega arith))
      (λ r some. let k = each r in on_bool (there r) (λ q. placed-within r (tree-placed c r whole q)) (λ q. let z : ◌≡◌ {A = ℕ} (cond (there r) 1 0) 0 = ap (λ (b : Bool). cond b 1 0) q in absurd (omega arith))) in
      omega arith

  pub tree-set : GateLaw → (c : ℕ) → IsWhole v.gates v.phases v.pins c → IsDescSetOf s.hierarchy (v.trees c).set
  tree-set gates c whole =
      let told = tree-told gates c whole in
      record {
        hierarchy = i.numbering.setting.hierarchy;
        rows = coords (map v.row (passing (g.shape c).placed (length v.history)));
        valid = coords-valid (table_of s v.row) (passing (g.shape c).placed (length v.history)) told.valid;
        set_of = told.set_of;
      }

  -- Inserts in a tree, each with a row of its own.

  inside-most : (c : ℕ) (p : RowPlace) → is_inside c p ≤ 1
  inside-most c Outside = omega arith
  inside-most c (AtBlock d y) = on_bool (eqb d c) (λ q. rw q (omega arith)) (λ q. rw q (omega arith))
  inside-most c (InLeaf d) = on_bool (eqb d c) (λ q. rw q (omega arith)) (λ q. rw q (omega arith))
  inside-most c AtRest = omega arith

  most-inside : (c : ℕ) (o : Option RowWay) → inside_of c o ≤ 1
  most-inside c None = omega arith
  most-inside c (Some x) = inside-most c x.place

  abbrev row-of : Option RowWay → ℕ
  row-of None = 0
  row-of (Some x) = x.row.no

  has-way : (c : ℕ) (o : Option RowWay) → 1 ≤ inside_of c o → (x : RowWay) × (o ≡ Some x)
  has-way c None some = absurd (omega arith)
  has-way c (Some x) some = (x, refl)

  pub active-few : (c : ℕ) → v.active c ≤ length v.history
  active-few c =
      let all = i.turning.counts c in
      let few = sum-keyed (λ a. inside_of c (v.ways a)) (λ a. row-of (v.ways a)) (λ a. most-inside c (v.ways a)) (actor_count s) (length v.history)
      (λ a lt some.
      let (x, is) = has-way c (v.ways a) some in
      let known = (i.inserting.on_way a x is).known in
      subst (λ (o : Option RowWay). row-of o < length v.history) (sym is) (insert-within v.history x.row.no known.0 known.1))
      (λ a b la lb sa sb e.
      let (x, isx) = has-way c (v.ways a) sa in
      let (y, isy) = has-way c (v.ways b) sb in
      i.turning.one a b x y isx isy (ap row-of (sym isx) ∙ e ∙ ap row-of isy)) in
      omega arith

  -- a purse has no more spares than there are cells
  pub purse-few : (a : ℕ) → length (v.purses a) ≤ cell_count s
  purse-few a =
      let own = i.stocking.purse a in
      let most = length-few (cells_of (v.purses a)) (cell_count s)
      (λ y. let k = own y in on_bool (is_in_purse a (g.owner y)) (λ q. let z : ◌≡◌ {A = ℕ} (cond (is_in_purse a (g.owner y)) 1 0) 1 = ap (λ (b : Bool). cond b 1 0) q in omega arith) (λ q. let z : ◌≡◌ {A = ℕ} (cond (is_in_purse a (g.owner y)) 1 0) 0 = ap (λ (b : Bool). cond b 1 0) q in omega arith))
      (λ y some. let k = own y in on_bool (is_in_purse a (g.owner y))
      (λ q. let is = owner-purse a (g.owner y) q in (i.stocking.within y (λ z. let no : InPurse a ≡ NotOfStock = sym is ∙ z in cc)).1)
      (λ q. let z : ◌≡◌ {A = ℕ} (cond (is_in_purse a (g.owner y)) 1 0) 0 = ap (λ (b : Bool). cond b 1 0) q in absurd (omega arith))) in
      let long = length-map (v.purses a) (λ (x : Spare). x.cell) in
      omega arith
