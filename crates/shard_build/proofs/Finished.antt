-- Under a gate, one root is a tree of the rows, in whatever order they came
use Rattle.std.proofs.{Common.{◌≡◌, ℕ, ◌+◌, ◌≤◌, List, [], ◌∷◌, drop, refl, sym, ap, ◌∙◌, subst, arith}, lemmas.List.Sorted.{All-permutation, sum_by-IsPermutation}, lemmas.List.Sums.sum_by-cons}
use Rattle.std.specs.Prelude.{sum_by, IsPermutation}
use Rattle.dim_hierarchy.specs.{Dimension.Dimension, Rows.IsRowOf, declared.row.Row.Row}
use Rattle.dc_node.specs.declared.entry.Entry.{Entry}
use Rattle.tree_shape.specs.shard_store.specs.Gate.{root_entry}
use Rattle.tree_shape.specs.link_descent.specs.{Descend.IsEntryOf, declared.entered.Fresh.Fresh}
use Rattle.list_words.specs.Counts.{same, times}
use Rattle.list_words.proofs.Times.{same_is}
use Rattle.tree_shape.specs.{Forest.{AfterBuilding, AreInCells, AreRowsOf, IsForest, TreeLaw, filled_cells}, Shape.{Table, TreeCells, numbers}}
use Rattle.shard_build.specs.{Building.{IsEntryTo, IsGrown}, Built.{IsInCells, root_of}, declared.builder.Built.Built}
use Rattle.shard_build.proofs.Grown.{entry-in-cell, in-cells-from}

times-sum : (r : ℕ) (rows : List Row) → times r (numbers rows) ≡ sum_by (λ (x : Row). same r x.no) rows
times-sum r [] = refl
times-sum r (x ∷ xs) = omega (arith, times-sum r xs, sum_by-cons (λ (x : Row). same r x.no) x xs)

times-moved : (r : ℕ) (xs ys : List Row) → IsPermutation xs ys → times r (numbers ys) ≡ times r (numbers xs)
times-moved r xs ys p = times-sum r ys ∙ sum_by-IsPermutation (λ (x : Row). same r x.no) xs ys p ∙ sym (times-sum r xs)

rows-moved : (table : Table) (xs ys : List Row) → IsPermutation xs ys → AreRowsOf table xs → AreRowsOf table ys
rows-moved table xs ys p w = record {
  named = All-permutation (λ r. table.row r.no ≡ r) xs ys p w.named;
  valid = All-permutation (IsRowOf table.hierarchy) xs ys p w.valid;
  once = λ r. let a = w.once r in omega (arith, times-moved r xs ys p);
}

module _ (h : List Dimension) (rows ordered : List Row) (blocks : List Fresh) (from l : ℕ) (f : Fresh) (b : Built) (law : TreeLaw) (moved : IsPermutation rows ordered)
    (g : IsGrown h ordered blocks from l) (one : drop from blocks ≡ f ∷ []) (entry : IsEntryTo h f (root_of b)) (all : b.blocks.items ≡ blocks) (height : b.height ≡ l + 1) where
  pub built-tree : (table : Table) (cells : TreeCells) → table.hierarchy ≡ h → AreRowsOf table rows → IsInCells cells b → AfterBuilding table cells (filled_cells b.blocks.items) (numbers rows)
  built-tree table cells is have w =
      let stand : AreInCells cells.block blocks = subst (AreInCells cells.block) all w.blocks in
      let apart : (y : ℕ) → times y (cells.gate_cell ∷ filled_cells blocks) ≤ 1 = subst (λ (xs : List Fresh). (y : ℕ) → times y (cells.gate_cell ∷ filled_cells xs) ≤ 1) all w.apart in
      let forest = g.forest table cells.block is (rows-moved table rows ordered moved have) stand (λ y. let a = apart y in omega arith) in
      let root : cells.gate.root ≡ f.cell = ap (λ (e : Entry). e.child) w.root ∙ entry.child in
      let tops : filled_cells (drop from blocks) ≡ cells.gate.root ∷ [] = ap filled_cells one ∙ ap (λ c. c ∷ []) (sym root) in
      let here : cells.block f.cell ≡ f.block = (subst (AreInCells cells.block) one (in-cells-from cells.block blocks from stand)).0 in
      let top : IsEntryTo h f (root_entry cells.gate) = subst (IsEntryTo h f) (sym w.root) entry in
      let after = law table cells l (filled_cells blocks) (numbers ordered) (subst (λ (xs : List ℕ). IsForest table cells.block l xs (filled_cells blocks) (numbers ordered)) tops forest) (record {
        apart = (let a = apart cells.gate_cell in let s = same_is cells.gate_cell cells.gate_cell refl in omega arith);
        height = w.height ∙ height;
        entry = subst (λ (x : List Dimension). IsEntryOf x cells.gate.root (cells.block cells.gate.root) (root_entry cells.gate)) (sym is) (entry-in-cell h cells.block f (root_entry cells.gate) here top);
      }) in
      record {
        shape = after.shape;
        tree = after.tree;
        placed = λ r. sym (times-moved r rows ordered moved) ∙ after.placed r;
        settled = after.settled;
        inside = λ y. ap (λ (xs : List Fresh). times y (cells.gate_cell ∷ filled_cells xs)) all ∙ after.inside y;
      }
