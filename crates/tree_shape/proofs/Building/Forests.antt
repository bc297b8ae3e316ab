-- What stands in the cells of blocks side by side
use Rattle.std.proofs.{Common.{◌≡◌, ℕ, ◌≤◌, true, false, cond, eqb, leb, List, [], ◌∷◌, ◌++◌, map, refl, sym, ap, ◌∙◌, subst, arith}, lemmas.Bool.{eqb-true, eqb-false, leb-true, leb-false}, lemmas.List.Elements.{All-head, All-tail}}
use Rattle.std.specs.{List.flat_map, Prelude.All}
use Rattle.dim_hierarchy.specs.{Dimension.Dimension, Rows.IsRowOf, declared.row.Row.Row}
use Rattle.measure_agg.specs.Aggregate.{Aggregate, agg}
use Rattle.describing_set.specs.{DescSet.IsSetOf, declared.set.DescSet.DescSet}
use Rattle.dc_node.specs.{Block.{rows_in, entries_in, is_leaf}, Summary.{IsSummary, IsUnionOf, coords, joined, aggs}, declared.block.Block.Block, declared.block.Body.Body, declared.block.Body.TheVariants.{Rows, Entries}}
use Rattle.link_descent.specs.declared.entered.Fresh.{Fresh}
use Rattle.list_words.specs.Counts.{Each, same, times, total}
use Rattle.list_words.proofs.{Each.{each-left, each-right}, Times.same_not, Totals.{total-append, total-map}, Truth.on_bool}
use Rattle.tree_shape.specs.{Forest.{AreInCells, all_rows, filled_cells}, Shape.{Table, numbers}}

pub unit : (n : ℕ) → n ≤ 1 → n ≡ cond (leb 1 n) 1 0
unit n le = on_bool (leb 1 n) (λ q. let a = leb-true _ _ q in rw q (omega arith)) (λ q. let a = leb-false _ _ q in rw q (omega arith))

-- What stands in cells.

-- a fact of the block in a cell
pub at-cell : (P : Block → Type 0) (block : ℕ → Block) (fs : List Fresh) (c : ℕ) → AreInCells block fs → Each (λ f. P f.block) fs → 1 ≤ times c (filled_cells fs) → P (block c)
at-cell P block [] c s h n = absurd (omega arith)
at-cell P block (f ∷ fs) c s h n = on_bool (eqb c f.cell)
    (λ q. subst P (sym (ap block (eqb-true _ _ q) ∙ s.0)) h.0)
    (λ q. let z = same_not c f.cell (eqb-false _ _ q) in at-cell P block fs c s.1 h.1 (omega arith))

-- the items of the blocks, one by one
pub total-cells : {A : Type 0} (k : A → ℕ) (items : Block → List A) (block : ℕ → Block) (fs : List Fresh) → AreInCells block fs
    → total (λ c. total k (items (block c))) (filled_cells fs) ≡ total k (flat_map (λ f. items f.block) fs)
total-cells k items block [] s = refl
total-cells k items block (f ∷ fs) s =
    let a = ap (λ (b : Block). total k (items b)) s.0 in
    omega (arith, total-append k (items f.block) (flat_map (λ g. items g.block) fs), total-cells k items block fs s.1)

times-numbers : (r : ℕ) (rows : List Row) → times r (numbers rows) ≡ total (λ (x : Row). same r x.no) rows
times-numbers r rows = total-map (λ y. same r y) (λ (x : Row). x.no) rows

pub rows-cells : (block : ℕ → Block) (fs : List Fresh) (r : ℕ) → AreInCells block fs → total (λ c. times r (numbers (rows_in (block c).body))) (filled_cells fs) ≡ times r (numbers (all_rows fs))
rows-cells block [] r s = refl
rows-cells block (f ∷ fs) r s =
    let a = ap (λ (b : Block). times r (numbers (rows_in b.body))) s.0 in
    let x = times-numbers r (rows_in f.block.body) in
    let y = times-numbers r (all_rows fs) in
    let z = times-numbers r (rows_in f.block.body ++ all_rows fs) in
    omega (arith, total-append (λ (w : Row). same r w.no) (rows_in f.block.body) (all_rows fs), rows-cells block fs r s.1)

-- the facts of all items, block by block
pub each-items : {A : Type 0} (P : A → Type 0) (items : Block → List A) (fs : List Fresh) → Each P (flat_map (λ f. items f.block) fs) → Each (λ f. Each P (items f.block)) fs
each-items P items [] h = tt
each-items P items (f ∷ fs) h =
    (each-left P (items f.block) (flat_map (λ g. items g.block) fs) h, each-items P items fs (each-right P (items f.block) (flat_map (λ g. items g.block) fs) h))

pub row-known : (table : Table) (rows : List Row) (r : ℕ) → All (λ x. table.row x.no ≡ x) rows → All (IsRowOf table.hierarchy) rows → 1 ≤ times r (numbers rows)
    → ((table.row r).no ≡ r) × IsRowOf table.hierarchy (table.row r)
row-known table [] r named valid n = absurd (omega arith)
row-known table (x ∷ xs) r named valid n = on_bool (eqb r x.no)
    (λ q. let e = eqb-true _ _ q in
    let is : table.row r ≡ x = ap table.row e ∙ All-head (λ y. table.row y.no ≡ y) x xs named in
    (ap (λ (y : Row). y.no) is ∙ sym e, subst (IsRowOf table.hierarchy) (sym is) (All-head (IsRowOf table.hierarchy) x xs valid)))
    (λ q. let z = same_not r x.no (eqb-false _ _ q) in
    row-known table xs r (All-tail (λ y. table.row y.no ≡ y) x xs named) (All-tail (IsRowOf table.hierarchy) x xs valid) (omega arith))

-- what the summary of a block of either kind says

pub leaf-summary : (h : List Dimension) (body : Body) (a : Aggregate) (s : DescSet) → is_leaf body ≡ true → IsSummary h body a s → (a ≡ agg (rows_in body)) × IsSetOf h (coords (rows_in body)) s
leaf-summary h (Rows rows) a s k w = w
leaf-summary h (Entries entries) a s k w = cc

pub directory-summary : (h : List Dimension) (body : Body) (a : Aggregate) (s : DescSet) → is_leaf body ≡ false → IsSummary h body a s
    → (a ≡ joined (aggs (entries_in body))) × IsUnionOf h (map (λ e. e.set) (entries_in body)) s
directory-summary h (Rows rows) a s k w = cc
directory-summary h (Entries entries) a s k w = w
