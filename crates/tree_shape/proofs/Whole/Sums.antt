-- The aggregate and the set of rows that come together.
use Rattle.std.proofs.{Common.{ℕ, cond, eqb, ◌≡◌, List, [], ◌∷◌, ◌++◌, map, refl, sym, ap, subst, ◌∙◌}, lemmas.Bool.eqb-true, lemmas.List.map-append, lemmas.List.Elements.{All-cons, All-nil, All-head, All-tail}}
use Rattle.std.specs.{List.{AllZip, flat_map}, Prelude.All}
use Rattle.dim_hierarchy.specs.{Row.IsCoordOf, Rows.IsRowOf, declared.row.Coord.Coord, declared.row.Row.Row}
use Rattle.dc_node.specs.{Block.{rows_in, entries_in, is_leaf}, Entry.IsWithRow, Summary.{coords, joined, aggs, IsUnionOf, IsSummary}, declared.block.Block.Block, declared.block.Body.Body, declared.block.Body.TheVariants.{Rows, Entries}, declared.entry.Entry.Entry}
use Rattle.list_words.specs.Counts.{Each}
use Rattle.list_words.proofs.Each.{all-each}
use Rattle.tree_shape.specs.Shape.{Shape, Table, node_of, numbers}
use Rattle.tree_shape.proofs.Cutting.Relations.{IsSumOf, all_below, block_rows}
use Rattle.describing_set.specs.DescSet.{IsSetOf}
use Rattle.measure_agg.specs.{Aggregate.agg, Joining.{join, one}}
use Rattle.measure_agg.proofs.AggLaws.{join_commutative, agg-append, join_empty_right}

-- two entries with the same aggregate and set
pub sum-same : (table : Table) (ns ms : List ℕ) (e f : Entry) → f.agg ≡ e.agg → f.set ≡ e.set → ms ≡ ns → IsSumOf table ns e → IsSumOf table ms f
sum-same table ns ms e f ea es is s = record {
  valid = rw is s.valid;
  agg = rw (is, ea) s.agg;
  set_of = rw (is, es) s.set_of;
}

-- the coordinates of valid rows are valid
pub coords-valid : (table : Table) (ns : List ℕ) → All (IsRowOf table.hierarchy) (map table.row ns) → All (IsCoordOf table.hierarchy) (coords (map table.row ns))
coords-valid table [] v = All-nil (IsCoordOf table.hierarchy)
coords-valid table (n ∷ ns) v =
    All-cons (IsCoordOf table.hierarchy) (table.row n).at (coords (map table.row ns))
    (All-head (IsRowOf table.hierarchy) (table.row n) (map table.row ns) v)
    (coords-valid table ns (All-tail (IsRowOf table.hierarchy) (table.row n) (map table.row ns) v))

-- a row more
pub sum-row : (table : Table) (r : ℕ) (ns : List ℕ) (e f : Entry) → IsRowOf table.hierarchy (table.row r) → IsWithRow table.hierarchy (table.row r) e f → IsSumOf table ns e → IsSumOf table (r ∷ ns) f
sum-row table r ns e f v w s = record {
  valid = All-cons (IsRowOf table.hierarchy) (table.row r) (map table.row ns) v s.valid;
  agg = w.agg ∙ ap (λ a. join a (one (table.row r).measures)) s.agg ∙ join_commutative (agg (map table.row ns)) (one (table.row r).measures) ∙ sym (agg-append (table.row r ∷ []) (map table.row ns) ∙ ap (λ a. join a (agg (map table.row ns))) (join_empty_right (one (table.row r).measures)));
  set_of = w.grown.grown (coords (map table.row ns)) (coords-valid table ns s.valid) s.set_of;
}

-- rows with these numbers
pub rows-named : (table : Table) (rows : List Row) → Each (λ r. table.row r.no ≡ r) rows → map table.row (numbers rows) ≡ rows
rows-named table [] h = refl
rows-named table (r ∷ rows) h = cc (h.0, rows-named table rows h.1)

-- the rows of a leaf
pub sum-leaf : (table : Table) (rows : List Row) (e : Entry) → Each (λ r. table.row r.no ≡ r) rows → Each (IsRowOf table.hierarchy) rows → e.agg ≡ agg rows → IsSetOf table.hierarchy (coords rows) e.set → IsSumOf table (numbers rows) e
sum-leaf table rows e named valid a s =
    let is = rows-named table rows named in
    record {
      valid = rw is (all-each (IsRowOf table.hierarchy) rows valid);
      agg = rw is a;
      set_of = rw is s;
    }

all-append : {A : Type 0} (P : A → Type 0) (xs ys : List A) → All P xs → All P ys → All P (xs ++ ys)
all-append P [] ys h k = k
all-append P (x ∷ xs) ys h k = All-cons P x (xs ++ ys) (All-head P x xs h) (all-append P xs ys (All-tail P x xs h) k)

-- the rows beneath entries
pub sum-below : (g : Shape) (table : Table) (es : List Entry) (e : Entry) → Each (λ x. IsSumOf table (g.below x.child) x) es → e.agg ≡ joined (aggs es) → IsUnionOf table.hierarchy (map (λ x. x.set) es) e.set → IsSumOf table (all_below g es) e
sum-below g table es e w a u = record {
  valid = valid es w;
  agg = a ∙ sym (agg-below es w);
  set_of = subst (λ (xs : List Coord). IsSetOf table.hierarchy xs e.set) (flat es) (u.union (lists es) (zipped es w));
}
  where
    rows : Entry → List Row
    rows x = map table.row (g.below x.child)

    lists : List Entry → List (List Coord)
    lists es = map (λ x. coords (map table.row (g.below x.child))) es

    valid : (es : List Entry) → Each (λ x. IsSumOf table (g.below x.child) x) es → All (IsRowOf table.hierarchy) (map table.row (all_below g es))
    valid [] w = All-nil (IsRowOf table.hierarchy)
    valid (x ∷ es) w = rw (map-append table.row (g.below x.child) (all_below g es)) (all-append (IsRowOf table.hierarchy) (map table.row (g.below x.child)) (map table.row (all_below g es)) w.0.valid (valid es w.1))

    agg-below : (es : List Entry) → Each (λ x. IsSumOf table (g.below x.child) x) es → agg (map table.row (all_below g es)) ≡ joined (aggs es)
    agg-below [] w = refl
    agg-below (x ∷ es) w =
        ap agg (map-append table.row (g.below x.child) (all_below g es))
        ∙ agg-append (map table.row (g.below x.child)) (map table.row (all_below g es))
        ∙ ap (λ y. join y (agg (map table.row (all_below g es)))) (sym w.0.agg)
        ∙ ap (join x.agg) (agg-below es w.1)

    zipped : (es : List Entry) → Each (λ x. IsSumOf table (g.below x.child) x) es → AllZip (λ rows s. All (IsCoordOf table.hierarchy) rows × IsSetOf table.hierarchy rows s) (map (λ x. coords (map table.row (g.below x.child))) es) (map (λ x. x.set) es)
    zipped [] w = tt
    zipped (x ∷ es) w = ((coords-valid table (g.below x.child) w.0.valid, w.0.set_of), zipped es w.1)

    flat : (es : List Entry) → flat_map (λ rows. rows) (map (λ x. coords (map table.row (g.below x.child))) es) ≡ coords (map table.row (all_below g es))
    flat [] = refl
    flat (x ∷ es) = ap (λ ys. coords (map table.row (g.below x.child)) ++ ys) (flat es)
        ∙ sym (map-append (λ r. r.at) (map table.row (g.below x.child)) (map table.row (all_below g es)))
        ∙ ap coords (sym (map-append table.row (g.below x.child) (all_below g es)))

-- the items of a block on level k
pub sum-block : (g : Shape) (table : Table) (k : ℕ) (block : Block) (e : Entry) → is_leaf block.body ≡ eqb k 0
    → Each (λ r. table.row r.no ≡ r) (rows_in block.body) → (k ≡ 0 → Each (IsRowOf table.hierarchy) (rows_in block.body)) → Each (λ x. IsSumOf table (g.below x.child) x) (entries_in block.body)
    → IsSummary table.hierarchy block.body e.agg e.set → IsSumOf table (block_rows g (node_of block) k) e
sum-block g table k block e kind named valid sums s = go block.body kind named valid sums s
  where
    go : (body : Body) → is_leaf body ≡ eqb k 0 → Each (λ r. table.row r.no ≡ r) (rows_in body) → (k ≡ 0 → Each (IsRowOf table.hierarchy) (rows_in body)) → Each (λ x. IsSumOf table (g.below x.child) x) (entries_in body)
        → IsSummary table.hierarchy body e.agg e.set → IsSumOf table (cond (eqb k 0) (numbers (rows_in body)) (all_below g (entries_in body))) e
    go (Rows rows) kind named valid sums s = rw (sym kind) (sum-leaf table rows.items e named (valid (eqb-true k 0 (sym kind))) s.0 s.1)
    go (Entries entries) kind named valid sums s = rw (sym kind) (sum-below g table entries.items e sums s.0 s.1)
