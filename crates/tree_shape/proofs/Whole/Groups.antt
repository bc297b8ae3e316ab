-- The rows of a group's blocks, and the aggregate and the set of them together
use Rattle.std.proofs.{Common.{◌≡◌, ℕ, true, false, cond, eqb, List, [], ◌∷◌, ◌++◌, map, refl, sym, ap, ◌∙◌, subst, arith, append_assoc}, lemmas.List.map-append}
use Rattle.std.specs.{List.flat_map, Prelude.None}
use Rattle.dim_hierarchy.specs.{Rows.IsRowOf, declared.row.Row.Row}
use Rattle.dc_node.specs.{Block.{rows_in, entries_in, is_leaf}, Summary.IsSummary, declared.block.Block.Block, declared.block.Body.Body, declared.block.Body.TheVariants.{Rows, Entries}, declared.entry.Entry.Entry}
use Rattle.link_descent.specs.Divide.{together}
use Rattle.list_words.specs.Counts.{Each, times, total}
use Rattle.list_words.proofs.{Each.{each-append, each-flat, each-mapped}, Times.times-append, Truth.on_bool}
use Rattle.tree_shape.specs.Shape.{Node, Shape, Table, node_of, numbers}
use Rattle.tree_shape.proofs.{Cutting.Relations.{IsSumOf, all_below, group_rows, part_rows, block_rows}, Whole.Sums.sum-block}

pub times-all_below : (g : Shape) (r : ℕ) (es : List Entry) → times r (all_below g es) ≡ total (λ e. times r (g.below e.child)) es
times-all_below g r [] = refl
times-all_below g r (e ∷ es) = omega (arith, times-append r (g.below e.child) (all_below g es), times-all_below g r es)

pub block_rows-times : (g : Shape) (b : Node) (k r : ℕ) → times r (block_rows g b k) ≡ part_rows g b k r
block_rows-times g b k r = on_bool (eqb k 0) (λ q. rw q refl) (λ q. rw q (times-all_below g r b.entries))

pub group_rows-times : (g : Shape) (look : ℕ → Node) (k r : ℕ) (ws : List ℕ) → times r (group_rows g look k ws) ≡ total (λ y. part_rows g (look y) k r) ws
group_rows-times g look k r [] = refl
group_rows-times g look k r (y ∷ ys) = omega (arith, times-append r (block_rows g (look y) k) (group_rows g look k ys), block_rows-times g (look y) k r, group_rows-times g look k r ys)

pub group_rows-same : (g : Shape) (look other : ℕ → Node) (k : ℕ) (ws : List ℕ) → Each (λ y. other y ≡ look y) ws → group_rows g other k ws ≡ group_rows g look k ws
group_rows-same g look other k [] h = refl
group_rows-same g look other k (y ∷ ys) h =
    ap (λ (b : Node). block_rows g b k ++ group_rows g other k ys) h.0 ∙ ap (λ (ns : List ℕ). block_rows g (look y) k ++ ns) (group_rows-same g look other k ys h.1)

all_below-append : (g : Shape) (es fs : List Entry) → all_below g (es ++ fs) ≡ all_below g es ++ all_below g fs
all_below-append g [] fs = refl
all_below-append g (e ∷ es) fs = ap (λ (ns : List ℕ). g.below e.child ++ ns) (all_below-append g es fs) ∙ sym (append_assoc (g.below e.child) (all_below g es) (all_below g fs))

-- The items of a head and of the blocks behind it.

pub leaf-together : (body : Body) (bs : List Block) → is_leaf (together body bs) ≡ is_leaf body
leaf-together (Rows rows) bs = refl
leaf-together (Entries entries) bs = refl

each-row : (P : Row → Type 0) (body : Body) (bs : List Block) → Each P (rows_in body) → Each (λ b. Each P (rows_in b.body)) bs → Each P (rows_in (together body bs))
each-row P (Rows rows) bs h t = each-append P rows.items (flat_map (λ b. rows_in b.body) bs) h (each-flat P (λ (b : Block). rows_in b.body) bs t)
each-row P (Entries entries) bs h t = tt

pub each-entry : (P : Entry → Type 0) (body : Body) (bs : List Block) → Each P (entries_in body) → Each (λ b. Each P (entries_in b.body)) bs → Each P (entries_in (together body bs))
each-entry P (Rows rows) bs h t = tt
each-entry P (Entries entries) bs h t = each-append P entries.items (flat_map (λ b. entries_in b.body) bs) h (each-flat P (λ (b : Block). entries_in b.body) bs t)

module _ (g : Shape) (look : ℕ → Node) (k : ℕ) (block : ℕ → Block) where
  leaf-rows : (ws : List ℕ) → eqb k 0 ≡ true → Each (λ y. look y ≡ node_of (block y)) ws → numbers (flat_map (λ b. rows_in b.body) (map block ws)) ≡ group_rows g look k ws
  leaf-rows [] q h = refl
  leaf-rows (y ∷ ys) q h =
      let e : block_rows g (look y) k ≡ numbers (rows_in (block y).body) = rw (h.0, q) refl in
      map-append (λ (r : Row). r.no) (rows_in (block y).body) (flat_map (λ b. rows_in b.body) (map block ys))
      ∙ ap (λ (ns : List ℕ). numbers (rows_in (block y).body) ++ ns) (leaf-rows ys q h.1)
      ∙ ap (λ (ns : List ℕ). ns ++ group_rows g look k ys) (sym e)

  dir-rows : (ws : List ℕ) → eqb k 0 ≡ false → Each (λ y. look y ≡ node_of (block y)) ws → all_below g (flat_map (λ b. entries_in b.body) (map block ws)) ≡ group_rows g look k ws
  dir-rows [] q h = refl
  dir-rows (y ∷ ys) q h =
      let e : block_rows g (look y) k ≡ all_below g (entries_in (block y).body) = rw (h.0, q) refl in
      all_below-append g (entries_in (block y).body) (flat_map (λ b. entries_in b.body) (map block ys))
      ∙ ap (λ (ns : List ℕ). all_below g (entries_in (block y).body) ++ ns) (dir-rows ys q h.1)
      ∙ ap (λ (ns : List ℕ). ns ++ group_rows g look k ys) (sym e)

  pub rows-together : (body : Body) (ws : List ℕ) → is_leaf body ≡ eqb k 0 → Each (λ y. look y ≡ node_of (block y)) ws
      → cond (eqb k 0) (numbers (rows_in (together body (map block ws)))) (all_below g (entries_in (together body (map block ws))))
      ≡ cond (eqb k 0) (numbers (rows_in body)) (all_below g (entries_in body)) ++ group_rows g look k ws
  rows-together (Rows rows) ws kind h =
      let q : eqb k 0 ≡ true = sym kind in
      let e = leaf-rows ws q h in
      rw q (map-append (λ (r : Row). r.no) rows.items (flat_map (λ b. rows_in b.body) (map block ws)) ∙ ap (λ (ns : List ℕ). numbers rows.items ++ ns) e)
  rows-together (Entries entries) ws kind h =
      let q : eqb k 0 ≡ false = sym kind in
      let e = dir-rows ws q h in
      rw q (all_below-append g entries.items (flat_map (λ b. entries_in b.body) (map block ws)) ∙ ap (λ (ns : List ℕ). all_below g entries.items ++ ns) e)

-- the entry of the group of a block n and of the blocks in the cells behind it
pub sum-group : (g : Shape) (look : ℕ → Node) (table : Table) (k n : ℕ) (new : Block) (block : ℕ → Block) (ws : List ℕ) (e : Entry) → look n ≡ node_of new → is_leaf new.body ≡ eqb k 0
    → Each (λ y. look y ≡ node_of (block y)) ws
    → Each (λ r. table.row r.no ≡ r) (rows_in new.body) → Each (λ y. Each (λ r. table.row r.no ≡ r) (rows_in (block y).body)) ws
    → (k ≡ 0 → Each (IsRowOf table.hierarchy) (rows_in new.body)) → (k ≡ 0 → Each (λ y. Each (IsRowOf table.hierarchy) (rows_in (block y).body)) ws)
    → Each (λ x. IsSumOf table (g.below x.child) x) (entries_in new.body) → Each (λ y. Each (λ x. IsSumOf table (g.below x.child) x) (entries_in (block y).body)) ws
    → IsSummary table.hierarchy (together new.body (map block ws)) e.agg e.set → IsSumOf table (group_rows g look k (n ∷ ws)) e
sum-group g look table k n new block ws e is kind stand named nameds valid valids sums sumss s =
    let bs : List Block = map block ws in
    let all : Block = record { stamp = 0; right = None; body = together new.body bs } in
    let w : IsSumOf table (block_rows g (node_of all) k) e = sum-block g table k all e (leaf-together new.body bs ∙ kind)
    (each-row (λ r. table.row r.no ≡ r) new.body bs named (each-mapped (λ (b : Block). Each (λ r. table.row r.no ≡ r) (rows_in b.body)) block ws nameds))
    (λ z. each-row (IsRowOf table.hierarchy) new.body bs (valid z) (each-mapped (λ (b : Block). Each (IsRowOf table.hierarchy) (rows_in b.body)) block ws (valids z)))
    (each-entry (λ x. IsSumOf table (g.below x.child) x) new.body bs sums (each-mapped (λ (b : Block). Each (λ x. IsSumOf table (g.below x.child) x) (entries_in b.body)) block ws sumss)) s in
    subst (λ (ns : List ℕ). IsSumOf table ns e) (rows-together g look k block new.body ws kind stand ∙ ap (λ (b : Node). block_rows g b k ++ group_rows g look k ws) (sym is)) w
