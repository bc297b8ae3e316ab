-- The groups that lines are of.
use Rattle.std.proofs.Common.{ℕ, zero, suc, ◌≡◌, ◌+◌, true, false, List, [], ◌∷◌, ◌++◌, length, refl, ap, ◌∙◌}
use Rattle.std.specs.List.{flat_map}
use Rattle.dim_hierarchy.specs.declared.row.Row.{Row}
use Rattle.dc_node.specs.{Block.rows_in, declared.entry.Entry.Entry}
use Rattle.row_ledger.specs.{Pages.{Groups, none, leaf, directory, tops, listing, rows_beneath}, declared.page.NodeLine.NodeLine}
use Rattle.core_image.specs.tree_shape.specs.PageLines.{CellBlocks, group, group_entries, group_line, lines}

-- the rows of a group's blocks
abbrev pub leaf_rows : CellBlocks → Entry → List Row
leaf_rows blocks e = flat_map (λ b. rows_in b.body) (group blocks e)

-- the rows beneath an entry on a level
abbrev pub rows_at : CellBlocks → ℕ → Entry → List Row
rows_at blocks zero e = leaf_rows blocks e
rows_at blocks (suc level) e = flat_map (λ x. rows_at blocks level x) (group_entries blocks e)

abbrev pub all_groups : (Entry → Groups → Groups) → List Entry → Groups
all_groups f [] = none
all_groups f (e ∷ es) = f e (all_groups f es)

-- an entry's group with those beneath it, and then more
abbrev pub grouped : CellBlocks → ℕ → ℕ → Entry → Groups → Groups
grouped blocks zero depth e more = leaf (group_line true depth (group blocks e) e) (leaf_rows blocks e) more
grouped blocks (suc level) depth e more = directory (group_line false depth (group blocks e) e) (all_groups (λ x m. grouped blocks level (depth + 1) x m) (group_entries blocks e)) more

-- their lines

listing-all : (f : Entry → Groups → Groups) (w : Entry → List NodeLine) → ((e : Entry) (more : Groups) → listing (f e more) ≡ w e ++ listing more) → (es : List Entry) → listing (all_groups f es) ≡ flat_map w es
listing-all f w h [] = refl
listing-all f w h (e ∷ es) = h e (all_groups f es) ∙ ap (λ xs. w e ++ xs) (listing-all f w h es)

pub listing-one : (blocks : CellBlocks) (level depth : ℕ) (e : Entry) (more : Groups) → listing (grouped blocks level depth e more) ≡ lines blocks level depth e ++ listing more
listing-one blocks zero depth e more = refl
listing-one blocks (suc level) depth e more = ap (λ xs. group_line false depth (group blocks e) e ∷ (xs ++ listing more))
    (listing-all (λ x m. grouped blocks level (depth + 1) x m) (λ x. lines blocks level (depth + 1) x) (listing-one blocks level (depth + 1)) (group_entries blocks e))

-- their rows

rows-all : (f : Entry → Groups → Groups) (w : Entry → List Row) → ((e : Entry) (more : Groups) → rows_beneath (f e more) ≡ w e ++ rows_beneath more) → (es : List Entry) → rows_beneath (all_groups f es) ≡ flat_map w es
rows-all f w h [] = refl
rows-all f w h (e ∷ es) = h e (all_groups f es) ∙ ap (λ xs. w e ++ xs) (rows-all f w h es)

pub rows-one : (blocks : CellBlocks) (level depth : ℕ) (e : Entry) (more : Groups) → rows_beneath (grouped blocks level depth e more) ≡ rows_at blocks level e ++ rows_beneath more
rows-one blocks zero depth e more = refl
rows-one blocks (suc level) depth e more = ap (λ xs. xs ++ rows_beneath more)
    (rows-all (λ x m. grouped blocks level (depth + 1) x m) (λ x. rows_at blocks level x) (rows-one blocks level (depth + 1)) (group_entries blocks e))

pub rows-beneath : (blocks : CellBlocks) (level depth : ℕ) (es : List Entry) → rows_beneath (all_groups (λ x m. grouped blocks level depth x m) es) ≡ flat_map (λ x. rows_at blocks level x) es
rows-beneath blocks level depth es = rows-all (λ x m. grouped blocks level depth x m) (λ x. rows_at blocks level x) (rows-one blocks level depth) es

-- how many they are

pub tops-one : (blocks : CellBlocks) (level depth : ℕ) (e : Entry) (more : Groups) → length (tops (grouped blocks level depth e more)) ≡ suc (length (tops more))
tops-one blocks zero depth e more = refl
tops-one blocks (suc level) depth e more = refl

pub tops-all : (blocks : CellBlocks) (level depth : ℕ) (es : List Entry) → length (tops (all_groups (λ x m. grouped blocks level depth x m) es)) ≡ length es
tops-all blocks level depth [] = refl
tops-all blocks level depth (e ∷ es) = tops-one blocks level depth e (all_groups (λ x m. grouped blocks level depth x m) es) ∙ ap suc (tops-all blocks level depth es)
