-- How a full head is divided in two.
use Rattle.std.specs.{List.{AllZip, range_with_len, filter_map, flat_map}, Prelude.{ℕ, ◌≡◌, ◌⊎◌, ◌==◌, Bool, false, Some, List, [], ◌∷◌, ◌++◌, map, take, drop, slice_get, IsPermutation}}
use Rattle.dim_hierarchy.specs.Dimension.{Dimension}
use Rattle.describing_set.specs.{DescSet.IsSetOf, declared.set.DescSet.DescSet}
use Rattle.hierarchy_split.specs.{Cut.{IsDimCut, IsGood, IsGoodCut}, Head.{GroupItems, kept_places, parted_places, IsHeadCut, IsGoodHead, IsGoodHeadCut}, declared.cut.Cut.Cut, declared.head_cut.HeadCut.HeadCut}
use Rattle.dc_node.specs.{Block.{rows_in, entries_in, size}, declared.block.Block.Block, declared.block.Body.Body, declared.block.Body.TheVariants.{Rows, Entries}}

-- Parts of a body: the items at some places, in their order; the first ones; and the rest.

abbrev pub items_at : {A : Type 0} → List A → List ℕ → List A
items_at xs places = filter_map (λ place. slice_get xs place) places

abbrev pub body_at : Body → List ℕ → Body
body_at (Rows rows) places = Rows (record { items = items_at rows.items places })
body_at (Entries entries) places = Entries (record { items = items_at entries.items places })

abbrev pub front : Body → ℕ → Body
front (Rows rows) n = Rows (record { items = take n rows.items })
front (Entries entries) n = Entries (record { items = take n entries.items })

abbrev pub rest : Body → ℕ → Body
rest (Rows rows) n = Rows (record { items = drop n rows.items })
rest (Entries entries) n = Entries (record { items = drop n entries.items })

-- half of what a body has room for
abbrev pub half : Body → ℕ
half (Rows rows) = 16
half (Entries entries) = 8

-- the describing sets of the items: of a row that of its coordinate
abbrev pub AreItemSets : List Dimension → Body → List DescSet → Type 0
AreItemSets h (Rows rows) sets = AllZip (λ r s. IsSetOf h (r.at ∷ []) s) rows.items sets
AreItemSets h (Entries entries) sets = sets ≡ map (λ e. e.set) entries.items

-- A group of blocks: its head, and the blocks behind it from left to right.

-- the items of a head and of the blocks behind it
abbrev pub together : Body → List Block → Body
together (Rows rows) tail = Rows (record { items = rows.items ++ flat_map (λ b. rows_in b.body) tail })
together (Entries entries) tail = Entries (record { items = entries.items ++ flat_map (λ b. entries_in b.body) tail })

-- the last of the blocks behind a head has the expected stamp
abbrev pub ends_with : ℕ → List Block → Bool
ends_with expected [] = false
ends_with expected (b ∷ []) = b.stamp == expected
ends_with expected (b ∷ c ∷ more) = ends_with expected (c ∷ more)

-- the describing sets of a group's items: of those in the body of its head, and of those of the blocks behind it
pub record AreGroupSets (h : List Dimension) (body : Body) (tail : List Block) (items : GroupItems) : Type 0 where
  pub head : AreItemSets h body items.head
  pub others : AreItemSets h (together (front body 0) tail) items.others

-- The block that is divided, as it was and as it is, and the new block in its cell. The old block keeps its cell,
-- takes the fresh stamp and links to the new one, which has the old stamp and the old link.

abbrev pub left_block : ℕ → ℕ → Body → Block
left_block cell stamp body = record { stamp = stamp; right = Some cell; body = body }

abbrev pub right_block : Block → Body → Block
right_block old body = record { stamp = old.stamp; right = old.right; body = body }

-- by the good cut: the left items stay, in cut order, and the right ones go to the new block
pub record IsCutInTwo (h : List Dimension) (old : Block) (cell stamp : ℕ) (head new : Block) : Type 0 where
  pub sets : List DescSet
  pub are_sets : AreItemSets h old.body sets
  pub cut : Cut
  pub good : IsGoodCut h sets cut
  pub order : IsPermutation (range_with_len 0 (size old.body)) cut.order.items
  pub head_is : head ≡ left_block cell stamp (body_at old.body (take cut.left cut.order.items))
  pub new_is : new ≡ right_block old (body_at old.body (drop cut.left cut.order.items))

-- there is no good cut
pub record HasNoCut (h : List Dimension) (body : Body) : Type 0 where
  pub sets : List DescSet
  pub are_sets : AreItemSets h body sets
  pub none : (cut : Cut) → IsDimCut h sets cut → ¬ IsGood h sets cut

-- by the good head cut: the kept items stay, and the head's other items go to the new block
pub record IsCutByHead (h : List Dimension) (old : Block) (tail : List Block) (cell stamp : ℕ) (head new : Block) : Type 0 where
  pub items : GroupItems
  pub are_sets : AreGroupSets h old.body tail items
  pub cut : HeadCut
  pub good : IsGoodHeadCut h items cut
  pub head_is : head ≡ left_block cell stamp (body_at old.body (kept_places h items.head cut))
  pub new_is : new ≡ right_block old (body_at old.body (parted_places h items.head cut))

-- there is no good head cut
pub record HasNoHeadCut (h : List Dimension) (body : Body) (tail : List Block) : Type 0 where
  pub items : GroupItems
  pub are_sets : AreGroupSets h body tail items
  pub none : (cut : HeadCut) → IsHeadCut h items cut → ¬ IsGoodHead h items cut

-- the head is its whole group and has no good cut; or more blocks than these are behind it, or it has no good head cut
abbrev pub WhyHalved : List Dimension → ℕ → Block → List Block → Type 0
WhyHalved h expected head tail =
    ((head.stamp ≡ expected) × HasNoCut h head.body)
    ⊎ ((¬ (head.stamp ≡ expected)) × ((ends_with expected tail ≡ false) ⊎ HasNoHeadCut h head.body tail))

-- by halves: the first half of the items goes to the new block, and the rest stays
pub record IsHalved (old : Block) (cell stamp : ℕ) (head new : Block) : Type 0 where
  pub head_is : head ≡ left_block cell stamp (rest old.body (half old.body))
  pub new_is : new ≡ right_block old (front old.body (half old.body))
