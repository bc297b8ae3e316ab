-- Cuts of items with describing sets, and the good one.
use Rattle.std.specs.{List.{slice_index_or, flat_map}, Prelude.{ℕ, ◌≡◌, ◌-◌, ◌*◌, ◌<◌, ◌≤◌, ◌⊎◌, List, [], length, map, take, drop, All}}
use Rattle.dim_hierarchy.specs.{Dimension.{Dimension, tree}, Tree.up}
use Rattle.describing_set.specs.{DescSet.part_at, declared.set.DescSet.DescSet}
use Rattle.hierarchy_split.specs.{Order.{least, AreEqual, IsOrder, IsPlace, shared_count}, declared.cut.Cut.Cut}

-- a set's concepts in a dimension, each lifted to a level
abbrev pub lifted : List Dimension → ℕ → ℕ → DescSet → List ℕ
lifted h dim level set = map (λ id. up (tree h dim) id level) (part_at set dim).ids.items

-- the least lifted concept of each item
abbrev pub leasts : List Dimension → List DescSet → ℕ → ℕ → List ℕ
leasts h sets dim level = map (λ set. least (lifted h dim level set)) sets

-- the level is at most every item's own level in the dimension
abbrev pub IsAbove : List DescSet → ℕ → ℕ → Type 0
IsAbove sets dim level = All (λ set. level ≤ (part_at set dim).level) sets

-- the lowest-numbered of these levels at which the least lifted concepts are not all equal
pub record IsCutLevel (h : List Dimension) (sets : List DescSet) (dim level : ℕ) : Type 0 where
  pub above : IsAbove sets dim level
  pub differ : ¬ AreEqual (leasts h sets dim level)
  pub first : (lower : ℕ) → lower < level → AreEqual (leasts h sets dim lower)

-- the cut of its dimension
pub record IsDimCut (h : List Dimension) (sets : List DescSet) (cut : Cut) : Type 0 where
  pub dim : cut.dim < length h
  pub level : IsCutLevel h sets cut.dim cut.level
  pub order : IsOrder (leasts h sets cut.dim cut.level) cut.order.items
  pub place : IsPlace (leasts h sets cut.dim cut.level) cut.order.items cut.left

-- the lifted concepts of the items at some places
abbrev pub concepts_of : List Dimension → List DescSet → ℕ → ℕ → List ℕ → List ℕ
concepts_of h sets dim level places = flat_map (λ place. slice_index_or (map (lifted h dim level) sets) place []) places

-- how many concepts of the level the lifted items on both sides have
abbrev pub overlap : List Dimension → List DescSet → Cut → ℕ
overlap h sets cut =
    shared_count
    (concepts_of h sets cut.dim cut.level (take cut.left cut.order.items))
    (concepts_of h sets cut.dim cut.level (drop cut.left cut.order.items))

-- each side has a third of the items at least, and the overlap is a fifth of their number at most
pub record IsGood (h : List Dimension) (sets : List DescSet) (cut : Cut) : Type 0 where
  pub left : length sets ≤ 3 * cut.left
  pub right : length sets ≤ 3 * (length sets - cut.left)
  pub overlap : 5 * overlap h sets cut ≤ length sets

-- the first cut has the smaller overlap; or the same, and a level of a lower number; or that too, and no higher dimension
abbrev pub IsBetterCut : List Dimension → List DescSet → Cut → Cut → Type 0
IsBetterCut h sets cut other =
    (overlap h sets cut < overlap h sets other)
    ⊎ ((overlap h sets cut ≡ overlap h sets other)
    × ((cut.level < other.level) ⊎ ((cut.level ≡ other.level) × (cut.dim ≤ other.dim))))

-- the good cut of the items: that of a dimension, and of the dimensions whose cuts are good it comes first
pub record IsGoodCut (h : List Dimension) (sets : List DescSet) (cut : Cut) : Type 0 where
  pub dim_cut : IsDimCut h sets cut
  pub good : IsGood h sets cut
  pub first : (other : Cut) → IsDimCut h sets other → IsGood h sets other → IsBetterCut h sets cut other
