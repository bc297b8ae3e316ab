-- Head cuts: which items stay in the first block of a group that has more blocks, and the good one.
use Rattle.std.specs.{List.{filter, range_with_len}, Option.option_map_or, Prelude.{ℕ, ◌≡◌, ◌*◌, ◌<◌, ◌≤◌, ◌⊎◌, ◌==◌, List, [], ◌∷◌, ◌++◌, length, slice_get, All, Contains, Bool, false, not}}
use Rattle.dim_hierarchy.specs.Dimension.{Dimension}
use Rattle.describing_set.specs.declared.set.DescSet.{DescSet}
use Rattle.hierarchy_split.specs.{Cut.{lifted, IsAbove, IsCutLevel}, Order.least, declared.head_cut.HeadCut.HeadCut}

-- a group's items: those of its first block, the head, and those of its other blocks
pub record GroupItems : Type 0 where
  pub head : List DescSet
  pub others : List DescSet

-- the items of a head, before those of other blocks are known
abbrev pub head_items : List DescSet → GroupItems
head_items head = record { head = head; others = [] }

-- with an item of another block more
abbrev pub with_other : GroupItems → DescSet → GroupItems
with_other items set = record { head = items.head; others = items.others ++ set ∷ [] }

-- the head's cut level in the dimension, if it is at most the own level there of each item of the other blocks too
pub record IsHeadLevel (h : List Dimension) (items : GroupItems) (dim level : ℕ) : Type 0 where
  pub cut_level : IsCutLevel h items.head dim level
  pub others : IsAbove items.others dim level

-- an item of the head is kept if its least lifted concept is this one
abbrev pub is_kept : List Dimension → HeadCut → DescSet → Bool
is_kept h cut set = least (lifted h cut.dim cut.level set) == cut.concept

abbrev pub kept_items : List Dimension → List DescSet → HeadCut → List DescSet
kept_items h head cut = filter (is_kept h cut) head

-- the places of the head's items that are kept, and those of the others, each in their order

abbrev pub is_kept_at : List Dimension → List DescSet → HeadCut → ℕ → Bool
is_kept_at h head cut place = option_map_or (is_kept h cut) (slice_get head place) false

abbrev pub kept_places : List Dimension → List DescSet → HeadCut → List ℕ
kept_places h head cut = filter (is_kept_at h head cut) (range_with_len 0 (length head))

abbrev pub parted_places : List Dimension → List DescSet → HeadCut → List ℕ
parted_places h head cut = filter (λ place. not (is_kept_at h head cut place)) (range_with_len 0 (length head))

-- the other items of the head, and those of the other blocks
abbrev pub parted_items : List Dimension → GroupItems → HeadCut → List DescSet
parted_items h items cut = filter (λ set. not (is_kept h cut set)) items.head ++ items.others

-- the head cut of its dimension and concept: how many items it keeps
pub record IsHeadCut (h : List Dimension) (items : GroupItems) (cut : HeadCut) : Type 0 where
  pub dim : cut.dim < length h
  pub level : IsHeadLevel h items cut.dim cut.level
  pub kept : cut.kept ≡ length (kept_items h items.head cut)

-- A third of the head's items at least is kept, and not all of them; and no lifted concept of a kept item is one of
-- another item of the group.
pub record IsGoodHead (h : List Dimension) (items : GroupItems) (cut : HeadCut) : Type 0 where
  pub third : length items.head ≤ 3 * cut.kept
  pub part : cut.kept < length items.head
  pub apart : All (λ kept. All (λ other. All (λ id. ¬ Contains (lifted h cut.dim cut.level other) id) (lifted h cut.dim cut.level kept))
      (parted_items h items cut)) (kept_items h items.head cut)

-- more items are kept; or as many, at a level of a lower number; or at the same level, and in a lower dimension; or there too, and by no higher concept
abbrev pub IsBetterHead : HeadCut → HeadCut → Type 0
IsBetterHead cut other =
    (other.kept < cut.kept)
    ⊎ ((cut.kept ≡ other.kept)
    × ((cut.level < other.level)
    ⊎ ((cut.level ≡ other.level) × ((cut.dim < other.dim) ⊎ ((cut.dim ≡ other.dim) × (cut.concept ≤ other.concept))))))

-- the good head cut: of those that are good it comes first
pub record IsGoodHeadCut (h : List Dimension) (items : GroupItems) (cut : HeadCut) : Type 0 where
  pub head_cut : IsHeadCut h items cut
  pub good : IsGoodHead h items cut
  pub first : (other : HeadCut) → IsHeadCut h items other → IsGoodHead h items other → IsBetterHead cut other
