-- What is kept of a group's head cuts: in each dimension the level, and which items of the head are crossed.
use Rattle.std.specs.{List.slice_index_or, Prelude.{ℕ, ◌≡◌, ◌<◌, ◌≤◌, List, [], length, map, All, None, Some, IfSome, IfNone}}
use Rattle.dim_hierarchy.specs.Dimension.{Dimension}
use Rattle.describing_set.specs.{Sets.IsDescSetOf, declared.set.DescSet.DescSet}
use Rattle.hierarchy_split.specs.{Best.IsFlaggedGood, Crossing.is_crossed, Cut.leasts, Head.{GroupItems, IsHeadLevel}, Limits.most_items, declared.head.DimCuts.DimCuts, declared.head.HeadCuts.HeadCuts, declared.head_cut.HeadCut.HeadCut}

-- what is kept for a dimension is that of these items
pub record AreDimCutsOf (h : List Dimension) (items : GroupItems) (dim : ℕ) (cuts : DimCuts) : Type 0 where
  pub level : IfSome cuts.level (IsHeadLevel h items dim)
  pub none : IfNone cuts.level ((level : ℕ) → ¬ IsHeadLevel h items dim level)
  pub crossed : IfSome cuts.level (λ level. cuts.crossed.items ≡ map (is_crossed h items.head items.others dim level) items.head)

-- what is kept for a dimension; past the last one there is none
abbrev pub cuts_at : List DimCuts → ℕ → DimCuts
cuts_at dims dim = slice_index_or dims dim (record { level = None; crossed = record { items = [] } })

-- the head cuts of a group with these items
pub record AreHeadCutsOf (h : List Dimension) (items : GroupItems) (cuts : HeadCuts) : Type 0 where
  pub head : cuts.head.now ≡ items.head
  pub some : 2 ≤ length items.head
  pub few : length items.head ≤ most_items
  pub valid : All (IsDescSetOf h) items.head
  pub count : length cuts.dims.items ≡ length h
  pub dims : (dim : ℕ) → dim < length h → AreDimCutsOf h items dim (cuts_at cuts.dims.items dim)

-- head cuts of this hierarchy: those of some items
pub record AreHeadCuts (h : List Dimension) (cuts : HeadCuts) : Type 0 where
  pub items : GroupItems
  pub cuts_of : AreHeadCutsOf h items cuts

-- a cut of the dimension is good by what is kept for it
pub record IsFlaggedIn (h : List Dimension) (head : List DescSet) (dim : ℕ) (cuts : DimCuts) (cut : HeadCut) : Type 0 where
  pub in_dim : cut.dim ≡ dim
  pub level : cuts.level ≡ Some cut.level
  pub good : IsFlaggedGood (leasts h head dim cut.level) cuts.crossed.items cut

-- a cut is good by what is kept for its dimension
pub record IsFlagged (h : List Dimension) (head : List DescSet) (dims : List DimCuts) (cut : HeadCut) : Type 0 where
  pub dim : cut.dim < length h
  pub flagged : IsFlaggedIn h head cut.dim (cuts_at dims cut.dim) cut
