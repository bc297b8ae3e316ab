-- The first of the head cuts that have a property, and the better one of two.
use Rattle.std.specs.{List.{count_by, slice_index_or}, Prelude.{ℕ, ◌≡◌, ◌*◌, ◌<◌, ◌≤◌, ◌⊎◌, ◌==◌, List, length, slice_index, Bool, true, false, Option, MatchOption, IfSome}}
use Rattle.hierarchy_split.specs.{Head.IsBetterHead, declared.head_cut.HeadCut.HeadCut}

-- no cut with the property comes before this one
pub record IsFirstOf (P : HeadCut → Type 0) (cut : HeadCut) : Type 0 where
  pub holds : P cut
  pub first : (other : HeadCut) → P other → IsBetterHead cut other

-- none where no cut has the property, or the first one that has
abbrev pub IsBestWith : (HeadCut → Type 0) → Option HeadCut → Type 0
IsBestWith P best = MatchOption best ((cut : HeadCut) → ¬ P cut) (IsFirstOf P)

-- there is a cut, and the other does not come before it
abbrev pub IsAtLeast : Option HeadCut → HeadCut → Type 0
IsAtLeast best other = MatchOption best ⊥ (λ cut. IsBetterHead cut other)

-- the one of two that comes first, where there are any
pub record IsBetterOf (one two best : Option HeadCut) : Type 0 where
  pub either : (best ≡ one) ⊎ (best ≡ two)
  pub first : IfSome one (IsAtLeast best)
  pub second : IfSome two (IsAtLeast best)

-- no item with this least concept is crossed
abbrev pub IsUncrossed : List ℕ → List Bool → ℕ → Type 0
IsUncrossed leasts crossed concept = (k : ℕ) → k < length leasts → slice_index leasts k ≡ concept → slice_index_or crossed k true ≡ false

-- the cut of these least concepts is good, where the items that are crossed are known
pub record IsFlaggedGood (leasts : List ℕ) (crossed : List Bool) (cut : HeadCut) : Type 0 where
  pub kept : cut.kept ≡ count_by (λ x. x == cut.concept) leasts
  pub third : length leasts ≤ 3 * cut.kept
  pub part : cut.kept < length leasts
  pub apart : IsUncrossed leasts crossed cut.concept

-- it is one of a level of a dimension
pub record IsFlaggedAt (dim level : ℕ) (leasts : List ℕ) (crossed : List Bool) (cut : HeadCut) : Type 0 where
  pub in_dim : cut.dim ≡ dim
  pub at_level : cut.level ≡ level
  pub good : IsFlaggedGood leasts crossed cut
