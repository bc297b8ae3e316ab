-- Which rows have a transfer text, over a hierarchy and by the format alone.
use Rattle.std.specs.{Int.w64, Prelude.{ℕ, ◌≡◌, ◌-◌, ◌^◌, ◌<◌, List, length, drop, replicate, FitsSigned, All}}
use Rattle.dim_hierarchy.specs.{Dimension.Dimension, Rows.IsRowOf, declared.row.Row.Row}

-- a row of the hierarchy, with eight places and numbers of their widths
pub record IsSpelled (h : List Dimension) (row : Row) : Type 0 where
  pub valid : IsRowOf h row
  pub places : length row.at.at ≡ 8
  pub number : row.no < 2 ^ 64
  pub measures : FitsSigned w64 row.measures

-- such rows, fewer than 2^64
pub record AreSpelled (h : List Dimension) (rows : List Row) : Type 0 where
  pub few : length rows < 2 ^ 64
  pub each : All (IsSpelled h) rows

-- a row of whatever hierarchy: eight ids of any value, with ALL past the last dimension, and numbers of their widths
pub record IsOfFormat (dims : ℕ) (row : Row) : Type 0 where
  pub places : length row.at.at ≡ 8
  pub ids : All (λ id. id < 2 ^ 32) row.at.at
  pub rest : drop dims row.at.at ≡ replicate (8 - dims) 0
  pub number : row.no < 2 ^ 64
  pub measures : FitsSigned w64 row.measures

-- such rows, fewer than 2^64
pub record AreOfFormat (dims : ℕ) (rows : List Row) : Type 0 where
  pub few : length rows < 2 ^ 64
  pub each : All (IsOfFormat dims) rows
