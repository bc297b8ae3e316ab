-- How many concepts a hierarchy has.
use Rattle.std.specs.Prelude.{ℕ, ◌≡◌, ◌≤◌, ◌^◌, List, length, drop, sum_by}
use Rattle.dim_hierarchy.specs.Dimension.{Dimension, IsHierarchy}

-- how many concepts there are below ALL, in all dimensions
abbrev pub concept_count : List Dimension → ℕ
concept_count h = sum_by (λ d. sum_by length (drop 1 d.tree)) h

-- a hierarchy and the number of its concepts
pub record IsCounted (h : List Dimension) (concepts : ℕ) : Type 0 where
  pub hierarchy : IsHierarchy h
  pub count : concepts ≡ concept_count h
  pub few : concepts ≤ 2 ^ 28
