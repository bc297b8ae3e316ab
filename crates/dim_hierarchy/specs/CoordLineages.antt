-- A coordinate with the lineages of its concepts.
use Rattle.std.specs.{Coded.{Coded, code_by, coded×, coded_ℕ, coded_list}, List.slice_index_or, Prelude.{ℕ, ◌≡◌, ◌<◌, ◌≤◌, refl, List, [], length}}
use Rattle.dim_hierarchy.specs.{Dimension.{Dimension, tree}, Row.{concept_at, IsCoordOf}, Stored.dimension_code, Tree.{leaf_level, up}, declared.row.Coord.Coord}

-- a coordinate, and its hierarchy
pub record CoordOf : Type 0 where
  pub hierarchy : List Dimension
  pub coord : Coord

abbrev pub coord_of : List Dimension → Coord → CoordOf
coord_of h at = record { hierarchy = h; coord = at }

-- for each dimension the ancestors of the coordinate's concept by their level
pub record AreLineagesAt (h : List Dimension) (at : Coord) (lineages : List (List ℕ)) : Type 0 where
  pub valid : IsCoordOf h at
  pub count : length lineages ≡ 8
  pub long : (dim : ℕ) → dim < length h → length (slice_index_or lineages dim []) ≡ 9
  pub ancestors : (dim level : ℕ) → dim < length h → level ≤ leaf_level (tree h dim)
      → slice_index_or (slice_index_or lineages dim []) level 0 ≡ up (tree h dim) (concept_at at dim) level

-- these are stored as their parts
abbrev pub coord_of_code : Coded CoordOf
coord_of_code =
    code_by (List Dimension × List ℕ) (coded× (coded_list dimension_code) (coded_list coded_ℕ))
    (λ c. (c.hierarchy, c.coord.at)) (λ p. record { hierarchy = p.0; coord = record { at = p.1 } }) (λ _. refl)
