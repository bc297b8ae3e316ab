-- The ancestors of the concepts of a tree, kept by level.
use Rattle.std.specs.{List.slice_index_or, Prelude.{ℕ, ◌≡◌, ◌≤◌, List, [], length}}
use Rattle.dim_hierarchy.specs.{Concept.{level_of, number_of}, Tree.{Tree, IsConcept, parents_at, up}}

-- for each level, the lineages of its concepts by number; a lineage has the concept's ancestors by their level
abbrev pub Lineages : Type 0
Lineages = List (List (List ℕ))

-- the lineages of the concepts of a level
abbrev pub lineages_at : Lineages → ℕ → List (List ℕ)
lineages_at lineages level = slice_index_or lineages level []

-- the lineage of a concept
abbrev pub lineage_of : Lineages → ℕ → List ℕ
lineage_of lineages id = slice_index_or (lineages_at lineages (level_of id)) (number_of id) []

-- a lineage of 9 places for each concept of the tree, with its ancestors and itself
pub record AreLineagesOf (t : Tree) (lineages : Lineages) : Type 0 where
  pub levels : length lineages ≡ 9
  pub counts : (level : ℕ) → length (lineages_at lineages level) ≡ length (parents_at t level)
  pub long : (id : ℕ) → IsConcept t id → length (lineage_of lineages id) ≡ 9
  pub ancestors : (id level : ℕ) → IsConcept t id → level ≤ level_of id → slice_index_or (lineage_of lineages id) level 0 ≡ up t id level
