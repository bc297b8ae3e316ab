-- What a set tells of the rows that it is the set of.
use Rattle.std.specs.Prelude.{ℕ, ◌≡◌, ◌≢◌, ◌<◌, ◌≤◌, ⊤, true, false, List, [], length, All as Every, Contains}
use Rattle.describing_set.specs.{DescSet.part_at, Filter.IsInside, declared.set.DescSet.DescSet}
use Rattle.dim_hierarchy.specs.{Concept.level_of, Dimension.tree, Filter.{matches, pick_at}, Tree.{IsConcept, Tree, up}, declared.filter.Pick.TheVariants.All, declared.row.Row.Row}
use Rattle.list_words.specs.Counts.{Each}
use Rattle.group_answer.specs.Groups.{Question, concept_of}
use Rattle.group_answer.specs.declared.told.Told.{Told}
use Rattle.group_answer.specs.declared.told.Told.TheVariants.{NoRow, Under, Unknown}

-- there are rows, all match, and all are under one concept
pub record AreUnder (q : Question) (id : ℕ) (rows : List Row) : Type 0 where
  pub some : rows ≢ []
  pub each : Each (λ (r : Row). (matches q.hierarchy q.filter r.at ≡ true) × (concept_of q r ≡ id)) rows

-- none of the rows matches, or all do and are under one concept, or it is not known
abbrev pub IsTold : Question → List Row → Told → Type 0
IsTold q rows NoRow = Each (λ (r : Row). matches q.hierarchy q.filter r.at ≡ false) rows
IsTold q rows (Under id) = AreUnder q id rows
IsTold q rows Unknown = ⊤

-- When a set tells all.

-- the filter picks all in each dimension
abbrev pub IsOfAll : Question → Type 0
IsOfAll q = (dim : ℕ) → dim < length q.hierarchy → pick_at q.filter dim ≡ All

-- any two of some concepts have the same ancestor at a level
abbrev pub HaveOneAncestor : Tree → (level : ℕ) → List ℕ → Type 0
HaveOneAncestor t level ids = (a b : ℕ) → Contains ids a → Contains ids b → up t a level ≡ up t b level

-- in the question's dimension a set is of its level or of a deeper one, and has at most one ancestor at it
pub record IsNarrow (q : Question) (set : DescSet) : Type 0 where
  pub level : q.level ≤ (part_at set q.dim).level
  pub one : HaveOneAncestor (tree q.hierarchy q.dim) q.level (part_at set q.dim).ids.items

-- all that a set covers matches and is under one concept, and the set is not empty
pub record IsCommon (q : Question) (set : DescSet) (id : ℕ) : Type 0 where
  pub level : q.level ≤ (part_at set q.dim).level
  pub inside : IsInside q.hierarchy set q.filter
  pub some : 0 < length (part_at set q.dim).ids.items
  pub each : Every (λ x. up (tree q.hierarchy q.dim) x q.level ≡ id) (part_at set q.dim).ids.items

-- concepts of a dimension, none above a level
pub record AreBelow (t : Tree) (level : ℕ) (ids : List ℕ) : Type 0 where
  pub concepts : Every (IsConcept t) ids
  pub below : Every (λ id. level ≤ level_of id) ids
