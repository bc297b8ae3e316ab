-- Dimensions and hierarchies: what contracts see of them, and how they grow.
use Rattle.std.specs.{Cmp.Lexicographic.slice_cmp, Ordering.nat_cmp, Prelude.{ℕ, ◌≡◌, ◌≢◌, ◌<◌, ◌≤◌, ◌==◌, not, ◌||◌, nat_lt, nat_le, Option, Some, None, is_some, if◌then◌else◌, List, [], ◌∷◌, ◌++◌, length, position, slice_index_or, bytes_eq, All, Contains, AllPairs}}
use Rattle.std.specs.FinMap as map
use Rattle.dim_hierarchy.specs.{Concept.level_of, Tree.{Tree, IsConcept, is_concept, IsTree, leaf_level, new_tree, next_under, with_child}, declared.hierarchy.ConceptFault.ConceptFault, declared.hierarchy.DimFault.DimFault}
use Rattle.dim_hierarchy.specs.declared.hierarchy.DimFault.TheVariants as dim
use Rattle.dim_hierarchy.specs.declared.hierarchy.ConceptFault.TheVariants as concept

-- what byte strings stand for, each for one concept
abbrev pub NameMap : Type 0
NameMap = map.FinMap (slice_cmp nat_cmp) ℕ

-- a dimension: its name, its concepts as a tree, and the concepts below ALL in the order in which they were added and by name
pub record Dimension : Type 0 where
  pub name : List ℕ
  pub tree : Tree
  pub order : List ℕ
  pub names : NameMap

-- Dimensions by number. Past the last one there is no name and no concept.

abbrev pub no_dimension : Dimension
no_dimension = record { name = []; tree = []; order = []; names = map.empty }

abbrev pub dimension : List Dimension → ℕ → Dimension
dimension h dim = slice_index_or h dim no_dimension

abbrev pub tree : List Dimension → ℕ → Tree
tree h dim = (dimension h dim).tree

-- the concept of a name in a dimension
abbrev pub find : List Dimension → ℕ → List ℕ → Option ℕ
find h dim name = map.get (dimension h dim).names name

-- the number of the dimension with a name
abbrev pub find_dim : List Dimension → List ℕ → Option ℕ
find_dim h name = position (λ d. bytes_eq d.name name) h

-- What always holds.

-- the ids of a list are those of a tree's concepts below ALL, each once
unfoldable pub IsOrderOf : Tree → List ℕ → Type 0
IsOrderOf t order =
    All (λ id. IsConcept t id × (0 < level_of id)) order
    × ((id : ℕ) → IsConcept t id → 0 < level_of id → Contains order id)
    × AllPairs (λ id later. id ≢ later) order

-- the concepts of a dimension below ALL have an order and a name each
pub record IsDimension (d : Dimension) : Type 0 where
  pub tree : IsTree d.tree
  pub order : IsOrderOf d.tree d.order
  pub named : (name : List ℕ) (id : ℕ) → map.get d.names name ≡ Some id → IsConcept d.tree id × (0 < level_of id)
  pub once : (name other : List ℕ) (id : ℕ) → map.get d.names name ≡ Some id → map.get d.names other ≡ Some id → name ≡ other
  pub all_named : (id : ℕ) → IsConcept d.tree id → 0 < level_of id → (name : List ℕ) × (map.get d.names name ≡ Some id)

-- at most 8 dimensions of different names
pub record IsHierarchy (h : List Dimension) : Type 0 where
  pub few : length h ≤ 8
  pub each : (dim : ℕ) → dim < length h → IsDimension (dimension h dim)
  pub apart : (i j : ℕ) → i < length h → j < length h → (dimension h i).name ≡ (dimension h j).name → i ≡ j

-- Growth, and what stands against it: the first fault in order.

-- a dimension with so many levels below ALL and no concept on them
abbrev pub new_dimension : List ℕ → ℕ → Dimension
new_dimension name levels = record { name = name; tree = new_tree levels; order = []; names = map.empty }

abbrev pub dim_fault : List Dimension → List ℕ → ℕ → Option DimFault
dim_fault h name levels =
    if nat_le 8 (length h) then Some dim.Full
    else if is_some (find_dim h name) then Some dim.Twice
    else if nat_lt levels 1 || nat_lt 8 levels then Some dim.BadLevels
    else None

-- a dimension with one concept more, of this name, under a parent; it is the last in order
abbrev pub with_concept : Dimension → List ℕ → ℕ → Dimension
with_concept d name parent =
    record {
      name = d.name;
      tree = with_child d.tree parent;
      order = d.order ++ next_under d.tree parent ∷ [];
      names = map.insert d.names name (next_under d.tree parent);
    }

abbrev pub concept_fault : List Dimension → ℕ → List ℕ → ℕ → Option ConceptFault
concept_fault h dim name parent =
    if nat_le (length h) dim then Some concept.NoDim
    else if not (is_concept (tree h dim) parent) then Some concept.NoParent
    else if is_some (find h dim name) then Some concept.Twice
    else if level_of parent == leaf_level (tree h dim) then Some concept.TooDeep
    else None
