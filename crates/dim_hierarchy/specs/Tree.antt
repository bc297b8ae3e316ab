-- The concepts of one dimension as a tree, and the way up in it.
use Rattle.std.specs.{List.{slice_index_or, list_any}, Prelude.{ℕ, zero, suc, ◌≡◌, ◌+◌, ◌-◌, ◌<◌, ◌≤◌, List, [], ◌∷◌, ◌++◌, Bool, ◌&&◌, ◌==◌, nat_lt, length, slice_index, slice_set, replicate}}
use Rattle.dim_hierarchy.specs.Concept.{level_of, number_of, id_of}

-- For each level, the parents of its concepts by number. Level 0 has ALL alone, which is its own parent.
abbrev pub Tree : Type 0
Tree = List (List ℕ)

-- the parents of the concepts of a level
abbrev pub parents_at : Tree → ℕ → List ℕ
parents_at t level = slice_index_or t level []

-- the level of the leaves, which is the last
abbrev pub leaf_level : Tree → ℕ
leaf_level t = length t - 1

-- the number stands for a concept of the tree
pub record IsConcept (t : Tree) (id : ℕ) : Type 0 where
  pub level : level_of id < length t
  pub number : number_of id < length (parents_at t (level_of id))

-- the same as a test
abbrev pub is_concept : Tree → ℕ → Bool
is_concept t id = nat_lt (level_of id) (length t) && nat_lt (number_of id) (length (parents_at t (level_of id)))

-- a concept of the last level
pub record IsLeaf (t : Tree) (id : ℕ) : Type 0 where
  pub concept : IsConcept t id
  pub last : level_of id ≡ leaf_level t

-- the parent of a concept
abbrev pub parent : Tree → ℕ → ℕ
parent t id = slice_index (parents_at t (level_of id)) (number_of id)

-- a tree has 1 to 8 levels below ALL, and each parent is a concept of the level above
pub record IsTree (t : Tree) : Type 0 where
  pub some : 2 ≤ length t
  pub few : length t ≤ 9
  pub top : parents_at t 0 ≡ 0 ∷ []
  pub parent_concept : (id : ℕ) → IsConcept t id → IsConcept t (parent t id)
  pub parent_level : (id : ℕ) → IsConcept t id → level_of (parent t id) ≡ level_of id - 1

-- Ancestors.

-- what is reached from a concept by taking the parent so many times
unfoldable pub climb : Tree → ℕ → ℕ → ℕ
climb t zero id = id
climb t (suc n) id = climb t n (parent t id)

-- the ancestor of a concept at a level that is at most its own
unfoldable pub up : Tree → ℕ → ℕ → ℕ
up t id level = climb t (level_of id - level) id

-- a concept and what is reached from it by up to so many parents
unfoldable pub way_up : Tree → ℕ → ℕ → List ℕ
way_up t zero id = id ∷ []
way_up t (suc n) id = id ∷ way_up t n (parent t id)

-- as a test: the second concept is on the first one's way up to ALL
unfoldable pub is_under : Tree → ℕ → ℕ → Bool
is_under t id top = list_any (λ a. a == top) (way_up t (level_of id) id)

-- Growth.

-- so many levels below ALL, and no concept on them
abbrev pub new_tree : ℕ → Tree
new_tree levels = (0 ∷ []) ∷ replicate levels []

-- the concept that is added next under a parent: the level below, and the next number there
abbrev pub next_under : Tree → ℕ → ℕ
next_under t parent = id_of (level_of parent + 1) (length (parents_at t (level_of parent + 1)))

-- a tree with one concept more under a parent
abbrev pub with_child : Tree → ℕ → Tree
with_child t parent = slice_set t (level_of parent + 1) (parents_at t (level_of parent + 1) ++ parent ∷ [])
