-- The marks of the concepts of a dimension by a pick.
use Rattle.std.specs.{List.{slice_index_or, list_any}, Prelude.{ℕ, ◌≡◌, ◌<◌, ◌==◌, Bool, false, if◌then◌else◌, List, [], length}}
use Rattle.dim_hierarchy.specs.{Concept.{level_of, number_of}, Filter.is_picked, Tree.{Tree, IsConcept, is_under, parent, parents_at}, declared.filter.Pick.Pick, declared.filter.Pick.TheVariants.{All, Ids}}

-- the pick lists a concept that is under this one
abbrev pub is_above : Tree → Pick → ℕ → Bool
is_above t All id = false
is_above t (Ids ids) id = list_any (λ x. is_under t x id) ids

-- 2 for a concept that the pick has, 1 for one that else lies above a listed one, 0 for any other
abbrev pub mark_of : Bool → Bool → ℕ
mark_of under above = if under then 2 else if above then 1 else 0

abbrev pub mark : Tree → Pick → ℕ → ℕ
mark t p id = mark_of (is_picked t p id) (is_above t p id)

-- the marks of the concepts of a level by number
pub record AreLevelMarks (t : Tree) (p : Pick) (level : ℕ) (marks : List ℕ) : Type 0 where
  pub count : length marks ≡ length (parents_at t level)
  pub each : (id : ℕ) → IsConcept t id → level_of id ≡ level → slice_index_or marks (number_of id) 0 ≡ mark t p id

-- the same for levels from ALL on
pub record AreUpperMarks (t : Tree) (p : Pick) (levels : ℕ) (marks : List (List ℕ)) : Type 0 where
  pub count : length marks ≡ levels
  pub each : (level : ℕ) → level < levels → AreLevelMarks t p level (slice_index_or marks level [])

-- the marks of the concepts of all levels
abbrev pub AreMarksOf : Tree → Pick → List (List ℕ) → Type 0
AreMarksOf t p marks = AreUpperMarks t p (length t) marks

-- the mark of a concept among these
abbrev pub mark_at : List (List ℕ) → ℕ → ℕ
mark_at marks id = slice_index_or (slice_index_or marks (level_of id) []) (number_of id) 0

-- Making the marks of a level where concepts are listed.

-- the mark where a concept that is under a listed one isn't seen as such
abbrev pub listed_mark : Tree → List ℕ → ℕ → ℕ
listed_mark t ids id = mark_of (list_any (λ x. id == x) ids) (list_any (λ x. is_under t x id) ids)

-- the marks of a level by number, so far as concepts are listed
pub record AreListed (t : Tree) (level : ℕ) (ids marks : List ℕ) : Type 0 where
  pub each : (id : ℕ) → IsConcept t id → level_of id ≡ level → slice_index_or marks (number_of id) 0 ≡ listed_mark t ids id

-- the mark of a concept with one listed concept more
abbrev pub mark_more : Bool → Bool → ℕ → ℕ
mark_more under above old = if under then 2 else if above then (if old == 0 then 1 else old) else old

abbrev pub noted : Tree → ℕ → ℕ → ℕ → ℕ
noted t x id old = mark_more (id == x) (is_under t x id) old

-- a listed concept more was noted in the marks of a level
pub record Notes (t : Tree) (level x : ℕ) (old new : List ℕ) : Type 0 where
  pub each : (id : ℕ) → IsConcept t id → level_of id ≡ level → slice_index_or new (number_of id) 0 ≡ noted t x id (slice_index_or old (number_of id) 0)

-- the mark of a concept, which is 2 where its parent's is
abbrev pub raised : Bool → ℕ → ℕ
raised above old = if above then 2 else old

abbrev pub inherited : Tree → List ℕ → ℕ → ℕ → ℕ
inherited t upper id old = raised (slice_index_or upper (number_of (parent t id)) 0 == 2) old

-- each mark of a level was made 2 where that of the parent is
pub record Inherits (t : Tree) (level : ℕ) (upper old new : List ℕ) : Type 0 where
  pub each : (id : ℕ) → IsConcept t id → level_of id ≡ level → slice_index_or new (number_of id) 0 ≡ inherited t upper id (slice_index_or old (number_of id) 0)
