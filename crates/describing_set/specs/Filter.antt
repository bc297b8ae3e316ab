-- How a filter lies to a describing set.
use Rattle.std.specs.{List.{list_any, list_all}, Prelude.{ℕ, ◌≡◌, ◌≢◌, ◌<◌, ◌≤◌, ◌⊎◌, List, [], length, All as Each, Any, Bool, true, ◌&&◌, ◌||◌, nat_lt, if◌then◌else◌}}
use Rattle.dim_hierarchy.specs.{Dimension.{Dimension, tree}, Filter.{in_each, is_picked, pick_at}, Meaning.{IsUnder, IsPicked}, Tree.{Tree, is_under}, declared.filter.Pick.Pick, declared.filter.Pick.TheVariants.{All, Ids}}
use Rattle.describing_set.specs.{DescSet.part_at, declared.bearing.Bearing.Bearing, declared.part.Part.Part, declared.set.DescSet.DescSet}
use Rattle.describing_set.specs.declared.bearing.Bearing.TheVariants as it

-- Inside: the filter matches each coordinate that the set covers.

-- in each dimension the filter's pick has each concept of the set
pub record IsInside (h : List Dimension) (set : DescSet) (f : List Pick) : Type 0 where
  pub picked : (dim : ℕ) → dim < length h → Each (IsPicked (tree h dim) (pick_at f dim)) (part_at set dim).ids.items

-- the same as tests
abbrev pub is_part_inside : Tree → Part → Pick → Bool
is_part_inside t p pick = list_all (is_picked t pick) p.ids.items

abbrev pub is_inside : List Dimension → DescSet → List Pick → Bool
is_inside h set f = in_each is_part_inside h set.parts.items f

-- Overlapping: the filter may match a coordinate that the set covers.

-- one concept is under the other
abbrev pub AreRelated : Tree → ℕ → ℕ → Type 0
AreRelated t a b = IsUnder t a b ⊎ IsUnder t b a

-- the pick is All or lists a concept that is related to one of these
abbrev pub IsMet : Tree → List ℕ → Pick → Type 0
IsMet t ids All = Unit {0}
IsMet t ids (Ids tops) = Any (λ id. Any (AreRelated t id) tops) ids

-- the set is not empty, and in each dimension the filter's pick meets it
pub record Overlaps (h : List Dimension) (set : DescSet) (f : List Pick) : Type 0 where
  pub dims : 0 < length h
  pub some : (dim : ℕ) → dim < length h → (part_at set dim).ids.items ≢ []
  pub met : (dim : ℕ) → dim < length h → IsMet (tree h dim) (part_at set dim).ids.items (pick_at f dim)

-- the same as tests
abbrev pub are_related : Tree → ℕ → ℕ → Bool
are_related t a b = is_under t a b || is_under t b a

abbrev pub is_met : Tree → List ℕ → Pick → Bool
is_met t ids All = true
is_met t ids (Ids tops) = list_any (λ id. list_any (are_related t id) tops) ids

abbrev pub is_part_met : Tree → Part → Pick → Bool
is_part_met t p pick = nat_lt 0 (length p.ids.items) && is_met t p.ids.items pick

abbrev pub overlaps : List Dimension → DescSet → List Pick → Bool
overlaps h set f = nat_lt 0 (length h) && in_each is_part_met h set.parts.items f

-- the same from one dimension on
pub record IsMetFrom (h : List Dimension) (set : DescSet) (f : List Pick) (first : ℕ) : Type 0 where
  pub met : (dim : ℕ) → first ≤ dim → dim < length h → is_part_met (tree h dim) (part_at set dim) (pick_at f dim) ≡ true

-- Both in one answer.

-- the set is inside the filter, else overlaps it, or neither
abbrev pub IsBearing : List Dimension → DescSet → List Pick → Bearing → Type 0
IsBearing h set f it.Inside = IsInside h set f
IsBearing h set f it.Overlaps = (¬ IsInside h set f) × Overlaps h set f
IsBearing h set f it.Apart = (¬ IsInside h set f) × (¬ Overlaps h set f)

-- the same as a test
abbrev pub bearing : List Dimension → DescSet → List Pick → Bearing
bearing h set f = if is_inside h set f then it.Inside else if overlaps h set f then it.Overlaps else it.Apart
