-- Which entry of a directory a row goes down by.
use Rattle.std.specs.{List.list_any, Prelude.{ℕ, ◌≡◌, ◌<◌, ◌≤◌, ◌⊎◌, List, length, slice_get, Option, Some, Bool, not, ◌&&◌, ◌||◌, ◌==◌, nat_lt, position}}
use Rattle.dim_hierarchy.specs.{Dimension.Dimension, declared.row.Coord.Coord}
use Rattle.describing_set.specs.{Sets.{growth_of, size_of}, declared.set.DescSet.DescSet}

-- the first set is grown less by the coordinate; or as much, and it is smaller; or as large, and it stands at no later place
abbrev pub IsPickedBefore : List Dimension → Coord → DescSet → ℕ → DescSet → ℕ → Type 0
IsPickedBefore h at a i b j =
    (growth_of h a at < growth_of h b at)
    ⊎ ((growth_of h a at ≡ growth_of h b at)
    × ((size_of h a < size_of h b) ⊎ ((size_of h a ≡ size_of h b) × (i ≤ j))))

-- the place of the set that comes first for a coordinate
pub record IsPick (h : List Dimension) (at : Coord) (sets : List DescSet) (place : ℕ) : Type 0 where
  pub within : place < length sets
  pub first : (set other : DescSet) (j : ℕ) → slice_get sets place ≡ Some set → slice_get sets j ≡ Some other → IsPickedBefore h at set place other j

-- The same place as a function, for what asks where a row would go.

-- the first set is grown less by the coordinate than the second, or as much and is smaller
abbrev pub is_before : List Dimension → Coord → DescSet → DescSet → Bool
is_before h at a b =
    nat_lt (growth_of h a at) (growth_of h b at) || ((growth_of h a at == growth_of h b at) && nat_lt (size_of h a) (size_of h b))

-- the first place of a set that no other one is before; none where there are no sets
unfoldable pub pick_place : List Dimension → Coord → List DescSet → Option ℕ
pick_place h at sets = position (λ set. not (list_any (λ other. is_before h at other set) sets)) sets
