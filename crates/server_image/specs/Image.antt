-- What contracts see of an image, and what its calls do.
use Rattle.std.specs.Prelude.{ℕ, ◌≡◌, ◌==◌, ◌+◌, ◌-◌, ◌<◌, ◌⊎◌, All, Some, List, [], ◌∷◌, ◌++◌, length, map, filter, slice_get, slice_index_or}
use Rattle.dim_hierarchy.specs.{Dimension.Dimension, Row.IsCoordOf, declared.filter.Pick.Pick, declared.row.Coord.Coord}
use Rattle.describing_set.specs.{Filter.overlaps, Sets.{growth_of, size_of}, declared.listing.Spot.Spot}
use Rattle.server_image.specs.{Registry.RegistryValue, Spots.{along, Grows}, declared.image.Growth.Growth}

-- the shards that it lists, the growths that it has still to push, and how many acknowledgements are owed
pub record ImageValue : Type 0 where
  pub spots : List Spot
  pub growths : List Growth
  pub owed : ℕ

-- the growths are by coordinates of this hierarchy
abbrev pub AreGrowths : List Dimension → List Growth → Type 0
AreGrowths h growths = All (λ g. IsCoordOf h g.at) growths

-- the coordinates by which a shard's box has grown
abbrev pub grown_at : List Growth → ℕ → List Coord
grown_at growths id = map (λ g. g.at) (filter (λ g. g.shard == id) growths)

-- Routing.

-- the first spot's box is grown less by the coordinate; or as much, and it is smaller; or as large, and its id is lower
abbrev pub RanksBefore : List Dimension → Coord → Spot → Spot → Type 0
RanksBefore h at a b =
    (growth_of h a.set at < growth_of h b.set at)
    ⊎ ((growth_of h a.set at ≡ growth_of h b.set at)
    × ((size_of h a.set < size_of h b.set) ⊎ ((size_of h a.set ≡ size_of h b.set) × (a.shard < b.shard))))

-- no spot comes before the one at this place
pub record IsRoute (h : List Dimension) (at : Coord) (spots : List Spot) (place : ℕ) : Type 0 where
  pub within : place < length spots
  pub first : (spot other : Spot) (k : ℕ) → slice_get spots place ≡ Some spot → slice_get spots k ≡ Some other
      → ¬ RanksBefore h at other spot

-- the shards that a query asks: those whose boxes overlap its filter, in order
abbrev pub planned : List Dimension → List Pick → List Spot → List Spot
planned h wanted spots = filter (λ s. overlaps h s.set wanted) spots

-- Acknowledging and pulling.

-- the last id of a path
abbrev pub last_shard : List ℕ → ℕ
last_shard path = slice_index_or path (length path - 1) 0

-- a row that went along a path is acknowledged
pub record IsAcked (h : List Dimension) (path : List ℕ) (at : Coord) (before now : ImageValue) : Type 0 where
  pub boxes : Grows h (along path at) before.spots now.spots
  pub noted : now.growths ≡ before.growths ++ record { shard = last_shard path; at = at } ∷ []
  pub owed : before.owed ≡ now.owed + 1

-- the growths of shards of the frontier go to the registry, and its frontier comes back; what is owed stays
pub record IsSynced (h : List Dimension) (before now : ImageValue) (registry registry_now : RegistryValue) (pulled : List Spot) : Type 0 where
  pub pushed : Grows h (grown_at before.growths) registry.frontier registry_now.frontier
  pub retired : registry_now.retired ≡ registry.retired
  pub listing : pulled ≡ registry_now.frontier
  pub spots : now.spots ≡ registry_now.frontier
  pub growths : now.growths ≡ []
  pub owed : now.owed ≡ before.owed
