-- What spots are ranked by, and the first of some spots.
use Rattle.std.specs.Prelude.{ℕ, ◌≡◌, ◌<◌, ◌⊎◌, List, Some, slice_get}
use Rattle.dim_hierarchy.specs.{Dimension.Dimension, declared.row.Coord.Coord}
use Rattle.describing_set.specs.{Sets.{growth_of, size_of}, declared.listing.Spot.Spot}
use Rattle.server_image.specs.{Image.RanksBefore, declared.rank.Rank.Rank}

-- by how much the coordinate grows the spot's box, how large the box is, and the spot's id
abbrev pub rank_of : List Dimension → Coord → Spot → Rank
rank_of h at spot = record { growth = growth_of h spot.set at; size = size_of h spot.set; shard = spot.shard }

-- the first rank has less growth; or as much, and a smaller box; or as large a box, and a lower id
abbrev pub IsLower : Rank → Rank → Type 0
IsLower a b = (a.growth < b.growth) ⊎ ((a.growth ≡ b.growth) × ((a.size < b.size) ⊎ ((a.size ≡ b.size) × (a.shard < b.shard))))

-- of the first n spots none comes before the one at a place
pub record IsRouteAmong (h : List Dimension) (at : Coord) (spots : List Spot) (n place : ℕ) : Type 0 where
  pub within : place < n
  pub first : (spot other : Spot) (k : ℕ) → k < n → slice_get spots place ≡ Some spot → slice_get spots k ≡ Some other → ¬ RanksBefore h at other spot
