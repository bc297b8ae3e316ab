-- What contracts see of a registry, and how it changes.
use Rattle.std.specs.{List.{AllZip, range_with_len}, Option.option_or, Prelude.{ℕ, ◌≡◌, ◌<◌, Bool, Option, Some, List, [], ◌∷◌, ◌++◌, length, slice_get, slice_set}}
use Rattle.describing_set.specs.{DescSet.IsSetOf, Sorted.Ascends, declared.listing.Spot.Spot, declared.set.DescSet.DescSet}
use Rattle.dim_hierarchy.specs.Dimension.{Dimension}
use Rattle.server_image.specs.Spots.{spot_ids, has_spot, place_of, worker_in, without, with_spot}

-- the shards without successors, by ascending id, and those with successors, as they were when they got them
pub record RegistryValue : Type 0 where
  pub frontier : List Spot
  pub retired : List Spot

-- there is a shard, and the ids of the frontier ascend
pub record IsRegistry (r : RegistryValue) : Type 0 where
  pub some : 0 < length r.frontier
  pub ascending : Ascends (spot_ids r.frontier)

-- the shard has no successor
abbrev pub on_frontier : ℕ → RegistryValue → Bool
on_frontier id r = has_spot id r.frontier

-- the worker that has a shard, or had it last
abbrev pub host_of : ℕ → RegistryValue → Option ℕ
host_of id r = option_or (worker_in id r.frontier) (worker_in id r.retired)

-- a first shard: that of the worker of the same number, with an empty box
pub record IsFirstSpot (h : List Dimension) (id : ℕ) (spot : Spot) : Type 0 where
  pub shard : spot.shard ≡ id
  pub worker : spot.worker ≡ id
  pub box : IsSetOf h [] spot.set

-- one first shard for each worker, and none retired
pub record IsNewRegistry (h : List Dimension) (workers : ℕ) (r : RegistryValue) : Type 0 where
  pub first : AllZip (IsFirstSpot h) (range_with_len 0 workers) r.frontier
  pub none : r.retired ≡ []

-- a shard is retired, and two of its worker's stand in its place
pub record IsSplit (id left : ℕ) (left_box : DescSet) (right : ℕ) (right_box : DescSet) (before now : RegistryValue) : Type 0 where
  pub spot : Spot
  pub was : slice_get before.frontier (place_of id before.frontier) ≡ Some spot
  pub retired : now.retired ≡ before.retired ++ spot ∷ []
  pub frontier : now.frontier
      ≡ with_spot (record { shard = right; worker = spot.worker; set = right_box })
      (with_spot (record { shard = left; worker = spot.worker; set = left_box }) (without id before.frontier))

-- a shard goes to another worker
pub record IsRehosted (id worker : ℕ) (before now : RegistryValue) : Type 0 where
  pub spot : Spot
  pub was : slice_get before.frontier (place_of id before.frontier) ≡ Some spot
  pub retired : now.retired ≡ before.retired
  pub frontier : now.frontier ≡ slice_set before.frontier (place_of id before.frontier) (record spot { worker = worker })
