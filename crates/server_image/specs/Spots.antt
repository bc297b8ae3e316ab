-- Lists of spots: finding one, and how their boxes grow.
use Rattle.std.specs.{List.{AllZip, insert, remove, position_or_len, list_any}, Prelude.{ℕ, ◌≡◌, ◌==◌, nat_lt, Bool, if◌then◌else◌, Option, Some, None, List, [], ◌∷◌, ◌++◌, ◌<◌, length, slice_index_or, map, All}}
use Rattle.dim_hierarchy.specs.{Dimension.Dimension, Row.IsCoordOf, declared.row.Coord.Coord}
use Rattle.describing_set.specs.{DescSet.IsSetOf, Sets.IsDescSetOf, declared.listing.Spot.Spot}

-- the boxes are sets of this hierarchy
abbrev pub AreBoxes : List Dimension → List Spot → Type 0
AreBoxes h spots = All (λ s. IsDescSetOf h s.set) spots

-- the ids of the spots
abbrev pub spot_ids : List Spot → List ℕ
spot_ids spots = map (λ s. s.shard) spots

-- a spot has this id
abbrev pub has_spot : ℕ → List Spot → Bool
has_spot id spots = list_any (λ s. s.shard == id) spots

-- the spot at a place has this id
pub record IsAt (id : ℕ) (spots : List Spot) (place : ℕ) : Type 0 where
  pub within : place < length spots
  pub shard : (d : Spot) → (slice_index_or spots place d).shard ≡ id

-- the place of the first spot of this id; past the last one where there is none
abbrev pub place_of : ℕ → List Spot → ℕ
place_of id spots = position_or_len (λ s. s.shard == id) spots

-- the worker of the first spot of this id
abbrev pub worker_in : ℕ → List Spot → Option ℕ
worker_in id [] = None
worker_in id (s ∷ spots) = if s.shard == id then Some s.worker else worker_in id spots

-- the list without the first spot of this id
abbrev pub without : ℕ → List Spot → List Spot
without id spots = remove spots (place_of id spots)

-- the list with a spot more, before the first one of a higher id
abbrev pub with_spot : Spot → List Spot → List Spot
with_spot s spots = insert spots (position_or_len (λ x. nat_lt s.shard x.shard) spots) s

-- Growth.

-- one of the ids
abbrev pub is_among : List ℕ → ℕ → Bool
is_among ids id = list_any (λ x. x == id) ids

-- the box becomes that of its coordinates with these; nothing else changes
pub record IsGrown (h : List Dimension) (more : List Coord) (old new : Spot) : Type 0 where
  pub shard : new.shard ≡ old.shard
  pub worker : new.worker ≡ old.worker
  pub set : (rows : List Coord) → All (IsCoordOf h) rows → IsSetOf h rows old.set → IsSetOf h (rows ++ more) new.set

-- the box of each spot grows by the coordinates that its id has
abbrev pub Grows : List Dimension → (ℕ → List Coord) → List Spot → List Spot → Type 0
Grows h more before now = AllZip (λ old new. IsGrown h (more old.shard) old new) before now

-- a coordinate for each of these ids, and none for others
abbrev pub along : List ℕ → Coord → ℕ → List Coord
along ids at id = if is_among ids id then at ∷ [] else []
