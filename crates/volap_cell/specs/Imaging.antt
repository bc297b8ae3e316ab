-- What servers know: their images list shards that lead to all that stand, and cover what each server must know.
use Rattle.std.specs.{List.AllZip, Prelude.{ℕ, ◌≡◌, ◌≢◌, ◌<◌, ◌⊎◌, Bool, true, IsTrue, List, Some, All, Any, Contains}}
use Rattle.dim_hierarchy.specs.{Dimension.Dimension, Row.IsCoordOf, declared.row.Coord.Coord, declared.row.Row.Row}
use Rattle.describing_set.specs.{DescSet.covers, declared.listing.Spot.Spot}
use Rattle.row_ledger.specs.{Bounds.{known, listing_of, may, published}, Listings.{IsBox, places_of}, Past.{Ack, Insert, acked, insert_at, last_of}, Shards.{comes_from, ids_made, is_live}, declared.event.Event.Event}
use Rattle.server_image.specs.{Image.ImageValue, Registry.RegistryValue, declared.image.Growth.Growth}
use Rattle.volap_cell.specs.Setting.{Setting}

-- whether a spot is that of the shard
abbrev pub IsSpotOf : ℕ → Spot → Type 0
IsSpotOf x spot = spot.shard ≡ x

-- the later box covers all that the earlier one covers
abbrev pub HasGrown : List Dimension → Spot → Spot → Type 0
HasGrown h old new = (at : Coord) → IsCoordOf h at → covers h old.set at ≡ true → covers h new.set at ≡ true

-- a growth is by the coordinate of a row that has passed a gate, in a shard that was made
pub record IsGrowth (s : Setting) (history : List Event) (row : ℕ → Row) (placed : ℕ → Bool) (g : Growth) : Type 0 where
  pub made : g.shard < ids_made s.workers history
  pub number : ℕ
  pub is_placed : placed number ≡ true
  pub at : (row number).at ≡ g.at

-- An image lists what its server pulled last, with boxes that have grown since; no listed shard comes from another one, and each
-- that stands comes from a listed one.
pub record IsImageOf (s : Setting) (history : List Event) (row : ℕ → Row) (placed : ℕ → Bool) (server : ℕ) (image : ImageValue) : Type 0 where
  pub places : places_of image.spots ≡ places_of (listing_of history server)
  pub grown : AllZip (HasGrown s.hierarchy) (listing_of history server) image.spots
  pub apart : (x y : ℕ) → Any (IsSpotOf x) image.spots → Any (IsSpotOf y) image.spots → IsTrue (comes_from history x y) → x ≡ y
  pub whole : (x : ℕ) → is_live s.workers history x ≡ true → Any (λ (spot : Spot). IsTrue (comes_from history spot.shard x)) image.spots
  pub boxes : All (λ (spot : Spot). IsBox s.hierarchy (may placed history) spot.set) image.spots
  pub growths : All (IsGrowth s history row placed) image.growths

-- a row is in the line of a listed shard whose box covers it
abbrev pub IsCovered : List Dimension → List Event → (ℕ → Row) → (ℕ → ℕ) → List Spot → ℕ → Type 0
IsCovered h history row home spots r = Any (λ (spot : Spot). IsTrue (comes_from history spot.shard (home r)) × (covers h spot.set (row r).at ≡ true)) spots

-- the registry's box of the shard that has the row covers it
abbrev pub Fits : List Dimension → (ℕ → Row) → (ℕ → ℕ) → List Spot → ℕ → Type 0
Fits h row home spots r = Any (λ (spot : Spot). (spot.shard ≡ home r) × (covers h spot.set (row r).at ≡ true)) spots

-- Boxes. The registry's cover each row that came to its shard by a split, and each that was pushed; what it doesn't cover yet its
-- server has noted. An image covers what its server must know; and a row that isn't acknowledged yet it covers too, or lists a
-- shard of its path, whose box grows with the acknowledgement.
pub record Covering (s : Setting) (history : List Event) (row : ℕ → Row) (registry : RegistryValue) (images : ℕ → ImageValue) (placed : ℕ → Bool) (home : ℕ → ℕ) (path : ℕ → List ℕ) : Type 0 where
  pub boxes : All (λ (spot : Spot). IsBox s.hierarchy (may placed history) spot.set) registry.frontier
  pub came : (r : ℕ) → placed r ≡ true → home r ≢ last_of (path r) → Fits s.hierarchy row home registry.frontier r
  pub pushed : All (λ (k : Ack). Fits s.hierarchy row home registry.frontier k.row.no) (published history)
  pub noted : All (λ (k : Ack). Fits s.hierarchy row home registry.frontier k.row.no ⊎ Contains (images k.server).growths (record { shard = last_of k.path; at = k.row.at })) (acked history)
  pub must : (server : ℕ) → server < s.servers → All (λ (k : Ack). IsCovered s.hierarchy history row home (images server).spots k.row.no) (known s.hierarchy history server)
  pub unacked : (r : ℕ) (i : Insert) → placed r ≡ true → insert_at history r ≡ Some i → ((k : Ack) → Contains (acked history) k → k.row.no ≢ r)
      → Any (λ (spot : Spot). Contains (path r) spot.shard) (images i.server).spots ⊎ IsCovered s.hierarchy history row home (images i.server).spots r

pub record Imaging (s : Setting) (history : List Event) (row : ℕ → Row) (images : ℕ → ImageValue) (placed : ℕ → Bool) : Type 0 where
  pub image : (server : ℕ) → server < s.servers → IsImageOf s history row placed server (images server)
