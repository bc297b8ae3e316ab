-- What a server pulls: which shards stand, and boxes that cover what the servers told of.
use Rattle.std.specs.{List.list_any, Prelude.{ℕ, ◌≡◌, Bool, ◌&&◌, IsTrue, List, [], map, All, Contains}}
use Rattle.dim_hierarchy.specs.{Dimension.Dimension, declared.row.Row.Row}
use Rattle.describing_set.specs.{DescSet.{IsSetOf, covers}, declared.listing.Spot.Spot, declared.set.DescSet.DescSet}
use Rattle.row_ledger.specs.{Bounds.{own, published, may}, Past.{Ack, last_of}, Shards.{Place, place, first_places, frontier, comes_from}, Site.Site, declared.event.Event.Event}

-- the shards of a listing and their workers
abbrev pub places_of : List Spot → List Place
places_of spots = map (λ (spot : Spot). place spot.shard spot.worker) spots

-- the listing of the opening: the first shards, with empty boxes
pub record IsFirstListing (site : Site) (listing : List Spot) : Type 0 where
  pub places : places_of listing ≡ first_places site.workers
  pub boxes : All (λ (spot : Spot). IsSetOf site.hierarchy [] spot.set) listing

-- a box is the set of some rows that may be counted
pub record IsBox (h : List Dimension) (may : List Row) (set : DescSet) : Type 0 where
  pub rows : List Row
  pub usable : All (Contains may) rows
  pub set_of : IsSetOf h (map (λ (r : Row). r.at) rows) set

-- a listed shard is the one that took the row, or comes from it, and its box covers the row
abbrev pub is_covered : List Dimension → List Event → List Spot → Ack → Bool
is_covered h past spots a =
    list_any (λ (spot : Spot). comes_from past (last_of a.path) spot.shard && covers h spot.set a.row.at) spots

-- a later listing: the shards that stand, with boxes that cover what the server itself acknowledged and all that is published
pub record IsListing (site : Site) (usable : ℕ → Bool) (past : List Event) (server : ℕ) (listing : List Spot) : Type 0 where
  pub places : places_of listing ≡ frontier site.workers past
  pub boxes : All (λ (spot : Spot). IsBox site.hierarchy (may usable past) spot.set) listing
  pub own : All (λ (a : Ack). IsTrue (is_covered site.hierarchy past listing a)) (own past server)
  pub published : All (λ (a : Ack). IsTrue (is_covered site.hierarchy past listing a)) (published past)
