-- What an answer must and may count, and when it is allowed.
use Rattle.std.specs.{List.{list_any, IsDistinct}, Option.option_map_or, Prelude.{ℕ, ◌≡◌, ◌==◌, nat_eq, Bool, ◌&&◌, IsTrue, if◌then◌else◌, List, [], ◌∷◌, ◌++◌, map, filter, All, Contains}}
use Rattle.dim_hierarchy.specs.{Dimension.Dimension, Filter.matches, declared.filter.Pick.Pick, declared.row.Row.Row}
use Rattle.measure_agg.specs.Aggregate.{Aggregate, agg}
use Rattle.describing_set.specs.{DescSet.covers, declared.listing.Spot.Spot}
use Rattle.row_ledger.specs.{Past.{Ack, Pull, pull_in, acked, begun}, declared.event.Event.Event}

-- what was acknowledged through a server
abbrev pub own : List Event → ℕ → List Ack
own past server = filter (λ (a : Ack). a.server == server) (acked past)

-- what servers acknowledged before a pull of their own, which tells the others of it
abbrev pub published : List Event → List Ack
published [] = []
published (e ∷ past) = option_map_or (λ (p : Pull). own past p.server) (pull_in e) [] ++ published past

-- what was published before a pull of the server
abbrev pub passed : List Event → ℕ → List Ack
passed [] server = []
passed (e ∷ past) server =
    option_map_or (λ (p : Pull). if p.server == server then published past else []) (pull_in e) [] ++ passed past server

-- what the server pulled last
abbrev pub listing_of : List Event → ℕ → List Spot
listing_of [] server = []
listing_of (e ∷ past) server =
    option_map_or (λ (p : Pull). if p.server == server then p.listing else listing_of past server) (pull_in e) (listing_of past server)

-- a shard of the row's path is listed with a box that covers the row
abbrev pub is_listed : List Dimension → List Spot → Ack → Bool
is_listed h spots a = list_any (λ (spot : Spot). list_any (λ x. x == spot.shard) a.path && covers h spot.set a.row.at) spots

-- what was acknowledged under a box that the server pulled last
abbrev pub listed : List Dimension → List Event → ℕ → List Ack
listed h past server = filter (is_listed h (listing_of past server)) (acked past)

-- what a server must know: what it acknowledged itself, what the others told it, and what lies in its boxes
abbrev pub known : List Dimension → List Event → ℕ → List Ack
known h past server = own past server ++ passed past server ++ listed h past server

-- the rows that a server must know
abbrev pub must : List Dimension → List Event → ℕ → List Row
must h past server = map (λ (a : Ack). a.row) (known h past server)

-- the rows that an answer behind this past may count: those begun, and of them only usable ones.
-- In a right history the usable ones are those whose insert ends for want of memory nowhere in it, not even later.
abbrev pub may : (ℕ → Bool) → List Event → List Row
may usable past = filter (λ r. usable r.no) (begun past)

abbrev pub numbers : List Row → List ℕ
numbers rows = map (λ r. r.no) rows

-- An answer is allowed where it is the aggregate of a list of matching rows, each once, which holds each matching
-- row that the server must know and only rows that it may count.
pub record IsAllowed (h : List Dimension) (must may : List Row) (filter : List Pick) (answer : Aggregate) : Type 0 where
  pub rows : List Row
  pub once : IsDistinct nat_eq (numbers rows)
  pub known : All (λ r. IsTrue (matches h filter r.at) → Contains rows r) must
  pub usable : All (Contains may) rows
  pub matching : All (λ r. IsTrue (matches h filter r.at)) rows
  pub total : answer ≡ agg rows
