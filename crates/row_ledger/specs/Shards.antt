-- The shards that stand behind a past, and which shard came from which.
use Rattle.std.specs.{List.{list_any, range_with_len}, Prelude.{ℕ, ◌+◌, ◌*◌, ◌==◌, Bool, true, false, not, ◌&&◌, ◌||◌, Option, Some, None, option_map, if◌then◌else◌, List, [], ◌∷◌, ◌++◌, length, map, filter, filter_map, find}}
use Rattle.row_ledger.specs.{Past.{Children, Pull, split_in, pull_in}, declared.event.Event.Event, declared.event.Event.TheVariants.{Split, Moved}}

-- a shard and the worker that has it
pub record Place : Type 0 where
  pub shard : ℕ
  pub worker : ℕ

abbrev pub place : ℕ → ℕ → Place
place shard worker = record { shard = shard; worker = worker }

abbrev pub is_of : ℕ → Place → Bool
is_of shard p = p.shard == shard

-- The frontier.

-- the first shard of each worker, which has the worker's number
abbrev pub first_places : ℕ → List Place
first_places workers = map (λ w. place w w) (range_with_len 0 workers)

-- the worker of a shard, if it is there
abbrev pub worker_of : List Place → ℕ → Option ℕ
worker_of places shard = option_map (λ (p : Place). p.worker) (find (is_of shard) places)

-- the two shards on the worker of the one that they come from
abbrev pub children : ℕ → ℕ → Option ℕ → List Place
children left right None = []
children left right (Some worker) = place left worker ∷ place right worker ∷ []

-- The places behind an event. The children of a split have the greatest ids so far, so the order by ids stays.
abbrev pub places_after : List Place → Event → List Place
places_after places (Split of shard left right) =
    filter (λ (p : Place). not (is_of shard p)) places ++ children left right (worker_of places shard)
places_after places (Moved of shard worker) = map (λ (p : Place). if is_of shard p then place shard worker else p) places
places_after places _ = places

-- the shards that stand and their workers, by ids
abbrev pub frontier : ℕ → List Event → List Place
frontier workers [] = first_places workers
frontier workers (e ∷ past) = places_after (frontier workers past) e

-- a shard stands
abbrev pub is_live : ℕ → List Event → ℕ → Bool
is_live workers past shard = list_any (is_of shard) (frontier workers past)

-- how many ids shards have had
abbrev pub ids_made : ℕ → List Event → ℕ
ids_made workers past = workers + 2 * length (filter_map split_in past)

-- Lines of descent.

-- the shard of which an event made this one, or this one
abbrev pub parent_in : Event → ℕ → ℕ
parent_in (Split of shard left right) y = if (y == left) || (y == right) then shard else y
parent_in _ y = y

-- a shard is the first one, or comes from it by splits
abbrev pub comes_from : List Event → ℕ → ℕ → Bool
comes_from [] x y = y == x
comes_from (e ∷ past) x y = (y == x) || comes_from past x (parent_in e y)

-- Paths.

-- a server has pulled a shard
abbrev pub was_listed : List Event → ℕ → ℕ → Bool
was_listed past server shard =
    list_any (λ (p : Pull). (p.server == server) && list_any (λ spot. spot.shard == shard) p.listing) (filter_map pull_in past)

-- a split made the second shard of the first
abbrev pub is_child : List Event → ℕ → ℕ → Bool
is_child past x y = list_any (λ (c : Children). (c.shard == x) && ((c.left == y) || (c.right == y))) (filter_map split_in past)

-- each of these shards is a child of the one before
abbrev pub descends : List Event → ℕ → List ℕ → Bool
descends past x [] = true
descends past x (y ∷ path) = is_child past x y && descends past y path

-- the path of a row that came in by a server: from a shard that the server has pulled down to the one that took the row
abbrev pub is_path : List Event → ℕ → List ℕ → Bool
is_path past server [] = false
is_path past server (x ∷ path) = was_listed past server x && descends past x path
