-- What an event changes of that which a past tells.
use Rattle.std.specs.Prelude.{ℕ, ◌≡◌, ◌+◌, ◌==◌, ◌&&◌, ◌||◌, Bool, true, false, not, if◌then◌else◌, Some, List, [], ◌∷◌, ◌++◌, length, map, filter}
use Rattle.dim_hierarchy.specs.Dimension.{Dimension}
use Rattle.describing_set.specs.declared.listing.Spot.{Spot}
use Rattle.row_ledger.specs.{Bounds.{own, published, passed, listing_of, is_listed, listed, must}, Past.{Insert, ack_of, acked}, Shards.{Place, place, is_of, children, worker_of, frontier, comes_from, ids_made}, Workers.{is_on, left_at}, declared.event.Event.Event, declared.event.Event.TheVariants.{Synced, Acked, Split, Moved}}

-- whether an event changes nothing of it: all but acknowledgements, pulls, splits and moves
abbrev pub is_quiet : Event → Bool
is_quiet (Synced server listing) = false
is_quiet (Acked of path) = false
is_quiet (Split of shard left right) = false
is_quiet (Moved of shard worker) = false
is_quiet e = true

-- what is acknowledged stays
pub record AcksStay (e : Event) (past : List Event) : Type 0 where
  pub acked : acked (e ∷ past) ≡ acked past
  pub own : (server : ℕ) → own (e ∷ past) server ≡ own past server

-- what is pulled stays
pub record PullsStay (e : Event) (past : List Event) : Type 0 where
  pub published : published (e ∷ past) ≡ published past
  pub passed : (server : ℕ) → passed (e ∷ past) server ≡ passed past server
  pub listing : (server : ℕ) → listing_of (e ∷ past) server ≡ listing_of past server

-- what servers must know stays
pub record KnowledgeStays (h : List Dimension) (e : Event) (past : List Event) : Type 0 where
  pub listed : (server : ℕ) → listed h (e ∷ past) server ≡ listed h past server
  pub must : (server : ℕ) → must h (e ∷ past) server ≡ must h past server

-- which shards stand where, and came from where, stays
pub record ShardsStay (workers : ℕ) (e : Event) (past : List Event) : Type 0 where
  pub frontier : frontier workers (e ∷ past) ≡ frontier workers past
  pub comes_from : (x y : ℕ) → comes_from (e ∷ past) x y ≡ ((y == x) || comes_from past x y)
  pub left_at : (shard worker : ℕ) → left_at workers (e ∷ past) shard worker ≡ left_at workers past shard worker
  pub ids : ids_made workers (e ∷ past) ≡ ids_made workers past

-- a quiet event leaves all of it
pub record AllStays (h : List Dimension) (workers : ℕ) (e : Event) (past : List Event) : Type 0 where
  pub acks : AcksStay e past
  pub pulls : PullsStay e past
  pub knowledge : KnowledgeStays h e past
  pub shards : ShardsStay workers e past

-- an acknowledgement adds its row to what is acknowledged, to its server's own, and where it is listed
pub record AckChanges (h : List Dimension) (workers of : ℕ) (path : List ℕ) (insert : Insert) (past : List Event) : Type 0 where
  pub acked : acked (Acked of path ∷ past) ≡ ack_of path insert ∷ acked past
  pub own : (server : ℕ) → own (Acked of path ∷ past) server ≡ if insert.server == server then ack_of path insert ∷ own past server else own past server
  pub listed : (server : ℕ) → listed h (Acked of path ∷ past) server
      ≡ if is_listed h (listing_of past server) (ack_of path insert) then ack_of path insert ∷ listed h past server else listed h past server
  pub pulls : PullsStay (Acked of path) past
  pub shards : ShardsStay workers (Acked of path) past

-- a pull publishes the server's own, passes it what was published before, and changes what it lists
pub record PullChanges (h : List Dimension) (workers server : ℕ) (listing : List Spot) (past : List Event) : Type 0 where
  pub acks : AcksStay (Synced server listing) past
  pub publishes : published (Synced server listing ∷ past) ≡ own past server ++ published past
  pub passes : (t : ℕ) → passed (Synced server listing ∷ past) t ≡ (if server == t then published past else []) ++ passed past t
  pub lists : (t : ℕ) → listing_of (Synced server listing ∷ past) t ≡ if server == t then listing else listing_of past t
  pub covers : (t : ℕ) → listed h (Synced server listing ∷ past) t ≡ filter (is_listed h (if server == t then listing else listing_of past t)) (acked past)
  pub shards : ShardsStay workers (Synced server listing) past

-- a split takes its shard from the frontier and adds the children, who come from it
pub record SplitChanges (h : List Dimension) (workers of shard left right : ℕ) (past : List Event) : Type 0 where
  pub acks : AcksStay (Split of shard left right) past
  pub pulls : PullsStay (Split of shard left right) past
  pub knowledge : KnowledgeStays h (Split of shard left right) past
  pub frontier : frontier workers (Split of shard left right ∷ past)
      ≡ filter (λ (p : Place). not (is_of shard p)) (frontier workers past) ++ children left right (worker_of (frontier workers past) shard)
  pub comes_from : (x y : ℕ) → comes_from (Split of shard left right ∷ past) x y
      ≡ ((y == x) || comes_from past x (if (y == left) || (y == right) then shard else y))
  pub left_at : (x w : ℕ) → left_at workers (Split of shard left right ∷ past) x w ≡ left_at workers past x w
  pub ids : ids_made workers (Split of shard left right ∷ past) ≡ ids_made workers past + 2

-- a move changes the worker of its shard, which leaves the one that it had
pub record MoveChanges (h : List Dimension) (workers of shard worker : ℕ) (past : List Event) : Type 0 where
  pub acks : AcksStay (Moved of shard worker) past
  pub pulls : PullsStay (Moved of shard worker) past
  pub knowledge : KnowledgeStays h (Moved of shard worker) past
  pub frontier : frontier workers (Moved of shard worker ∷ past) ≡ map (λ (p : Place). if is_of shard p then place shard worker else p) (frontier workers past)
  pub comes_from : (x y : ℕ) → comes_from (Moved of shard worker ∷ past) x y ≡ ((y == x) || comes_from past x y)
  pub left_at : (x w : ℕ) → left_at workers (Moved of shard worker ∷ past) x w
      ≡ if (shard == x) && is_on workers past x w && not (worker == w) then Some (length past) else left_at workers past x w
  pub ids : ids_made workers (Moved of shard worker ∷ past) ≡ ids_made workers past
