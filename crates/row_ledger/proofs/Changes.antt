-- What each kind of event changes.
use Rattle.std.proofs.Common.{◌≡◌, ℕ, List, true, refl, arith}
use Rattle.std.specs.Prelude.{Some}
use Rattle.dim_hierarchy.specs.Dimension.{Dimension}
use Rattle.describing_set.specs.declared.listing.Spot.{Spot}
use Rattle.row_ledger.specs.{Changes.{is_quiet, AllStays, AckChanges, PullChanges, SplitChanges, MoveChanges}, Past.{Insert, insert_at}, declared.event.Event.Event, declared.event.Event.TheVariants.{Synced, Acked, Split, Moved}}

pub quiet : (h : List Dimension) (workers : ℕ) (e : Event) (past : List Event) → is_quiet e ≡ true → AllStays h workers e past
quiet h workers (Synced server listing) past is = cc
quiet h workers (Acked of path) past is = cc
quiet h workers (Split of shard left right) past is = cc
quiet h workers (Moved of shard worker) past is = cc
quiet h workers _ past is = record {
  acks = record { acked = refl; own = λ server. refl };
  pulls = record { published = refl; passed = λ server. refl; listing = λ server. refl };
  knowledge = record { listed = λ server. refl; must = λ server. refl };
  shards = record { frontier = refl; comes_from = λ x y. refl; left_at = λ shard worker. refl; ids = refl };
}

pub acked-changes : (h : List Dimension) (workers of : ℕ) (path : List ℕ) (insert : Insert) (past : List Event)
    → insert_at past of ≡ Some insert → AckChanges h workers of path insert past
acked-changes h workers of path insert past begun = record {
  acked = rw begun refl;
  own = λ server. rw begun refl;
  listed = λ server. rw begun refl;
  pulls = record { published = refl; passed = λ server. refl; listing = λ server. refl };
  shards = record { frontier = refl; comes_from = λ x y. refl; left_at = λ shard worker. refl; ids = refl };
}

pub synced-changes : (h : List Dimension) (workers server : ℕ) (listing : List Spot) (past : List Event) → PullChanges h workers server listing past
synced-changes h workers server listing past = record {
  acks = record { acked = refl; own = λ t. refl };
  publishes = refl;
  passes = λ t. refl;
  lists = λ t. refl;
  covers = λ t. refl;
  shards = record { frontier = refl; comes_from = λ x y. refl; left_at = λ shard worker. refl; ids = refl };
}

pub split-changes : (h : List Dimension) (workers of shard left right : ℕ) (past : List Event) → SplitChanges h workers of shard left right past
split-changes h workers of shard left right past = record {
  acks = record { acked = refl; own = λ server. refl };
  pulls = record { published = refl; passed = λ server. refl; listing = λ server. refl };
  knowledge = record { listed = λ server. refl; must = λ server. refl };
  frontier = refl;
  comes_from = λ x y. refl;
  left_at = λ x w. refl;
  ids = omega arith;
}

pub moved-changes : (h : List Dimension) (workers of shard worker : ℕ) (past : List Event) → MoveChanges h workers of shard worker past
moved-changes h workers of shard worker past = record {
  acks = record { acked = refl; own = λ server. refl };
  pulls = record { published = refl; passed = λ server. refl; listing = λ server. refl };
  knowledge = record { listed = λ server. refl; must = λ server. refl };
  frontier = refl;
  comes_from = λ x y. refl;
  left_at = λ x w. refl;
  ids = refl;
}
