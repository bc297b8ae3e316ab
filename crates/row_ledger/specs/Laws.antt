-- Laws of right histories: which shard comes from which, what events change, and how a right history is kept.
use Rattle.std.specs.Prelude.{ℕ, ◌≡◌, ◌<◌, ◌≤◌, ◌+◌, Bool, true, not, Some, List, [], ◌∷◌, Contains, ⊤}
use Rattle.dim_hierarchy.specs.Dimension.{Dimension}
use Rattle.describing_set.specs.declared.listing.Spot.{Spot}
use Rattle.row_ledger.specs.{Changes.{is_quiet, AllStays, AckChanges, PullChanges, SplitChanges, MoveChanges}, Kept.KeepsRight, Past.{Insert, insert_at}, Right.{Site, StandsRight, IsRight}, Shards.{Place, frontier, is_live, ids_made, comes_from}, declared.event.Event.Event, declared.event.Event.TheVariants.Split}

-- what a run keeps is a right history
abbrev pub KeptIsRight : Type 0
KeptIsRight = (site : Site) (placed : ℕ → Bool) (h : List Event) → KeepsRight site placed h → IsRight site h

-- places in the order of their shards' ids, from this id on
abbrev pub AscendFrom : ℕ → List Place → Type 0
AscendFrom from [] = ⊤
AscendFrom from (p ∷ places) = (from ≤ p.shard) × AscendFrom (p.shard + 1) places

-- the shards that stand are in the order of their ids, each once
abbrev pub FrontierAscends : Type 0
FrontierAscends = (site : Site) (usable : ℕ → Bool) (h : List Event) → StandsRight site usable h → AscendFrom 0 (frontier site.workers h)

-- what comes from where among shards that had their ids before an event stays
abbrev pub LinesStay : Type 0
LinesStay =
    (site : Site) (usable : ℕ → Bool) (past : List Event) (e : Event) (x y : ℕ)
    → StandsRight site usable (e ∷ past) → y < ids_made site.workers past → comes_from (e ∷ past) x y ≡ comes_from past x y

-- of the shards that stand none comes from another
abbrev pub LiveShardsAreApart : Type 0
LiveShardsAreApart =
    (site : Site) (usable : ℕ → Bool) (h : List Event) (x y : ℕ)
    → StandsRight site usable h → is_live site.workers h x ≡ true → is_live site.workers h y ≡ true → comes_from h x y ≡ true → y ≡ x

-- what stands and comes from a shard that was split comes from one of its children, and not from the other
abbrev pub SplitShardsHaveOneHeir : Type 0
SplitShardsHaveOneHeir =
    (site : Site) (usable : ℕ → Bool) (h : List Event) (of shard left right y : ℕ)
    → StandsRight site usable h → Contains h (Split of shard left right) → is_live site.workers h y ≡ true → comes_from h shard y ≡ true
    → comes_from h left y ≡ not (comes_from h right y)

-- what each kind of event changes
pub record EventsChange : Type 0 where
  pub quiet : (h : List Dimension) (workers : ℕ) (e : Event) (past : List Event) → is_quiet e ≡ true → AllStays h workers e past
  pub acked : (h : List Dimension) (workers of : ℕ) (path : List ℕ) (insert : Insert) (past : List Event)
      → insert_at past of ≡ Some insert → AckChanges h workers of path insert past
  pub synced : (h : List Dimension) (workers server : ℕ) (listing : List Spot) (past : List Event) → PullChanges h workers server listing past
  pub split : (h : List Dimension) (workers of shard left right : ℕ) (past : List Event) → SplitChanges h workers of shard left right past
  pub moved : (h : List Dimension) (workers of shard worker : ℕ) (past : List Event) → MoveChanges h workers of shard worker past
