-- Splits, moves and balances: what they leave in a history, and why they decline.
use Rattle.std.specs.{List.{IsDistinct, AllZip}, Prelude.{ℕ, ◌≡◌, ◌+◌, ◌<◌, ◌&&◌, Bool, true, false, nat_lt, nat_eq, IsTrue, List, [], ◌∷◌, length, map, reverse, flat_map, count_by, All, Any, Contains}}
use Rattle.dim_hierarchy.specs.{Dimension.Dimension, declared.row.Row.Row}
use Rattle.describing_set.specs.{DescSet.IsSetOf, declared.part.Part.Part, declared.set.DescSet.DescSet}
use Rattle.shard_plan.specs.{Balancing.plan, Building.{cells_for, split_need}, declared.action.Action.Action, declared.action.Load.Load}
use Rattle.shard_plan.specs.declared.action.Action.TheVariants as action
use Rattle.row_ledger.specs.{Bounds.{may, numbers}, Past.{Ack, Step, last_of, before, acked, acked_into, work}, Shards.{place, frontier, is_live, comes_from}, Site.Site, declared.event.Event.Event, declared.event.Event.TheVariants.{Split, Moved, Left}, declared.settings.Decline.Decline, declared.settings.How.How, declared.settings.How.TheVariants.{Fine, Declined, Postponed, NoMemory}}
use Rattle.row_ledger.specs.declared.settings.Decline.TheVariants as decline

-- Actions: the split of a shard, or its move to a worker.

abbrev pub shard_of : Action → ℕ
shard_of (action.Split shard) = shard
shard_of (action.Move shard worker) = shard

-- the shard stands behind this past, and the worker is one
abbrev pub is_known : Site → List Event → Action → Bool
is_known site past (action.Split shard) = is_live site.workers past shard
is_known site past (action.Move shard worker) = is_live site.workers past shard && nat_lt worker site.workers

-- an event is the action, done
abbrev pub Did : Action → Event → Type 0
Did (action.Split shard) (Split of x left right) = x ≡ shard
Did (action.Move shard worker) (Moved of x w) = (x ≡ shard) × (w ≡ worker)
Did a e = ⊥

-- the action is all the work that was done
abbrev pub DidOnly : Action → List Step → Type 0
DidOnly a (step ∷ []) = Did a step.event
DidOnly a steps = ⊥

-- Declines.

-- The rows of a shard as a command may have read them that began behind the first past and reads behind the second: each
-- once, only rows that may be counted, and all that came to the shard before the command.
pub record AreReadOf (usable : ℕ → Bool) (begun past : List Event) (shard : ℕ) (rows : List Row) : Type 0 where
  pub once : IsDistinct nat_eq (numbers rows)
  pub allowed : All (Contains (may usable past)) rows
  pub came : All (λ (a : Ack). Contains rows a.row) (acked_into shard begun)

-- nothing tells the rows apart: their set has no two concepts in any dimension
pub record AreOnePlace (h : List Dimension) (rows : List Row) : Type 0 where
  pub set : DescSet
  pub set_of : IsSetOf h (map (λ (r : Row). r.at) rows) set
  pub few : All (λ (p : Part). length p.ids.items < 2) set.parts.items

-- how many cells an action needs where the shard has so many rows
abbrev pub need_of : Action → ℕ → ℕ
need_of (action.Split shard) n = split_need n
need_of (action.Move shard worker) n = 1 + cells_for n

-- why an action on a shard with these rows is declined: a split for one place, either for want of cells
abbrev pub IsCause : List Dimension → Action → List Row → Decline → Type 0
IsCause h (action.Split shard) rows decline.OnePlace = AreOnePlace h rows
IsCause h a rows (decline.NoCell need free) = (free < need) × (need ≡ need_of a (length rows))
IsCause h a rows other = ⊥

-- an action for the command that began at `of` is declined rightly behind this past
pub record IsRightDecline (site : Site) (usable : ℕ → Bool) (past : List Event) (of : ℕ) (a : Action) (why : Decline) : Type 0 where
  pub rows : List Row
  pub read : AreReadOf usable (before past of) past (shard_of a) rows
  pub cause : IsCause site.hierarchy a rows why

-- How a split or a move may end that is called for itself. It is declined as unknown exactly where its shard or its worker
-- doesn't stand when it begins, unless it finds no memory; only where it ends fine is it done.
abbrev pub MayEndAction : Site → (ℕ → Bool) → List Event → ℕ → Action → How → Type 0
MayEndAction site usable past of a Fine = IsTrue (is_known site (before past of) a) × DidOnly a (work past of)
MayEndAction site usable past of a (Declined decline.Unknown) = (is_known site (before past of) a ≡ false) × (work past of ≡ [])
MayEndAction site usable past of a (Declined why) =
    IsTrue (is_known site (before past of) a) × (work past of ≡ []) × IsRightDecline site usable past of a why
MayEndAction site usable past of a Postponed = IsTrue (is_known site (before past of) a) × (work past of ≡ [])
MayEndAction site usable past of a NoMemory = work past of ≡ []
MayEndAction site usable past of a how = ⊥

-- Balances.

-- a load of a balance, and the rows that it counted there
pub record Reading : Type 0 where
  pub load : Load
  pub rows : List Row

abbrev pub loads : List Reading → List Load
loads readings = map (λ (r : Reading). r.load) readings

abbrev pub rows_read : List Reading → List Row
rows_read readings = flat_map (λ (r : Reading). r.rows) readings

-- an acknowledged row is counted for the shard that took it, or for one that comes from it
abbrev pub IsRead : List Event → List Reading → Ack → Type 0
IsRead begun readings a = Any (λ (r : Reading). IsTrue (comes_from begun (last_of a.path) r.load.shard) × Contains r.rows a.row) readings

-- an event is the action, done or left behind this past for a reason
abbrev pub Settles : Site → (ℕ → Bool) → ℕ → Action → List Event → Event → Type 0
Settles site usable of a past (Left x shard Postponed) = shard ≡ shard_of a
Settles site usable of a past (Left x shard (Declined why)) = (shard ≡ shard_of a) × IsRightDecline site usable past of a why
Settles site usable of a past e = Did a e

-- whether an event is work that is done
abbrev pub is_done : Event → Bool
is_done (Left of shard how) = false
is_done e = true

-- A balance of `most` that began at `of` ends rightly behind this past: it planned by loads with the shards and workers
-- that stood when it began, each with as many rows as were counted for it, no row twice, only such as may be counted, and
-- all that were acknowledged before; and each planned action has its one event, in the plan's order.
pub record IsRightBalance (site : Site) (usable : ℕ → Bool) (past : List Event) (of most done planned : ℕ) : Type 0 where
  pub readings : List Reading
  pub places : map (λ (r : Reading). place r.load.shard r.load.worker) readings ≡ frontier site.workers (before past of)
  pub counts : All (λ (r : Reading). r.load.rows ≡ length r.rows) readings
  pub once : IsDistinct nat_eq (numbers (rows_read readings))
  pub allowed : All (Contains (may usable past)) (rows_read readings)
  pub came : All (IsRead (before past of) readings) (acked (before past of))
  pub actions : planned ≡ length (plan (loads readings) site.workers most)
  pub events : AllZip (λ a (step : Step). Settles site usable of a step.past step.event) (plan (loads readings) site.workers most) (reverse (work past of))
  pub did : done ≡ count_by (λ (step : Step). is_done step.event) (work past of)
