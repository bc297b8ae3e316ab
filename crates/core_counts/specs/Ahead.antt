-- How often the parts of a query may still go on or end, all together, and how often that is at most.
use Rattle.std.specs.Prelude.{ℕ, ◌+◌, ◌*◌, ◌<◌, ◌≤◌, Bool, true, false, if◌then◌else◌, List, ◌∷◌, sum_by, All}
use Rattle.query_router.specs.{Desk.is_open, declared.part.Part.Part}
use Rattle.row_ledger.specs.{Right.{EachEvent, Site, Stands}, Shards.ids_made, declared.event.Event.Event}
use Rattle.row_ledger.specs.declared.event.Event.TheVariants as event
use Rattle.core_shard.specs.volap_cell.specs.{Desking.AreLinesApart, Falls.{count_events, far}}

abbrev pub is_split : Event → Bool
is_split (event.Split of shard left right) = true
is_split _ = false

abbrev pub is_move : Event → Bool
is_move (event.Moved of shard worker) = true
is_move _ = false

abbrev pub splits : List Event → ℕ
splits h = count_events (λ e p. is_split e) h

abbrev pub moves : List Event → ℕ
moves h = count_events (λ e p. is_move e) h

-- so often a part goes on or ends, itself and all parts that it becomes; one that has ended doesn't
abbrev pub ahead_of : ℕ → List Event → Part → ℕ
ahead_of workers h p = if is_open p then far workers h p.shard p.worker else 0

abbrev pub ahead : ℕ → List Event → List Part → ℕ
ahead workers h parts = sum_by (ahead_of workers h) parts

-- Once for each shard that was ever made, twice for each split, and once for each move.
abbrev pub most_ahead : ℕ → List Event → ℕ
most_ahead workers h = ids_made workers h + 2 * splits h + moves h

-- The lines of the parts are apart, and their shards were made, in a history whose events stand rightly.
pub record AreApart (site : Site) (usable : ℕ → Bool) (h : List Event) (parts : List Part) : Type 0 where
  pub each : EachEvent (Stands site usable) h
  pub apart : AreLinesApart h parts
  pub made : All (λ (p : Part). p.shard < ids_made site.workers h) parts

-- such parts go on no more often than that
abbrev pub AtFirstLaw : Type 0
AtFirstLaw = (site : Site) (usable : ℕ → Bool) (h : List Event) (parts : List Part) → AreApart site usable h parts → ahead site.workers h parts ≤ most_ahead site.workers h

-- and an event adds no more to the one than to the other
abbrev pub GrowsLaw : Type 0
GrowsLaw = (site : Site) (usable : ℕ → Bool) (e : Event) (past : List Event) (parts : List Part) → Stands site usable past e → AreApart site usable past parts
    → ahead site.workers (e ∷ past) parts + most_ahead site.workers past ≤ ahead site.workers past parts + most_ahead site.workers (e ∷ past)
