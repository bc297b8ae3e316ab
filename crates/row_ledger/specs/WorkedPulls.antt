-- Worked pulls: a row that a server knows since it was told of it, and one that it knows since its box covers it.
use Rattle.std.specs.Prelude.{pos, Some, List, [], ◌∷◌}
use Rattle.dim_hierarchy.specs.declared.row.Row.{Row}
use Rattle.measure_agg.specs.Aggregate.{Aggregate}
use Rattle.describing_set.specs.declared.listing.Spot.{Spot}
use Rattle.row_ledger.specs.{Worked.{berlin, in_city, row, spot, opened, for_de}, declared.event.Event.Event, declared.event.Event.TheVariants.{Synced, Begun, Acked, Asked, Answered, Called, Ended}, declared.settings.Call.TheVariants.Sync, declared.settings.How.TheVariants.Fine}

-- the row is acknowledged through server 0
abbrev pub inserted : List Event
inserted = Acked 2 (0 ∷ []) ∷ Begun 0 0 row ∷ opened

-- server 0 pulls this
abbrev pub pulled : List Spot → List Event
pulled listing = Ended 4 Fine ∷ Synced 0 listing ∷ Called 2 (Sync 0) ∷ inserted

-- the first shards, of which shard 0 has rows at berlin
abbrev pub with_berlin : List Spot
with_berlin = spot 0 0 (berlin ∷ []) ∷ spot 1 1 [] ∷ []

-- and behind that server 1 pulls too
abbrev pub told : List Event
told = Ended 7 Fine ∷ Synced 1 with_berlin ∷ Called 2 (Sync 1) ∷ pulled with_berlin

-- and is asked for the country
abbrev pub asked_elsewhere : Aggregate → List Event
asked_elsewhere answer = Answered 10 answer ∷ Asked 1 1 for_de ∷ told

-- a second row at berlin, through server 0, behind both pulls, and the aggregate of both rows

abbrev pub second : Row
second = record { no = 10; at = in_city berlin; measures = pos 7 }

abbrev pub both : Aggregate
both = record { count = 2; sum = pos 12; least = Some (pos 5); greatest = Some (pos 7) }

abbrev pub under_box : Aggregate → List Event
under_box answer = Answered 12 answer ∷ Asked 1 1 for_de ∷ Acked 10 (0 ∷ []) ∷ Begun 0 0 second ∷ told
