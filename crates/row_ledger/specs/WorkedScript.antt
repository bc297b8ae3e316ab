-- The history of a whole small script: a row comes in through server 0, each server pulls, server 1 is asked for the country, an insert
-- names a city that there is none of, and a barrier ends it.
use Rattle.std.specs.Prelude.{List, [], ◌∷◌}
use Rattle.measure_agg.specs.Aggregate.{Aggregate}
use Rattle.row_ledger.specs.{Worked.{row, for_de, first_listing}, WorkedPulls.with_berlin, declared.event.Event.Event, declared.event.Event.TheVariants.{Synced, Begun, Acked, Asked, Answered, Unknown, Called, Ended}, declared.settings.Call.TheVariants.{Sync, Barrier}, declared.settings.How.TheVariants.Fine}

-- the newest event first, with this answer to the query
abbrev pub whole_history : Aggregate → List Event
whole_history answer =
    Ended 13 Fine
    ∷ Called 3 Barrier
    ∷ Unknown 1 1 0
    ∷ Answered 10 answer
    ∷ Asked 1 1 for_de
    ∷ Ended 7 Fine
    ∷ Synced 1 with_berlin
    ∷ Called 2 (Sync 1)
    ∷ Ended 4 Fine
    ∷ Synced 0 with_berlin
    ∷ Called 2 (Sync 0)
    ∷ Acked 2 (0 ∷ [])
    ∷ Begun 0 0 row
    ∷ Synced 1 first_listing
    ∷ Synced 0 first_listing
    ∷ []
