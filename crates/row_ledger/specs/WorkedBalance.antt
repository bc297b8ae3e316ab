-- A worked balance: 35 rows in three shards of one worker, of which the two small ones are to move; the first one does, and
-- the second one is left.
use Rattle.std.specs.Prelude.{ℕ, zero, suc, ◌+◌, pos, List, ◌∷◌}
use Rattle.dim_hierarchy.specs.declared.row.Row.{Row}
use Rattle.row_ledger.specs.{Worked.{berlin, in_city, opened}, declared.event.Event.Event, declared.event.Event.TheVariants.{Begun, Called, Moved, Left, Ended}, declared.settings.Call.TheVariants.{Split, Move, Balance}, declared.settings.How.TheVariants.{Fine, Balanced, Postponed}}
use Rattle.row_ledger.specs.declared.event.Event.TheVariants as event

-- so many rows at berlin begin

abbrev pub crowd_row : ℕ → Row
crowd_row n = record { no = n + 2; at = in_city berlin; measures = pos 1 }

abbrev pub crowd : ℕ → List Event
crowd zero = opened
crowd (suc n) = Begun 0 0 (crowd_row n) ∷ crowd n

-- shard 1 comes to worker 0, and shard 0 is split there
abbrev pub to_balance : List Event
to_balance =
    Called 3 (Balance 4)
    ∷ Ended 40 Fine
    ∷ event.Split 40 0 2 3
    ∷ Called 3 (Split 0)
    ∷ Ended 37 Fine
    ∷ Moved 37 1 0
    ∷ Called 3 (Move 1 0)
    ∷ crowd 35

-- of the planned moves of shards 1 and 2 the first one is done, and the second one is left
abbrev pub balanced : List Event
balanced = Ended 43 (Balanced 1 2) ∷ Left 43 2 Postponed ∷ Moved 43 1 1 ∷ to_balance

-- the same, without a word on the second one
abbrev pub balanced_without : List Event
balanced_without = Ended 43 (Balanced 1 2) ∷ Moved 43 1 1 ∷ to_balance
