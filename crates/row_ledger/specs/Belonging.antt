-- Which command an event belongs to.
use Rattle.std.specs.Prelude.{ℕ, Option, Some, None}
use Rattle.row_ledger.specs.{declared.event.Event.Event, declared.event.Event.TheVariants.{Acked, Answered, Failed, Split, Moved, Left, Shown, Ended}}

-- the position of the command that an event belongs to and doesn't begin
abbrev pub number_in : Event → Option ℕ
number_in (Acked of path) = Some of
number_in (Answered of agg) = Some of
number_in (Failed of) = Some of
number_in (Split of shard left right) = Some of
number_in (Moved of shard worker) = Some of
number_in (Left of shard how) = Some of
number_in (Shown of page) = Some of
number_in (Ended of how) = Some of
number_in _ = None
