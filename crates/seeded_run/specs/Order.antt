-- Whether a schedule lets the commands of a script go in order.
use Rattle.std.specs.Prelude.{Bool, true, false}
use Rattle.seeded_turns.specs.declared.schedule.Schedule.{Schedule}
use Rattle.seeded_turns.specs.declared.schedule.Schedule.TheVariants as schedule_is

-- whether the commands go one after the other
abbrev pub is_order : Schedule → Bool
is_order schedule_is.Order = true
is_order (schedule_is.Seed g) = false
