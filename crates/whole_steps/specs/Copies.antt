-- Which events a copy takes no memory for.
use Rattle.std.specs.Prelude.{Bool, true, false}
use Rattle.row_ledger.specs.declared.event.Event.{Event}
use Rattle.row_ledger.specs.declared.event.Event.TheVariants.{Acked, Asked, Called, Shown, Synced}

abbrev pub is_small : Event → Bool
is_small (Synced server listing) = false
is_small (Acked of path) = false
is_small (Asked session server filter) = false
is_small (Called session call) = false
is_small (Shown of page) = false
is_small event = true
