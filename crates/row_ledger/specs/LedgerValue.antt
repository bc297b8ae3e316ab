-- What contracts see of a ledger.
use Rattle.std.specs.Prelude.{ℕ, List}
use Rattle.row_ledger.specs.declared.event.Event.{Event}

-- the events, the newest first, and how many further pushes are promised
pub record LedgerValue : Type 0 where
  pub history : List Event
  pub promised : ℕ
