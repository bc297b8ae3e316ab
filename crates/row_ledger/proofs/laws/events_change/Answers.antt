use Rattle.row_ledger.proofs.Changes.{quiet, acked-changes, synced-changes, split-changes, moved-changes}
use Rattle.row_ledger.proofs.laws.events_change.Goals as goal

pub returns : goal.returns
returns c = record { quiet = quiet; acked = acked-changes; synced = synced-changes; split = split-changes; moved = moved-changes }
