use Rattle.std.proofs.Common.{◌∙◌, ◌-◌, List, length, ap}
use Rattle.std.specs.Prelude.{slice_get}
use Rattle.row_ledger.specs.{LedgerValue.LedgerValue, Past.newest, declared.event.Event.Event}
use Rattle.row_ledger.proofs.Positions.{newest_reversed}
use Rattle.row_ledger.proofs.ledger.Ledger.newest.Goals as goal

pub returns : goal.returns
returns c =
    c.last.ensures.value
    ∙ ap (λ (l : List Event). slice_get l (length l - 1)) c.deref.ensures.value
    ∙ newest_reversed c.self.inside.events.items
    ∙ ap (λ (v : LedgerValue). newest v.history) c.self.view_is
