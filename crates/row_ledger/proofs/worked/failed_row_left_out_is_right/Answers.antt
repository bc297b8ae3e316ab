use Rattle.std.proofs.Common.{ℕ, Bool, false, [], refl}
use Rattle.row_ledger.specs.{Worked.{site, row, for_de, nothing, opened, answered_and_failed}, declared.event.Event.TheVariants.Begun}
use Rattle.row_ledger.proofs.{Answering.{CanAnswer-older, KeepsRight-query}, Growth.{KeepsRight-begun, KeepsRight-failed, IsRight-kept}, Opened.{opened_right, opened_answer}}
use Rattle.row_ledger.proofs.worked.failed_row_left_out_is_right.Goals as goal

abbrev none : ℕ → Bool
none number = false

pub returns : goal.returns
returns c =
    let keeps = KeepsRight-begun site none opened 0 0 row (opened_right none) refl in
    let can = CanAnswer-older none (Begun 0 0 row) opened [] (opened_answer none) refl in
    let told = KeepsRight-query site none _ 0 0 for_de [] nothing keeps can refl in
    IsRight-kept site none (answered_and_failed nothing) (KeepsRight-failed site none _ 2 told refl (record { begun = refl; is_open = refl }))
