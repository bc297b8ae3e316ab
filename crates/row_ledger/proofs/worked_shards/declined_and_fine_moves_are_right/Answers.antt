use Rattle.std.proofs.Common.{refl}
use Rattle.row_ledger.specs.{Worked.site, WorkedPulls.inserted, WorkedShards.moved, declared.settings.Call.TheVariants.Move, declared.settings.Decline.TheVariants.Unknown, declared.settings.How.TheVariants.{Fine, Declined}}
use Rattle.row_ledger.proofs.{Growth.{KeepsRight-called, KeepsRight-moved, KeepsRight-ended, IsRight-kept}, PulledRight.{all, inserted_right}}
use Rattle.row_ledger.proofs.worked_shards.declined_and_fine_moves_are_right.Goals as goal

pub returns : goal.returns
returns c =
    let asked = KeepsRight-called site all inserted 3 (Move 0 7) tt inserted_right in
    let declined = KeepsRight-ended site all _ 4 (Declined Unknown) asked
    (record { call = Move 0 7; called = refl; is_open = refl; may_end = (refl, refl); page = refl }) in
    let again = KeepsRight-called site all _ 3 (Move 0 1) tt declined in
    let done = KeepsRight-moved site all _ 6 0 1 again
    (record { call = Move 0 1; called = refl; is_open = refl; asked = (refl, refl); live = refl }) in
    IsRight-kept site all moved
    (KeepsRight-ended site all _ 6 Fine done
    (record { call = Move 0 1; called = refl; is_open = refl; may_end = (refl, (refl, refl)); page = refl }))
