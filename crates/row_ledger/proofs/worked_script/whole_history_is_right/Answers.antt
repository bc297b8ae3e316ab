use Rattle.std.proofs.Common.{[], ◌∷◌, refl}
use Rattle.dim_hierarchy.specs.Tree.{is_under, way_up}
use Rattle.row_ledger.specs.{Worked.{site, row, for_de, once}, WorkedPulls.told, WorkedScript.whole_history, declared.settings.Call.TheVariants.Barrier, declared.settings.How.TheVariants.Fine}
use Rattle.row_ledger.proofs.{Answering.KeepsRight-query, Growth.{KeepsRight-unknown, KeepsRight-called, KeepsRight-ended, IsRight-kept}, PulledRight.{all, told_right, told_answer}}
use Rattle.row_ledger.proofs.worked_script.whole_history_is_right.Goals as goal

pub returns : goal.returns
unfolding is_under way_up
returns c =
    let answered = KeepsRight-query site all told 1 1 for_de (row ∷ []) once told_right told_answer refl in
    let called = KeepsRight-called site all _ 3 Barrier tt (KeepsRight-unknown site all _ 1 1 0 answered) in
    IsRight-kept site all (whole_history once)
    (KeepsRight-ended site all _ 13 Fine called (record { call = Barrier; called = refl; is_open = refl; may_end = tt; page = refl }))
