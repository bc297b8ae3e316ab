use Rattle.std.proofs.Common.{[], ◌∷◌, refl}
use Rattle.dim_hierarchy.specs.Tree.{is_under, way_up}
use Rattle.row_ledger.specs.{Worked.{site, row, for_de}, WorkedPulls.{told, second, both, under_box}}
use Rattle.row_ledger.proofs.{Answering.{CanAnswer-insert, KeepsRight-insert, KeepsRight-query}, Growth.IsRight-kept, PulledRight.{all, told_right, told_answer}}
use Rattle.row_ledger.proofs.worked_pulls.row_known_by_its_box_is_right.Goals as goal

pub returns : goal.returns
unfolding is_under way_up
returns c =
    let keeps = KeepsRight-insert site all told 0 0 second (0 ∷ []) told_right refl refl in
    let can = CanAnswer-insert site all told (row ∷ []) 0 0 second (0 ∷ []) told_right told_answer refl refl in
    IsRight-kept site all (under_box both) (KeepsRight-query site all _ 1 1 for_de (second ∷ row ∷ []) both keeps can refl)
