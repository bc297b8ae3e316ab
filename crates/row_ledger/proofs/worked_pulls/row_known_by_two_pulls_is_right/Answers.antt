use Rattle.std.proofs.Common.{[], ◌∷◌, refl}
use Rattle.dim_hierarchy.specs.Tree.{is_under, way_up}
use Rattle.row_ledger.specs.{Worked.{site, row, for_de, once}, WorkedPulls.{told, asked_elsewhere}}
use Rattle.row_ledger.proofs.{Answering.KeepsRight-query, Growth.IsRight-kept, PulledRight.{all, told_right, told_answer}}
use Rattle.row_ledger.proofs.worked_pulls.row_known_by_two_pulls_is_right.Goals as goal

pub returns : goal.returns
unfolding is_under way_up
returns c = IsRight-kept site all (asked_elsewhere once) (KeepsRight-query site all told 1 1 for_de (row ∷ []) once told_right told_answer refl)
