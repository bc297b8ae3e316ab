use Rattle.std.proofs.Common.{[], ◌∷◌, refl}
use Rattle.row_ledger.specs.{Worked.{site, once}, WorkedShards.{across_split, third, with_path}}
use Rattle.row_ledger.proofs.{Answering.KeepsRight-insert, Growth.IsRight-kept, PulledRight.all, SplitRight.across_right}
use Rattle.row_ledger.proofs.worked_shards.path_down_a_split_is_right.Goals as goal

pub returns : goal.returns
returns c =
    IsRight-kept site all (with_path (0 ∷ 3 ∷ []))
    (KeepsRight-insert site all (across_split once) 0 0 third (0 ∷ 3 ∷ []) across_right refl refl)
