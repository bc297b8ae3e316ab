use Rattle.row_ledger.specs.{Worked.{site, once}, WorkedShards.across_split}
use Rattle.row_ledger.proofs.{Growth.IsRight-kept, PulledRight.all, SplitRight.across_right}
use Rattle.row_ledger.proofs.worked_shards.query_across_a_split_is_right.Goals as goal

pub returns : goal.returns
returns c = IsRight-kept site all (across_split once) across_right
