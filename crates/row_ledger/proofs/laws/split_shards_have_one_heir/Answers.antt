use Rattle.row_ledger.proofs.Descent.{comes_from-child}
use Rattle.row_ledger.proofs.laws.split_shards_have_one_heir.Goals as goal

pub returns : goal.returns
returns c = λ site usable h of shard left right y is_right was. comes_from-child site usable h shard left right y is_right.each (of, was)
