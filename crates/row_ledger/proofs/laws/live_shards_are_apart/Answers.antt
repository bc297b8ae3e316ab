use Rattle.row_ledger.proofs.Descent.{live-apart}
use Rattle.row_ledger.proofs.laws.live_shards_are_apart.Goals as goal

pub returns : goal.returns
returns c = λ site usable h x y right. live-apart site usable h x y right.each
