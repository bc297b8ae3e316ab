use Rattle.core_shard.proofs.FinishReady.{row-placed}
use Rattle.core_shard.proofs.finishes.row_ended.Goals as goal

-- src/finishes.rt:109:1
pub returns-in-Placed : goal.returns-in-Placed
returns-in-Placed c = record { value = λ server. row-placed server c.args.shard c.args.worker c.args.going c.args.no_path c.in-Placed.is c.requires.empty }
