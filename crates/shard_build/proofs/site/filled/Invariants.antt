use Rattle.std.proofs.Common.{◌≡◌, take, length}
use Rattle.shard_build.proofs.site.filled.Given as goal

abbrev pub invariant-loop-row : goal.invariant-loop-row
invariant-loop-row l = (l.leaf.items ≡ take l.row-index l.rows) × (length l.leaf.items ≡ l.row-index)
