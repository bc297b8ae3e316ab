use Rattle.std.proofs.Common.{All, take}
use Rattle.shard_codec.specs.Spelled.{IsSpelled}
use Rattle.core_admin.proofs.trees.rows_fit.Given as goal

abbrev pub invariant-loop-row : goal.invariant-loop-row
invariant-loop-row l = record { fit : All (IsSpelled l.h) (take l.row-index l.rows) }
