use Rattle.std.proofs.Common.{◌≡◌, ◌++◌, length, take}
use Rattle.std.specs.List.{flat_map}
use Rattle.shard_codec.specs.Wire.{head_wire, row_wire}
use Rattle.shard_codec.proofs.writing.encode.Given as goal

abbrev pub invariant-loop-row : goal.invariant-loop-row
invariant-loop-row l = l.bytes.items ≡ head_wire l.dims (length l.rows) ++ flat_map (row_wire l.dims) (take l.row-index l.rows)
