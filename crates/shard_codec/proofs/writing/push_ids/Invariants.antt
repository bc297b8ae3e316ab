use Rattle.std.proofs.Common.{◌≡◌, ◌++◌, take}
use Rattle.shard_codec.specs.Wire.{ids_wire}
use Rattle.shard_codec.proofs.writing.push_ids.Given as goal

abbrev pub invariant-loop-id : goal.invariant-loop-id
invariant-loop-id l = l.bytes.items ≡ l.initial.bytes.items ++ ids_wire (take l.id-index l.ids)
