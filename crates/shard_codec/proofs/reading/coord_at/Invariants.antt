use Rattle.std.proofs.Common.{◌≡◌, ◌-◌, length}
use Rattle.shard_codec.specs.Reading.{all_at_top, coord_at}
use Rattle.shard_codec.proofs.reading.coord_at.Given as goal

abbrev pub invariant-loop-dim : goal.invariant-loop-dim
invariant-loop-dim l = coord_at l.h l.len (length l.h - l.dim) l.dim l.at l.rest ≡ coord_at l.h l.len (length l.h) 0 all_at_top l.bytes
