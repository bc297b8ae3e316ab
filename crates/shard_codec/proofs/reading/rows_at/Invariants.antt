use Rattle.std.proofs.Common.{◌≡◌, ◌-◌, []}
use Rattle.shard_codec.specs.Reading.{rows_at}
use Rattle.shard_codec.proofs.reading.rows_at.Given as goal

abbrev pub invariant-loop-row : goal.invariant-loop-row
invariant-loop-row l = rows_at l.h l.len (l.count - l._row) l.rows.items l.rest ≡ rows_at l.h l.len l.count [] l.bytes
