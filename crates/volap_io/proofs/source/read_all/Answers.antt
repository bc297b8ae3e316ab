use Rattle.std.proofs.Common.{◌≡◌, ◌+◌, ◌≤◌, arith, length-take}
use Rattle.volap_io.proofs.Pieces.{Gave-more}
use Rattle.volap_io.proofs.source.read_all.Goals as goal

pub returns-then-count-room-clause-large : goal.returns-then-count-room-clause-large
returns-then-count-room-clause-large g c =
    let read = c.in-Ok.ensures in
    λ _. Gave-more (λ count. count ≡ c.args.limit + 1) _ _ _ _ _ c.pieces.invariant.came read.bytes.0
    (omega (arith, read.bound.1, read.bound.0, length-take c.min-lent.result c.pieces.buf, c.pieces.bytes.ok.0))

pub returns-in_err-extend_from_slice-clause-no_memory_within : goal.returns-in_err-extend_from_slice-clause-no_memory_within
returns-in_err-extend_from_slice-clause-no_memory_within g c =
    let read = c.in-Ok.ensures in
    λ _. Gave-more (λ count. count ≤ c.args.limit) _ _ _ _ _ c.pieces.invariant.came read.bytes.0
    (omega (arith, read.bound.1, c.pieces.bytes.ok.0))
