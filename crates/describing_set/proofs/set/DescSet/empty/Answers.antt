use Rattle.std.proofs.Common.{◌≡◌, length, arith}
use Rattle.describing_set.proofs.Sets.{IsSetOf-empty, IsDescSetOf-empty}
use Rattle.describing_set.proofs.set.DescSet.empty.Goals as goal

pub returns-clause-set_of : goal.returns-clause-set_of
returns-clause-set_of c =
    let count : length c.loop-dim.parts.items ≡ length c.args.h.now = omega (arith, c.loop-dim.invariant.0, c.dims-dim-end.ensures.value, c.loop-dim-test.false, c.loop-dim.auto.dim-end) in
    IsSetOf-empty c.args.h.now _ count (λ dim lt. c.loop-dim.invariant.1 dim (omega (arith, count, lt, c.loop-dim.invariant.0)))

pub returns-clause-valid : goal.returns-clause-valid
returns-clause-valid c =
    let count : length c.loop-dim.parts.items ≡ length c.args.h.now = omega (arith, c.loop-dim.invariant.0, c.dims-dim-end.ensures.value, c.loop-dim-test.false, c.loop-dim.auto.dim-end) in
    IsDescSetOf-empty c.args.h.now _ c.dims-dim-end.ensures.valid (IsSetOf-empty c.args.h.now _ count (λ dim lt. c.loop-dim.invariant.1 dim (omega (arith, count, lt, c.loop-dim.invariant.0))))
