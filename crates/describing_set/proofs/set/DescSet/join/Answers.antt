use Rattle.std.proofs.Common.{◌≡◌, length, arith}
use Rattle.describing_set.proofs.Sets.{joined_set, IsDescSetOf-joined}
use Rattle.describing_set.proofs.set.DescSet.join.Goals as goal

pub returns-clause-joined : goal.returns-clause-joined
returns-clause-joined c =
    let count : length c.loop-dim.parts.items ≡ length c.args.h.now = omega (arith, c.loop-dim.invariant.0, c.loop-dim-test.false, c.loop-dim.auto.dim-end, c.dims-dim-end.ensures.value) in
    joined_set c.args.h.now c.args.self.now c.args.other.now _ count (λ k lt. c.loop-dim.invariant.1 k (omega (arith, count, lt, c.loop-dim.invariant.0)))

pub returns-clause-valid : goal.returns-clause-valid
returns-clause-valid c =
    let count : length c.loop-dim.parts.items ≡ length c.args.h.now = omega (arith, c.loop-dim.invariant.0, c.loop-dim-test.false, c.loop-dim.auto.dim-end, c.dims-dim-end.ensures.value) in
    IsDescSetOf-joined c.args.h.now c.args.self.now c.args.other.now _ c.requires.set c.requires.other
    (joined_set c.args.h.now c.args.self.now c.args.other.now _ count (λ k lt. c.loop-dim.invariant.1 k (omega (arith, count, lt, c.loop-dim.invariant.0))))
