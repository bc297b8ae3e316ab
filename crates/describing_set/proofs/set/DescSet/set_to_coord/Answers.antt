use Rattle.std.proofs.Common.{arith}
use Rattle.describing_set.proofs.Sets.{IsSetOf-one, IsDescSetOf-one}
use Rattle.describing_set.proofs.set.DescSet.set_to_coord.Goals as goal

pub returns-clause-set_of : goal.returns-clause-set_of
returns-clause-set_of c =
    IsSetOf-one c.args.h.now c.args.at.now _ c.requires c.loop-dim.invariant.count (λ dim lt. c.loop-dim.invariant.parts dim (omega (arith, lt, c.dims-dim-end.ensures.value, c.loop-dim-test.false, c.loop-dim.auto.dim-end)))

pub returns-clause-valid : goal.returns-clause-valid
returns-clause-valid c = IsDescSetOf-one c.args.h.now c.args.at.now _ c.requires (returns-clause-set_of c)
