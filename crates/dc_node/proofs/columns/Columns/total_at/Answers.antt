use Rattle.std.proofs.Common.{arith, refl, get_or}
use Rattle.dc_node.proofs.Keeping.{total-more}
use Rattle.dc_node.proofs.columns.Columns.total_at.Goals as goal

pub loop-place-preserved : goal.loop-place-preserved
loop-place-preserved c =
    let i = c.loop-place.place-index in
    record {
      total_is = total-more c.laws.ensures.append c.args.self.now c.args.places.now i (get_or c.args.places.now i 0) c.loop-place.total c.add_to.new.total c.loop-place-test.true refl c.loop-place.invariant.total_is c.add_to.ensures.total;
      few = omega (arith, c.loop-place.invariant.few, c.add_to.ensures.count);
    }
