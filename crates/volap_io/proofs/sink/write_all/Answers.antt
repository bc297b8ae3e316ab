use Rattle.std.proofs.Common.{◌-◌, length, drop, arith, length-drop, length-take}
use Rattle.volap_io.proofs.Pieces.{Appends-more}
use Rattle.volap_io.proofs.sink.write_all.Goals as goal

pub rest-preserved : goal.rest-preserved
rest-preserved g c =
    let bytes = c.args.bytes.now in
    let done = c.rest.done in
    let wrote = c.in_ok-done.ensures in
    record {
      later = omega (arith, wrote.cause.later);
      within = omega (arith, wrote.bound, length-drop done bytes, length-take (length bytes - done) (drop done bytes));
      taken = Appends-more _ _ _ bytes done c.in_ok-done.field-0 c.rest.invariant.taken wrote.bytes;
    }
