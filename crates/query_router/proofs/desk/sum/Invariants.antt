use Rattle.std.proofs.Common.{◌≡◌, drop}
use Rattle.measure_agg.specs.Joining.{join}
use Rattle.query_router.specs.Desk.{sum_of}
use Rattle.query_router.proofs.desk.sum.Given as goal

abbrev pub invariant-loop-part : goal.invariant-loop-part
invariant-loop-part l = join l.total (sum_of (drop l.part-index l.parts)) ≡ sum_of l.parts
