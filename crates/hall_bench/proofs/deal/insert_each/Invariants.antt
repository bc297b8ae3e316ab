use Rattle.std.proofs.Common.{◌≡◌}
use Rattle.hall_bench.proofs.deal.insert_each.Given as goal

abbrev pub invariant-loop-place : goal.invariant-loop-place
invariant-loop-place g l = l.session ≡ record l.initial.session { seen = l.session.seen }
