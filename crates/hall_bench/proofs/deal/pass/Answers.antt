use Rattle.hall_bench.proofs.Taking.{is-in, taken-in}
use Rattle.hall_bench.proofs.deal.pass.Goals as goal

pub unreachable-requires : goal.unreachable-requires
unreachable-requires c = is-in c.args.number c.args.passes.now c.requires.few c.requires.rest c.in_default.ensures.none

pub returns-clause-rest : goal.returns-clause-rest
returns-clause-rest c = taken-in c.args.number c.args.passes.now _ _ c.requires.rest c.in-Some.ensures.some
