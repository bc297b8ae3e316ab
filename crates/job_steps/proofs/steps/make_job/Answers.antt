use Rattle.std.proofs.Common.{arith}
use Rattle.job_steps.proofs.Made.{goes-on, job-asked, job-few, job-kept}
use Rattle.seat_steps.proofs.Since.{as-before, map-err, map-ok, refused-unchanged}
use Rattle.job_steps.proofs.steps.make_job.Goals as goal

pub make-requires-clause-some : goal.make-requires-clause-some
make-requires-clause-some c = omega (arith, c.requires.at.count, (job-few c.args.step).0)

pub make-requires-clause-few : goal.make-requires-clause-few
make-requires-clause-few c = omega (arith, c.requires.at.count, (job-few c.args.step).1)

pub make-requires-clause-asked : goal.make-requires-clause-asked
make-requires-clause-asked c = job-asked c.args.floor.now c.args.player.now c.requires.seated c.args.step c.requires.due c.requires.at

pub make-requires-clause-kept : goal.make-requires-clause-kept
make-requires-clause-kept c = job-kept c.args.floor.now.hierarchy c.args.player.now c.args.step c.requires.opened.no_part

pub returns-clause-went : goal.returns-clause-went
returns-clause-went c = map-ok c.make.result (λ made. goes-on c.args.floor.now c.args.step c.requires.quiet c.requires.opened.no_part c.make.ensures.stands c.make.ensures.lists made) c.make.ensures.made

pub returns-clause-same : goal.returns-clause-same
returns-clause-same c = map-err c.make.result (λ same. as-before c.args.floor.now c.make.ensures.stands same) (refused-unchanged c.make.result _ _ c.make.ensures.same c.make.ensures.same_actor c.make.ensures.uncounted c.make.ensures.same_seen)
