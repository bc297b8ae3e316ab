use Rattle.std.proofs.Common.{◌≡◌, false, get_or, subst, true}
use Rattle.seeded_run.proofs.Surveys.{one-known}
use Rattle.seeded_run.proofs.survey.first_unknown.Goals as goal

pub loop-known-preserved : goal.loop-known-preserved
loop-known-preserved c =
    one-known c.args.awaited.now c.loop-known.known c.loop-known.invariant (subst (λ k. get_or c.args.awaited.now k false ≡ true) c.from.ensures c.if-awaited-from.true)
