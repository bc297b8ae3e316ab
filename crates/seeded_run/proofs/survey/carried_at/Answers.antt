use Rattle.std.proofs.Common.{◌∙◌, get_or, None, sym}
use Rattle.seeded_run.specs.Takes.{carries_at}
use Rattle.seeded_run.proofs.{Holding.LeftAlone.apart, IdleHands.free-carries}
use Rattle.seeded_run.proofs.survey.carried_at.Goals as goal

pub returns-in-Some : goal.returns-in-Some
returns-in-Some c = λ block carries.
    let place = get_or c.args.actors.now c.args.number None in
    apart (carries_at place block) carries (free-carries place _ block (c.requires.free c.args.number _ c.requires.within (sym c.worker_of.ensures ∙ c.in-Some.is)))
