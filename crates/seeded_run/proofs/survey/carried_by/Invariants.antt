use Rattle.seeded_run.proofs.Surveys.{AreMarked}
use Rattle.seeded_run.proofs.survey.carried_by.Given as goal

abbrev pub invariant-loop-number : goal.invariant-loop-number
invariant-loop-number l = AreMarked l.actors l.carried l.number
