use Rattle.seeded_run.proofs.Surveys.{AreNoted}
use Rattle.seeded_run.proofs.survey.note_parts.Given as goal

abbrev pub invariant-loop-place : goal.invariant-loop-place
invariant-loop-place l = AreNoted l.workers l.parts l.place l.known l.initial.awaited l.awaited
