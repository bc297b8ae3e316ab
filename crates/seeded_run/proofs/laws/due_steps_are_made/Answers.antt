use Rattle.seeded_run.proofs.{Instead.made-as-due, Phases.OneTurn.one-turn}
use Rattle.seeded_run.proofs.laws.due_steps_are_made.Goals as goal

pub returns-clause-made : goal.returns-clause-made
returns-clause-made c = λ in_order s p w n now turn none. made-as-due turn.due_kind turn.made none turn.stands

pub returns-clause-one : goal.returns-clause-one
returns-clause-one c = one-turn
