use Rattle.core_told.proofs.Told.{others-law, told-law}
use Rattle.core_told.proofs.laws.steps_tell_so.Goals as goal

pub returns-clause-told : goal.returns-clause-told
returns-clause-told c = told-law

pub returns-clause-others : goal.returns-clause-others
returns-clause-others c = others-law
