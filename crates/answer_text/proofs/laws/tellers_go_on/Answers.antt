use Rattle.answer_text.proofs.TellerFacts.{new_teller_law, teller_law}
use Rattle.answer_text.proofs.laws.tellers_go_on.Goals as goal

pub returns-clause-new : goal.returns-clause-new
returns-clause-new c = new_teller_law

pub returns-clause-next : goal.returns-clause-next
returns-clause-next c = teller_law
