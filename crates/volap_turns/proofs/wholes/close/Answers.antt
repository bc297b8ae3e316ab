use Rattle.volap_turns.proofs.Filled.{history-again, whole-again}
use Rattle.volap_turns.proofs.wholes.close.Goals as goal

pub returns-clause-whole : goal.returns-clause-whole
returns-clause-whole c = whole-again c.close.ensures c.requires.actors

pub returns-clause-history : goal.returns-clause-history
returns-clause-history c = history-again c.close.ensures c.requires.actors
