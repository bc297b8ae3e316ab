use Rattle.olap_top.proofs.Hall.{hall-left-behind, hall-left-within}
use Rattle.olap_top.proofs.threads.OnThreads.into_state.Goals as goal

pub returns-clause-behind : goal.returns-clause-behind
returns-clause-behind c = λ wanted s ps behind. hall-left-behind wanted s c.args.self.hall c.args.self.passes c.close.result behind.is c.close.ensures.closed ps behind.none_gone

pub returns-clause-within : goal.returns-clause-within
returns-clause-within c = λ wanted s ps phase is. hall-left-within wanted s c.args.self.hall c.args.self.passes c.close.result is c.close.ensures.closed ps phase
