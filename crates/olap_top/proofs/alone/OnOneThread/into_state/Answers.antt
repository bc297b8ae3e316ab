use Rattle.olap_top.proofs.OneThread.{left-behind, left-within}
use Rattle.olap_top.proofs.alone.OnOneThread.into_state.Goals as goal

pub returns-clause-behind : goal.returns-clause-behind
returns-clause-behind c = λ wanted s ps behind. left-behind wanted s c.args.self ps behind

pub returns-clause-within : goal.returns-clause-within
returns-clause-within c = λ wanted s ps phase within. left-within wanted s c.args.self ps phase within
