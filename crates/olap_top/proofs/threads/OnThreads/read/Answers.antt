use Rattle.olap_top.proofs.Hall.{been-read}
use Rattle.olap_top.proofs.threads.OnThreads.read.Goals as goal

pub returns-clause-kept : goal.returns-clause-kept
returns-clause-kept g c = λ wanted s ps behind. been-read wanted s c.args.self.now.hall c.args.self.now.passes c.read_history.new.passes c.read_history.ensures.on ps behind
