use Rattle.library_runs.proofs.Indexes.{opened}
use Rattle.library_runs.proofs.index.Index.open.Goals as goal

pub returns-clause-held : goal.returns-clause-held
returns-clause-held c =
    let is = c.in_ok-state.ensures in
    opened c.args.hierarchy c.args.cells c.alone.result c.new.result c.in_ok-state.state c.alone.ensures c.new.ensures is.core is.between
