use Rattle.library_runs.specs.Index.{alone}
use Rattle.library_runs.proofs.Indexes.{right-index}
use Rattle.library_runs.proofs.index.Index.events.Goals as goal

pub returns-clause-told : goal.returns-clause-told
returns-clause-told c = c.events_in.ensures c.args.self.now.hierarchy (alone c.args.self.now.cells)

pub returns-clause-right : goal.returns-clause-right
returns-clause-right c = right-index c.args.self.now c.requires
