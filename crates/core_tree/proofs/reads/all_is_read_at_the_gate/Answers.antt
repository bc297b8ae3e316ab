use Rattle.core_tree.proofs.Queries.OfAll.{of-all}
use Rattle.core_tree.proofs.reads.all_is_read_at_the_gate.Goals as goal

pub returns : goal.returns
returns c = of-all
