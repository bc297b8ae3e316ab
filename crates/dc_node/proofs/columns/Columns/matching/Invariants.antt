use Rattle.dc_node.proofs.Keeping.{Keeping}
use Rattle.dc_node.proofs.columns.Columns.matching.Given as goal

abbrev pub invariant-loop-dim : goal.invariant-loop-dim
invariant-loop-dim l = Keeping l.wanted.hierarchy l.wanted.picks l.self l.count l.dim l.places
