use Rattle.dim_hierarchy.proofs.Ancestry.{AreFirstLineages}
use Rattle.dim_hierarchy.proofs.hierarchy.Hierarchy.lineages.Given as goal

abbrev pub invariant-loop-dim : goal.invariant-loop-dim
invariant-loop-dim l = AreFirstLineages l.self l.at l.dim l.lineages
