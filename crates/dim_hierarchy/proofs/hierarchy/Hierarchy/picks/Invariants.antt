use Rattle.dim_hierarchy.proofs.Coordinates.{IsFilterSoFar}
use Rattle.dim_hierarchy.proofs.hierarchy.Hierarchy.picks.Given as goal

abbrev pub invariant-loop-dim : goal.invariant-loop-dim
invariant-loop-dim l = IsFilterSoFar l.self l.names l.filter l.dim
