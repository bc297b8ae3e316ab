use Rattle.dim_hierarchy.proofs.Coordinates.{IsCoordSoFar}
use Rattle.dim_hierarchy.proofs.hierarchy.Hierarchy.coord.Given as goal

abbrev pub invariant-loop-dim : goal.invariant-loop-dim
invariant-loop-dim l = IsCoordSoFar l.self l.names l.at l.dim
