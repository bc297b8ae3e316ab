use Rattle.dim_hierarchy.proofs.Compiling.{AreFirstMarks}
use Rattle.dim_hierarchy.proofs.hierarchy.Hierarchy.compile.Given as goal

abbrev pub invariant-loop-dim : goal.invariant-loop-dim
invariant-loop-dim l = AreFirstMarks l.self l.filter l.dim l.dims.items
