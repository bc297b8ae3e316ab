use Rattle.volap_cell.specs.Filling.{Adds, IsRoot}
use Rattle.volap_cell.proofs.opening.add_roots.Given as goal

abbrev pub invariant-loop-worker : goal.invariant-loop-worker
invariant-loop-worker l = Adds l.worker IsRoot l.initial.cells.items l.cells.items
