use Rattle.volap_cell.specs.Filling.{Adds, IsGate}
use Rattle.volap_cell.proofs.opening.add_gates.Given as goal

abbrev pub invariant-loop-worker : goal.invariant-loop-worker
invariant-loop-worker l = Adds l.worker (IsGate l.h l.first_root) l.initial.cells.items l.cells.items
