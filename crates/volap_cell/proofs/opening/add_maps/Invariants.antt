use Rattle.volap_cell.specs.Filling.{Adds, IsMap}
use Rattle.volap_cell.proofs.opening.add_maps.Given as goal

abbrev pub invariant-loop-worker : goal.invariant-loop-worker
invariant-loop-worker l = Adds l.worker (IsMap l.first_gate) l.initial.cells.items l.cells.items
