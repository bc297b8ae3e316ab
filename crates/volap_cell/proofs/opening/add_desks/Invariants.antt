use Rattle.volap_cell.specs.Filling.{Adds, IsDesk}
use Rattle.volap_cell.proofs.opening.add_desks.Given as goal

abbrev pub invariant-loop-server : goal.invariant-loop-server
invariant-loop-server l = Adds l.server IsDesk l.initial.cells.items l.cells.items
