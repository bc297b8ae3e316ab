use Rattle.volap_cell.specs.Filling.{Adds, IsFreeCell}
use Rattle.volap_cell.proofs.opening.add_free.Given as goal

abbrev pub invariant-loop : goal.invariant-loop
invariant-loop l = Adds l.counter IsFreeCell l.initial.cells.items l.cells.items
