use Rattle.volap_cell.specs.Filling.{Adds, IsImage}
use Rattle.volap_cell.proofs.opening.add_images.Given as goal

abbrev pub invariant-loop-server : goal.invariant-loop-server
invariant-loop-server l = Adds l.server (IsImage l.registry.frontier) l.initial.cells.items l.cells.items
