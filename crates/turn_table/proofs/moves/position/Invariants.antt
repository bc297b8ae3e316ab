use Rattle.std.proofs.Common.{◌≡◌, drop}
use Rattle.turn_table.specs.Numbered.{value_of}
use Rattle.turn_table.proofs.moves.position.Given as goal

abbrev pub invariant-loop-i : goal.invariant-loop-i
invariant-loop-i l = value_of (drop l.i l.row) l.cell ≡ value_of l.row l.cell
