use Rattle.std.proofs.Common.{◌≡◌, ◌≤◌, length}
use Rattle.volap_cell.proofs.boxes.make_blocks.Given as goal

abbrev pub invariant-loop : goal.invariant-loop
invariant-loop l = record { count : l.counter ≡ length l.boxes.items; kept : length l.fn.boxes.items ≤ length l.boxes.items }
