use Rattle.std.proofs.Common.{◌≡◌, ◌≤◌, [], take}
use Rattle.core_pages.specs.{Looks.cells_in, Shards.frontier_in}
use Rattle.group_answer.specs.{Adding.with_rows, Reading.rows_of_spots, Seen.TellsAll}
use Rattle.group_answer.proofs.answer.add_shards.Given as goal

-- the spots so far
abbrev pub invariant-loop-place : goal.invariant-loop-place
invariant-loop-place g l = record {
  same : g.C.Cells.state l.cells ≡ g.C.Cells.state l.fn.cells;
  lines : l.found.lines.items ≡ with_rows l.asked (rows_of_spots l.servers l.many (cells_in (g.C.Cells.state l.fn.cells)) (take l.place (frontier_in (cells_in (g.C.Cells.state l.fn.cells))))) [];
  looks : TellsAll l.asked l.servers (g.C.Cells.state l.fn.cells) → l.found.looks ≤ l.place;
}
