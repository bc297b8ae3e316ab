use Rattle.std.proofs.Common.{◌≡◌, take}
use Rattle.std.specs.List.{AllZip}
use Rattle.core_pages.specs.{Looks.cells_in, Shards.{HasLine, frontier_in}}
use Rattle.core_pages.proofs.shards.shards_page.Given as goal

-- the spots so far have these lines
abbrev pub invariant-loop-place : goal.invariant-loop-place
invariant-loop-place g l = record {
  same : g.C.Cells.state l.cells ≡ g.C.Cells.state l.fn.cells;
  lines : AllZip (HasLine l.h l.servers (cells_in (g.C.Cells.state l.fn.cells))) (take l.place (frontier_in (cells_in (g.C.Cells.state l.fn.cells)))) l.lines;
}
