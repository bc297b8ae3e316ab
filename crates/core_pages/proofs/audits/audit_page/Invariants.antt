use Rattle.std.proofs.Common.{◌≡◌, take}
use Rattle.core_pages.specs.{Looks.cells_in, Shards.{agg_of_spots, frontier_in}}
use Rattle.core_pages.proofs.audits.audit_page.Given as goal

-- the spots so far
abbrev pub invariant-loop-place : goal.invariant-loop-place
invariant-loop-place g l = record {
  same : g.C.Cells.state l.cells ≡ g.C.Cells.state l.fn.cells;
  agg : l.agg ≡ agg_of_spots l.servers (cells_in (g.C.Cells.state l.fn.cells)) (take l.place (frontier_in (cells_in (g.C.Cells.state l.fn.cells))));
}
