use Rattle.std.proofs.Common.{◌≡◌, ◌+◌, ◌*◌, ◌++◌, drop}
use Rattle.std.specs.List.{flat_map}
use Rattle.core_image.specs.tree_shape.specs.PageLines.{lines}
use Rattle.core_pages.specs.Looks.{blocks_of, cells_in}
use Rattle.core_pages.proofs.walk.+group.Given as goal

abbrev pub decreases-push_group : goal.decreases-push_group
decreases-push_group g l = 2 * l.level

abbrev pub decreases-push_all : goal.decreases-push_all
decreases-push_all g l = 2 * l.level + 1

abbrev pub invariant-push_all-loop-entry : goal.invariant-push_all-loop-entry
invariant-push_all-loop-entry g l = record {
  same : g.C.Cells.state l.cells ≡ g.C.Cells.state l.fn.cells;
  lines : l.nodes ++ flat_map (λ e. lines (blocks_of l.many (cells_in (g.C.Cells.state l.fn.cells))) l.level l.depth e) (drop l.entry-index l.entries)
      ≡ l.fn.nodes ++ flat_map (λ e. lines (blocks_of l.many (cells_in (g.C.Cells.state l.fn.cells))) l.level l.depth e) l.entries;
}
