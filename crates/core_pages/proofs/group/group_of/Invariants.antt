use Rattle.std.proofs.Common.{◌≡◌, ◌+◌, ◌*◌, ◌≤◌, ◌++◌, length}
use Rattle.std.specs.List.{flat_map}
use Rattle.dc_node.specs.Block.{size}
use Rattle.list_words.specs.Counts.{total}
use Rattle.core_image.specs.tree_shape.specs.PageLines.{group}
use Rattle.core_pages.specs.Looks.{blocks_of, cells_in}
use Rattle.core_pages.proofs.Walks.{left_of}
use Rattle.core_pages.proofs.group.group_of.Given as goal

abbrev pub invariant-loop : goal.invariant-loop
invariant-loop g l = record {
  same : g.C.Cells.state l.cells ≡ g.C.Cells.state l.initial.cells;
  blocks : l.blocks + length (left_of (blocks_of l.many (cells_in (g.C.Cells.state l.initial.cells))) l.entry l.counter l.next) ≡ length (group (blocks_of l.many (cells_in (g.C.Cells.state l.initial.cells))) l.entry);
  items : l.items + total (λ b. size b.body) (left_of (blocks_of l.many (cells_in (g.C.Cells.state l.initial.cells))) l.entry l.counter l.next)
      ≡ total (λ b. size b.body) (group (blocks_of l.many (cells_in (g.C.Cells.state l.initial.cells))) l.entry);
  kept : l.kept.items ++ flat_map g.K.Keep.kept (left_of (blocks_of l.many (cells_in (g.C.Cells.state l.initial.cells))) l.entry l.counter l.next)
      ≡ flat_map g.K.Keep.kept (group (blocks_of l.many (cells_in (g.C.Cells.state l.initial.cells))) l.entry);
  few : l.blocks ≤ l.counter;
  few_items : l.items ≤ 256 * l.counter;
}
