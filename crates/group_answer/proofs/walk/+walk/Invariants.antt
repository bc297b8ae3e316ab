use Rattle.std.proofs.Common.{◌≡◌, ◌≤◌, ◌+◌, ◌*◌, length, drop}
use Rattle.std.specs.List.{flat_map}
use Rattle.core_pages.specs.Looks.{blocks_of, cells_in}
use Rattle.group_answer.specs.{Adding.with_rows, Groups.all_of, Reading.rows_at}
use Rattle.group_answer.proofs.walk.+walk.Given as goal

abbrev pub decreases-add_entry : goal.decreases-add_entry
decreases-add_entry g l = 2 * l.level

abbrev pub decreases-add_entries : goal.decreases-add_entries
decreases-add_entries g l = 2 * l.level + 1

-- the entries that are left make of the lines so far those of all entries
abbrev pub invariant-add_entries-loop-entry : goal.invariant-add_entries-loop-entry
invariant-add_entries-loop-entry g l = record {
  same : g.C.Cells.state l.cells ≡ g.C.Cells.state l.fn.cells;
  lines : with_rows l.asked (flat_map (λ e. rows_at (blocks_of l.many (cells_in (g.C.Cells.state l.fn.cells))) l.level e) (drop l.entry-index l.entries)) l.found.lines.items
      ≡ with_rows l.asked (flat_map (λ e. rows_at (blocks_of l.many (cells_in (g.C.Cells.state l.fn.cells))) l.level e) l.entries) l.fn.found.lines.items;
  few : (all_of l.found.lines.items).count + length (flat_map (λ e. rows_at (blocks_of l.many (cells_in (g.C.Cells.state l.fn.cells))) l.level e) (drop l.entry-index l.entries))
      ≤ (all_of l.fn.found.lines.items).count + length (flat_map (λ e. rows_at (blocks_of l.many (cells_in (g.C.Cells.state l.fn.cells))) l.level e) l.entries);
}
