use Rattle.std.proofs.Common.{◌≡◌, ◌≤◌, ◌+◌, ◌-◌, length, drop}
use Rattle.group_answer.specs.{Adding.with_rows, Groups.all_of}
use Rattle.group_answer.proofs.found.Found.add_rows.Given as goal

-- the rows that are left make of the lines so far those of all rows
abbrev pub invariant-loop-row : goal.invariant-loop-row
invariant-loop-row l = record {
  lines : with_rows l.asked (drop l.row-index l.rows) l.self.lines.items ≡ with_rows l.asked l.rows l.fn.self.lines.items;
  few : (all_of l.self.lines.items).count + (length l.rows - l.row-index) ≤ (all_of l.fn.self.lines.items).count + length l.rows;
  looks : l.self.looks ≡ l.fn.self.looks;
}
