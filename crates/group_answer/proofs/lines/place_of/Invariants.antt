use Rattle.std.proofs.Common.{◌≡◌, ◌≤◌, ◌-◌, ◌++◌, length, take, drop}
use Rattle.std.specs.Prelude.{IfSome, slice_get}
use Rattle.measure_agg.specs.Aggregate.{Aggregate}
use Rattle.row_ledger.specs.declared.page.GroupLine.{GroupLine}
use Rattle.group_answer.specs.Adding.{with_line}
use Rattle.group_answer.proofs.lines.place_of.Given as goal

-- the lines before the first place stay where they are, and the one at the last is of no lower concept
abbrev pub invariant-loop-from : goal.invariant-loop-from
invariant-loop-from l = record {
  order : l.from ≤ l.to;
  within : l.to ≤ length l.lines;
  front : (total : Aggregate) → with_line l.id total l.lines ≡ take l.from l.lines ++ with_line l.id total (drop l.from l.lines);
  next : IfSome (slice_get l.lines l.to) (λ (x : GroupLine). l.id ≤ x.id);
}

abbrev pub decreases-loop-from : goal.decreases-loop-from
decreases-loop-from l = l.to - l.from
