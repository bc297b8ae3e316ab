use Rattle.std.proofs.Common.{◌≡◌, ◌++◌, take}
use Rattle.group_answer.proofs.walk.copy_rows.Given as goal

abbrev pub invariant-loop-place : goal.invariant-loop-place
invariant-loop-place l = l.rows.items ≡ l.initial.rows.items ++ take l.place l.leaf.items
