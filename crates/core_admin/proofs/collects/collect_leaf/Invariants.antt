use Rattle.std.proofs.Common.{◌≡◌, ◌++◌, take, vec_capacity}
use Rattle.core_admin.proofs.collects.collect_leaf.Given as goal

abbrev pub invariant-loop-place : goal.invariant-loop-place
invariant-loop-place l = record {
  items : l.rows.items ≡ l.initial.rows.items ++ take l.place l.leaf.items;
  capacity : vec_capacity l.rows ≡ vec_capacity l.initial.rows;
}
