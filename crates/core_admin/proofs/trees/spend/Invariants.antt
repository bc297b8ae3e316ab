use Rattle.std.proofs.Common.{◌≡◌, ◌≤◌, ◌+◌, ◌++◌, take}
use Rattle.core_admin.specs.BuildDue.{blocks_of}
use Rattle.core_tree.specs.volap_cell.specs.AdminKinds.{spent_by}
use Rattle.core_admin.proofs.trees.spend.Given as goal

abbrev pub invariant-loop-one : goal.invariant-loop-one
invariant-loop-one l = record {
  spares : l.spent.spares ≡ l.fn.spent.spares ++ spent_by (blocks_of (take l.one-index l.unbuilt));
  room : l.fn.spent.room ≤ l.spent.room + l.one-index;
}
