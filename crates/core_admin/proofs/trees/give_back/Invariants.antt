use Rattle.std.proofs.Common.{◌≡◌, ◌≤◌, ◌++◌, length, map}
use Rattle.std.specs.Prelude.{reverse}
use Rattle.core_tree.specs.shard_build.specs.Building.{spare_of}
use Rattle.core_admin.proofs.trees.give_back.Given as goal

abbrev pub invariant-loop-last : goal.invariant-loop-last
invariant-loop-last l = record {
  back : l.purse.spares ++ reverse (map spare_of l.blocks.items) ≡ l.fn.purse.spares ++ reverse (map spare_of l.initial.blocks.items);
  room : length l.blocks.items ≤ l.purse.room;
}

abbrev pub decreases-loop-last : goal.decreases-loop-last
decreases-loop-last l = length l.blocks.items
