use Rattle.std.proofs.Common.{◌≡◌, ◌+◌, ◌++◌, length, vec_capacity}
use Rattle.std.specs.Prelude.{reverse}
use Rattle.core_admin.specs.BuildDue.{blocks_of}
use Rattle.core_admin.proofs.trees.place.Given as goal

abbrev pub invariant-loop-last : goal.invariant-loop-last
invariant-loop-last l = record {
  boxes : length l.room.boxes.items + length l.initial.blocks.items ≡ length l.fn.room.boxes.items + length l.blocks.items;
  unbuilt : blocks_of l.room.unbuilt.items ++ reverse l.blocks.items ≡ blocks_of l.fn.room.unbuilt.items ++ reverse l.initial.blocks.items;
  capacity : vec_capacity l.room.unbuilt ≡ vec_capacity l.fn.room.unbuilt;
  spent : l.room.spent ≡ l.fn.room.spent;
  count : length l.room.unbuilt.items + length l.blocks.items ≡ length l.fn.room.unbuilt.items + length l.initial.blocks.items;
}

abbrev pub decreases-loop-last : goal.decreases-loop-last
decreases-loop-last l = length l.blocks.items
