use Rattle.std.proofs.Common.{◌≡◌, length}
use Rattle.shard_build.proofs.site.leaf_boxes.Given as goal

abbrev pub invariant-loop : goal.invariant-loop
invariant-loop l = l.counter ≡ length l.boxes.items
