use Rattle.std.proofs.Common.{◌≡◌, ◌+◌, length}
use Rattle.shard_build.specs.Building.{AddsLeaves}
use Rattle.shard_build.proofs.builder.add_leaves.Given as goal

abbrev pub invariant-loop : goal.invariant-loop
invariant-loop l = record {
  adds : AddsLeaves l.rows l.at l.site.blocks l.fn.purse l.purse;
  count : length l.site.blocks ≡ l.counter;
  boxes : l.site.leaves + l.counter ≡ l.fn.site.leaves;
  directories : l.site.directories ≡ l.fn.site.directories;
}
