use Rattle.std.proofs.Common.{◌≡◌, ◌+◌, ◌-◌, ◌++◌, length, sum}
use Rattle.shard_plan.specs.Building.{cells_for, leaves_for, levels_over, levels_for}
use Rattle.shard_build.specs.{Building.{AreLeavesFirst, IsGrown, UsesUp}, Sizes.{built_sizes, sizes_of}}
use Rattle.shard_build.proofs.{Levels.AreLevelsTo, Sizes.sizes_over}
use Rattle.shard_build.proofs.builder.build.Given as goal

abbrev pub invariant-loop : goal.invariant-loop
invariant-loop l = record {
  grown : IsGrown l.h l.rows.items l.site.blocks l.from (l.counter - 1);
  cells : length l.site.blocks + sum (levels_over (length l.site.blocks - l.from) (length l.site.blocks - l.from)) ≡ cells_for l.n + (length l.site.blocks - l.from);
  levels : l.counter + length (levels_over (length l.site.blocks - l.from) (length l.site.blocks - l.from)) ≡ levels_for l.n + 1;
  kinds : AreLeavesFirst (leaves_for l.n) l.site.blocks;
  sizes : sizes_of l.site.blocks ++ sizes_over (length l.site.blocks - l.from) ≡ built_sizes l.n;
  parents : AreLevelsTo l.h l.n l.site.blocks l.from;
  boxes : length l.site.blocks + l.site.directories ≡ cells_for l.n;
  uses : UsesUp l.site.blocks l.fn.purse l.purse;
}
