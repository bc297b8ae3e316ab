use Rattle.std.proofs.Common.{◌≡◌, take, length}
use Rattle.std.specs.List.{AllZip}
use Rattle.shard_build.specs.Building.{IsEntryTo}
use Rattle.shard_build.proofs.site.entered.Given as goal

abbrev pub invariant-loop-child : goal.invariant-loop-child
invariant-loop-child l = AllZip (IsEntryTo l.h) (take l.child-index l.children) l.entries.items × (length l.entries.items ≡ l.child-index)
