use Rattle.std.proofs.Common.{◌≡◌, take}
use Rattle.whole_steps.proofs.copies.copy_shards.Given as goal

abbrev pub invariant-loop-line : goal.invariant-loop-line
invariant-loop-line l = l.copy ≡ take l.line-index l.lines
