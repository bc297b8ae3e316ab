use Rattle.std.proofs.Common.{◌≡◌, take}
use Rattle.whole_steps.proofs.histories.copy_path.Given as goal

abbrev pub invariant-loop-id : goal.invariant-loop-id
invariant-loop-id l = l.copy ≡ take l.id-index l.path
