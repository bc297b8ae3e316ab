use Rattle.std.proofs.Common.{take}
use Rattle.std.specs.Prelude.{All}
use Rattle.dim_hierarchy.specs.Names.{IsNamePick}
use Rattle.run_tests.proofs.scripts.are_picks.Given as goal

abbrev pub invariant-loop-pick : goal.invariant-loop-pick
invariant-loop-pick l = All IsNamePick (take l.pick-index l.picks)
