use Rattle.std.proofs.Common.{◌≡◌, drop}
use Rattle.measure_agg.specs.Joining.{join}
use Rattle.group_answer.specs.Groups.{all_of}
use Rattle.group_answer.proofs.lines.all_of.Given as goal

-- the lines so far and those that are left
abbrev pub invariant-loop-line : goal.invariant-loop-line
invariant-loop-line l = join l.all (all_of (drop l.line-index l.lines)) ≡ all_of l.lines
