use Rattle.std.proofs.Common.{◌≡◌, ◌++◌, length}
use mathlib.Core.Option.{none}
use Rattle.turn_table.specs.Numbered.{value_of}
use Rattle.turn_table.proofs.held.Held.take_out.Given as goal

abbrev pub invariant-loop-next : goal.invariant-loop-next
invariant-loop-next g l = record {
  all : l.passed ++ l.left ≡ l.initial.left;
  apart : value_of l.passed l.number ≡ none;
}

abbrev pub decreases-loop-next : goal.decreases-loop-next
decreases-loop-next g l = length l.left
