use Rattle.std.proofs.Common.{◌≡◌, ◌++◌, length}
use Rattle.turn_table.specs.Numbered.{numbers_of}
use Rattle.volap_turns.proofs.spread.numbered.Given as goal

abbrev pub invariant-loop-next : goal.invariant-loop-next
invariant-loop-next l = record {
  numbers : l.numbers.items ≡ numbers_of l.done;
  all : l.done ++ l.left ≡ l.initial.left;
}

abbrev pub decreases-loop-next : goal.decreases-loop-next
decreases-loop-next l = length l.left
