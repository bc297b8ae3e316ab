use Rattle.std.proofs.Common.{◌≡◌, length}
use Rattle.turn_table.proofs.waits.nobody.Given as goal

abbrev pub invariant-loop : goal.invariant-loop
invariant-loop l = length l.waiting.items ≡ l.counter
