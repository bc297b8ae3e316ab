use Rattle.std.proofs.Common.{◌≡◌, length}
use Rattle.core_admin.proofs.trees.boxes_for.Given as goal

abbrev pub invariant-loop : goal.invariant-loop
invariant-loop l = record { count : length l.boxes.items ≡ l.counter }
