use Rattle.std.proofs.Common.{◌≡◌, ℕ}
use Rattle.turn_table.specs.Views.{with_note}
use Rattle.turn_table.proofs.table.TurnTable.take.Given as goal

abbrev pub invariant-loop : goal.invariant-loop
invariant-loop g l = (n : ℕ) × (last : ℕ × ℕ) × (l.seat ≡ record l.initial.seat { view = with_note l.initial.seat.view n last })
