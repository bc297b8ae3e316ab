use Rattle.std.proofs.Common.{◌≡◌, ◌+◌, ◌≤◌, ◌<◌, ℕ, ◌++◌, length, take, slice_index_or}
use mathlib.Core.Option.{some}
use Rattle.turn_table.specs.Numbered.{value_of, numbers_of}
use Rattle.turn_table.proofs.held.Held.arranged.Given as goal

abbrev pub invariant-loop-number : goal.invariant-loop-number
invariant-loop-number g l = record {
  order : numbers_of l.done ≡ take l.number-index l.numbers;
  placed : length l.done ≡ l.number-index;
  count : l.number-index + length l.left ≡ length l.numbers;
  same : (k : ℕ) → value_of (l.done ++ l.left) k ≡ value_of l.initial.left k;
  there : (i : ℕ) → l.number-index ≤ i → i < length l.numbers → (c : g.row.T.Denot) × (value_of l.left (slice_index_or l.numbers i 0) ≡ some c);
}
