use Rattle.std.proofs.Common.{◌≡◌, ℕ, ◌<◌, ◌≤◌, false, true, get_or, take, vec_len, vec_capacity}
use Rattle.std.specs.Slots.{slots_filled, slots_len, slots_items}
use Rattle.turn_table.proofs.ends.taken_apart.Given as goal

abbrev pub invariant-loop-i : goal.invariant-loop-i
invariant-loop-i g l = record {
  full : (k : ℕ) → l.i ≤ k → k < slots_len l.closed.slots → get_or (slots_filled l.closed.slots) k false ≡ true;
  freed : (k : ℕ) → k < l.i → get_or (slots_filled l.closed.slots) k false ≡ false;
  same : slots_items l.closed.slots ≡ slots_items l.initial.closed.slots;
  count : slots_len l.closed.slots ≡ slots_len l.initial.closed.slots;
  items : l.out.items ≡ take l.i (slots_items l.initial.closed.slots);
  len : vec_len l.out ≡ l.i;
  room : slots_len l.closed.slots ≤ vec_capacity l.out;
}
