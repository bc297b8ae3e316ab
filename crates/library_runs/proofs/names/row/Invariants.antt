use Rattle.std.proofs.Common.{ℕ, ◌≡◌, List, Bor, length, map, take}
use Rattle.library_runs.proofs.names.row.Given as goal

abbrev pub invariant-loop-name : goal.invariant-loop-name
invariant-loop-name l = record {
  names : l.row ≡ map (λ (name : Bor (List ℕ)). name.now) (take l.name-index l.names);
  count : length l.row ≡ l.name-index;
}
