use Rattle.std.proofs.Common.{ℕ, ◌≡◌, List, Bor, map, take}
use Rattle.library_runs.proofs.names.name_list.Given as goal

abbrev pub invariant-loop-name : goal.invariant-loop-name
invariant-loop-name l = l.list ≡ map (λ (name : Bor (List ℕ)). name.now) (take l.name-index l.names)
