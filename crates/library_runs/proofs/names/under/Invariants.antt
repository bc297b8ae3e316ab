use Rattle.std.proofs.Common.{ℕ, ◌≡◌, List, Bor, length, map, take}
use Rattle.std.specs.Prelude.{All}
use Rattle.dim_hierarchy.specs.Names.{IsNamePick}
use Rattle.library_runs.specs.Names.{pick_under}
use Rattle.library_runs.proofs.names.under.Given as goal

abbrev pub invariant-loop-names : goal.invariant-loop-names
invariant-loop-names l = record {
  picks : l.filter ≡ map (λ (names : Bor (List (Bor (List ℕ)))). pick_under (map (λ (name : Bor (List ℕ)). name.now) names.now)) (take l.names-index l.lists);
  count : length l.filter ≡ l.names-index;
  some : All IsNamePick l.filter;
}
