use Rattle.std.proofs.Common.{ℕ, ◌≡◌, ◌<◌, [], get_or, length}
use Rattle.dim_hierarchy.proofs.lineage.copied.Given as goal

abbrev pub invariant-loop-level : goal.invariant-loop-level
invariant-loop-level l = record {
  length : length l.copy ≡ 9;
  each : (k : ℕ) → k < l.level → get_or l.copy k [] ≡ get_or l.lineages k [];
}
