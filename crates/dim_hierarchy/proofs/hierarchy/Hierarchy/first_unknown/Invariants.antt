use Rattle.std.proofs.Common.{◌≡◌, ◌<◌, ℕ, get_or, false}
use Rattle.std.specs.Prelude.{None, is_none}
use Rattle.dim_hierarchy.specs.Filter.{picks}
use Rattle.dim_hierarchy.proofs.hierarchy.Hierarchy.first_unknown.Given as goal

abbrev pub invariant-loop-dim : goal.invariant-loop-dim
invariant-loop-dim l = (k : ℕ) → k < l.dim → is_none (get_or (picks l.self l.names) k None) ≡ false
