use Rattle.std.proofs.Common.{◌≡◌, ℕ, ◌<◌, false}
use Rattle.std.specs.Str.{bytes_eq}
use Rattle.dim_hierarchy.specs.Dimension.{dimension}
use Rattle.dim_hierarchy.proofs.hierarchy.Hierarchy.find_dim.Given as goal

abbrev pub invariant-loop-dim : goal.invariant-loop-dim
invariant-loop-dim l = (k : ℕ) → k < l.dim → bytes_eq (dimension l.self k).name l.name ≡ false
