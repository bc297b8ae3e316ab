use Rattle.std.proofs.Common.{◌≡◌, drop}
use Rattle.dim_hierarchy.specs.Filter.{in_each, is_picked, matches}
use Rattle.dim_hierarchy.proofs.compiled.CompiledFilter.matches.Given as goal

abbrev pub invariant-loop-dim : goal.invariant-loop-dim
invariant-loop-dim l = matches l.self.hierarchy l.self.picks l.at ≡ in_each is_picked (drop l.dim l.self.hierarchy) (drop l.dim l.self.picks) (drop l.dim l.at.at)
