use Rattle.std.proofs.Common.{◌≡◌, drop, is_some}
use Rattle.dim_hierarchy.specs.Filter.{ids_named}
use Rattle.dim_hierarchy.proofs.dimension.DimensionTable.knows_all.Given as goal

abbrev pub invariant-loop-name : goal.invariant-loop-name
invariant-loop-name l = is_some (ids_named l.self l.names) ≡ is_some (ids_named l.self (drop l.name-index l.names))
