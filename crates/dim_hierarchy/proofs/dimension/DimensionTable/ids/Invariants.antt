use Rattle.dim_hierarchy.proofs.Named.{IsGathered}
use Rattle.dim_hierarchy.proofs.dimension.DimensionTable.ids.Given as goal

abbrev pub invariant-loop-name : goal.invariant-loop-name
invariant-loop-name l = IsGathered l.self l.names l.name-index l.ids
