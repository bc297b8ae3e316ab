use Rattle.std.specs.Prelude.{map, drop}
use Rattle.dim_hierarchy.specs.NameNodes.{names_of}
use Rattle.dim_hierarchy.proofs.NameMaps.{AreLeft}
use Rattle.dim_hierarchy.proofs.name_table.NameTable.name_of.Given as goal

abbrev pub invariant-loop-node : goal.invariant-loop-node
invariant-loop-node l = AreLeft l.self l.id (names_of (drop l.node-index l.node-items) l.self-inside.others.entries)

abbrev pub invariant-loop-name : goal.invariant-loop-name
invariant-loop-name l = AreLeft l.self l.id (map (λ e. e.0.items) l.name-iterator)
