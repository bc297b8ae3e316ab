use Rattle.std.proofs.Common.{◌≡◌}
use Rattle.dim_hierarchy.specs.NameNodes.{stop_behind, stop_of}
use Rattle.dim_hierarchy.proofs.name_nodes.stop_of.Given as goal

abbrev pub invariant-loop-node : goal.invariant-loop-node
invariant-loop-node l = stop_behind l.nodes l.name l.hash l.left l.at l.digits ≡ stop_of l.nodes l.name l.hash

abbrev pub decreases-loop-node : goal.decreases-loop-node
decreases-loop-node l = l.left
