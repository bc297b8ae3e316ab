use Rattle.std.proofs.Common.{◌≡◌, ◌++◌, codes, string_bytes, take}
use Rattle.std.specs.List.{flat_map}
use Rattle.answer_text.specs.Printed.{line, node_said}
use Rattle.answer_text.proofs.pages.push_nodes.Given as goal

abbrev pub invariant-loop-node : goal.invariant-loop-node
invariant-loop-node l =
    string_bytes l.text ≡ string_bytes l.fn.text ++ flat_map (λ node. line l.number (codes "node") (node_said node)) (take l.node-index l.nodes)
