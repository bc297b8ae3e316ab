use Rattle.std.proofs.Common.{◌≡◌, sym, ◌∙◌}
use Rattle.dc_node.specs.Block.{is_leaf}
use Rattle.link_descent.proofs.Behind.{none-behind, kinds-differ}
use Rattle.link_descent.proofs.groups.summary_behind.Goals as goal

pub returns-then-is_leaf-clause-summary : goal.returns-then-is_leaf-clause-summary
returns-then-is_leaf-clause-summary c =
    let head = c.args.head.now in
    let block = c.args.block.now in
    let differ : is_leaf head.body ≡ is_leaf block.body → ⊥ = λ e. kinds-differ c.is_leaf.result c.is_leaf-2.result c.if-is_leaf.true (c.is_leaf.ensures ∙ e ∙ sym c.is_leaf-2.ensures) in
    none-behind c.args.h.now head.body block.body block.stamp block.right c.empty.result differ c.empty.ensures.set_of
