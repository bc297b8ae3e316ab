use Rattle.std.proofs.Common.{◌-◌, ◌++◌, ◌∙◌}
use Rattle.dc_node.specs.declared.entry.Entry.{Entry}
use Rattle.row_ledger.specs.declared.page.TreePage.{TreePage}
use Rattle.core_image.specs.tree_shape.specs.PageLines.{lines}
use Rattle.core_pages.specs.Looks.{StateValue, blocks_of, cells_in, gate_in}
use Rattle.core_pages.proofs.Pages.{shows-tree}
use Rattle.core_pages.proofs.walk.page_of.Goals as goal

pub returns-clause-page : goal.returns-clause-page
returns-clause-page g c =
    let top = c.top_of-page.ensures in
    let with_lines = λ (s : StateValue) (p : TreePage) (e : Entry). p.nodes ++ lines (blocks_of c.args.many (cells_in s)) (p.height - 1) 0 e in
    let state = g.C.Cells.state c.args.cells.now in
    shows-tree (gate_in (cells_in state c.args.gate_at)) (blocks_of c.args.many (cells_in state)) c.tree_laws.ensures.order c.tree_laws.ensures.gate c.top_of-page.result.0 c.push_group.new.nodes top.page
    (c.in_ok-push_group.ensures.lines ∙ (λ k. with_lines (top.same k) (top.page k) (top.root k)))
