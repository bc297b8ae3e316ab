use Rattle.std.proofs.Common.{List, ◌≡◌, ◌-◌, ◌+◌, ◌++◌, [], ◌∷◌, ap, ◌∙◌, eqb, arith}
use Rattle.std.specs.List.{flat_map}
use Rattle.dc_node.specs.declared.entry.Entry.{Entry}
use Rattle.core_image.specs.tree_shape.specs.PageLines.{group, group_line, lines}
use Rattle.core_pages.specs.Looks.{StateValue, blocks_of, cells_in}
use Rattle.core_pages.proofs.Walks.{lines-deeper}
use Rattle.core_pages.proofs.walk.+group.Goals as goal

pub push_group-returns-clause-lines : goal.push_group-returns-clause-lines
push_group-returns-clause-lines g t c =
    let blocks = λ (s : StateValue). blocks_of c.args.many (cells_in s) in
    let state = g.C.Cells.state c.args.cells.now in
    let entry = c.args.entry.now in
    let deeper = λ (s : StateValue) (es : List Entry). flat_map (λ x. lines (blocks s) (c.args.level - 1) (c.args.depth + 1) x) es in
    let is = c.in_ok-group.ensures in
    let pushed : c.push.new.self ≡ c.args.nodes.now ++ group_line (eqb c.args.level 0) c.args.depth (group (blocks state) entry) entry ∷ []
    = rw (c.copy.ensures, is.blocks, is.items) at c.in_ok-push.ensures.ok in
    lines-deeper (blocks state) c.args.level (c.args.level - 1) c.args.depth entry c.args.nodes.now c.push.new.self c.push_all.new.nodes (omega arith) pushed
    (c.in_ok-push_all.ensures.lines ∙ ap (λ (s : StateValue). c.push.new.self ++ deeper s c.as_slice-entries.result.now) c.group_of.ensures.same ∙ ap (λ (es : List Entry). c.push.new.self ++ deeper state es) (c.as_slice-entries.ensures.value ∙ is.kept))
