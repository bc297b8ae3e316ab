use Rattle.std.proofs.Common.{◌+◌, ◌-◌, ◌++◌, length, sym, ap, ◌∙◌, subst, append-nil, arith}
use Rattle.std.specs.List.{flat_map}
use Rattle.dc_node.specs.{Block.size, declared.block.Block.Block}
use Rattle.list_words.specs.Counts.{total}
use Rattle.core_image.specs.tree_shape.specs.PageLines.{group, linked, walk}
use Rattle.core_pages.specs.{Blocks.IsNoteOf, Looks.{StateValue, blocks_of, cells_in}}
use Rattle.core_pages.proofs.Walks.{added-on, follows, left_of, walk-none, walk-on}
use Rattle.core_pages.proofs.group.group_of.Goals as goal

pub returns-in_default : goal.returns-in_default
returns-in_default g c =
    let blocks = blocks_of c.args.many (cells_in (g.C.Cells.state c.args.cells.now)) in
    let stamp = c.args.entry.now.stamp in
    let looks = c.args.many - c.loop.counter in
    let e = ap (λ o. walk blocks stamp looks (linked blocks o)) c.in_default.is ∙ walk-none blocks stamp looks in
    let count = ap length e in
    let items = ap (total (λ (b : Block). size b.body)) e in
    record {
      same = c.loop.invariant.same;
      blocks = omega (arith, c.loop.invariant.blocks);
      items = omega (arith, c.loop.invariant.items);
      kept = sym (append-nil c.loop.kept.items) ∙ ap (λ bs. c.loop.kept.items ++ flat_map g.K.Keep.kept bs) (sym e) ∙ c.loop.invariant.kept;
    }

pub loop-preserved : goal.loop-preserved
loop-preserved g c =
    let blocks = blocks_of c.args.many (cells_in (g.C.Cells.state c.args.cells.now)) in
    let entry = c.args.entry.now in
    let block = blocks.block c.in-Some.cell in
    let note = subst (λ (s : StateValue). IsNoteOf entry.stamp ((blocks_of c.args.many (cells_in s)).block c.in-Some.cell) c.in_ok-note.note) c.loop.invariant.same c.in_ok-note.ensures.note in
    let added = c.in_ok-note.ensures.kept ∙ ap (λ (s : StateValue). c.loop.kept.items ++ g.K.Keep.kept ((blocks_of c.args.many (cells_in s)).block c.in-Some.cell)) c.loop.invariant.same in
    let next = c.in_ok-note.note.next in
    let left = left_of blocks entry c.loop.counter c.loop.next in
    let rest = left_of blocks entry (c.loop.counter + 1) next in
    let e = walk-on blocks entry.stamp (c.args.many - c.loop.counter) (c.args.many - (c.loop.counter + 1)) block (linked blocks c.loop.next) (linked blocks next) (omega arith) (ap (linked blocks) c.in-Some.is) (follows blocks entry.stamp block next note.next) in
    let count = ap length e in
    let items = ap (total (λ (b : Block). size b.body)) e in
    let its = note.items in
    let few = note.few in
    record {
      same = c.see.ensures.same ∙ c.loop.invariant.same;
      blocks = omega (arith, c.loop.invariant.blocks);
      items = omega (arith, c.loop.invariant.items);
      kept = added-on g.K.Keep.kept c.loop.kept.items c.see.new.kept.items (flat_map g.K.Keep.kept (group blocks entry)) block left rest e added c.loop.invariant.kept;
      few = omega (arith, c.loop.invariant.few);
      few_items = omega (arith, c.loop.invariant.few_items);
    }
