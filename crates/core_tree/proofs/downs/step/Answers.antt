use Rattle.std.proofs.Common.{◌≡◌, ◌+◌, ◌<◌, ◌^◌, ◌++◌, ◌∙◌, false, List, All, Some, option_map, refl, sym, ap, subst, arith}
use Rattle.dc_node.specs.{Block.{is_full, entries_in, IsBodyOf}, Summary.row_count, declared.block.Block.Block, declared.entry.Entry.Entry}
use Rattle.volap_cell.specs.link_descent.specs.{Divide.together, Pass.passed}
use Rattle.volap_cell.specs.{Cells.cell_of, NewBlocks.WentDown}
use Rattle.core_tree.specs.Descent.{block_if, blocks_if}
use Rattle.core_tree.proofs.Calls.GoesDown.{if-at}
use Rattle.core_tree.proofs.downs.step.Goals as goal

pub returns-then-not-is_full : goal.returns-then-not-is_full
returns-then-not-is_full c =
    let pass = c.pass_down.ensures in
    let (entry, entry_at, child) = c.child_at-at.ensures in
    let same : entry ≡ pass.entry = (let both : Some entry ≡ Some pass.entry = sym entry_at ∙ pass.entry_at in cc) in
    let room : is_full c.args.child.now.body ≡ false = sym c.is_full.ensures ∙ c.if-not-is_full.true in
    record {
      entered = passed pass.entry.child;
      step = pass.step (blocks_if (option_map cell_of c.args.first.now) (option_map cell_of c.args.second.now)) c.args.child.now c.args.purse.now room;
      filled = refl;
      boxes_left = omega arith;
      at_is = child ∙ ap (λ (e : Entry). e.child) same;
    }

pub step_down-requires-clause-fits : goal.step_down-requires-clause-fits
step_down-requires-clause-fits c =
    let k = c.requires.can in
    let first = option_map cell_of c.args.first.now in
    let second = option_map cell_of c.args.second.now in
    let tail : c.add_behind-2.new.tail ≡ blocks_if first second = c.add_behind-2.ensures ∙ ap (λ (bs : List Block). bs ++ block_if second) (c.add_behind.ensures ∙ ap (λ (bs : List Block). bs ++ block_if first) c.none-tail.ensures) in
    record {
      room = k.room;
      parent_valid = k.parent_valid;
      child_valid = k.child_valid;
      row_valid = k.row_valid;
      picked = c.requires.picked;
      some = k.some;
      few = if-at (λ (e : Entry). e.agg.count + 1 < 2 ^ 63) (entries_in c.args.parent.now.body) c.args.place k.few;
      tail_valid = subst (λ (bs : List Block). All (λ (b : Block). IsBodyOf c.args.h.now b.body) bs) (sym tail) k.tail_valid;
      few_beneath = subst (λ (bs : List Block). row_count (together c.args.child.now.body bs) + 1 < 2 ^ 63) (sym tail) k.few_beneath;
    }

pub returns : goal.returns
returns c =
    let first = option_map cell_of c.args.first.now in
    let second = option_map cell_of c.args.second.now in
    let tail : c.add_behind-2.new.tail ≡ blocks_if first second = c.add_behind-2.ensures ∙ ap (λ (bs : List Block). bs ++ block_if second) (c.add_behind.ensures ∙ ap (λ (bs : List Block). bs ++ block_if first) c.none-tail.ensures) in
    subst (λ (bs : List Block). WentDown c.args.h.now c.args.row.now c.args.place bs c.args.parent.now c.step_down.new.parent c.args.child.now c.step_down.new.child c.args.purse.now c.step_down.new.purse (option_map cell_of c.args.fresh.now) (option_map cell_of c.step_down.new.fresh) c.args.boxes.now c.step_down.new.self c.step_down.result) tail c.step_down.ensures
