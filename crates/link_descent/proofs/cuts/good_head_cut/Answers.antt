use Rattle.std.proofs.{Common.{subst, sym, ap, length, ◌∙◌}, lemmas.List.Elements.All-same}
use Rattle.std.specs.Option.{option_copied, option_to_list}
use Rattle.describing_set.specs.Sets.{IsDescSetOf}
use Rattle.link_descent.specs.Divide.{AreItemSets}
use Rattle.link_descent.proofs.Divisions.{group_cuts, the_parts, no_head_cut}
use Rattle.link_descent.proofs.cuts.good_head_cut.Goals as goal

pub returns-in_err-cut-clause-none : goal.returns-in_err-cut-clause-none
returns-in_err-cut-clause-none c =
    let h = c.args.h.now in
    let body = c.args.body.now in
    let sets = c.as_slice-sets.result.now in
    let are = subst (AreItemSets h body) (sym c.as_slice-sets.ensures.value) c.item_sets.ensures.sets in
    let g = group_cuts h body (option_to_list (option_copied c.blocks-2.result.0)) (option_to_list (option_copied c.blocks-2.result.1)) c.args.tail.now sets
    c.of-cuts.result c.strike_block.new.cuts c.strike_block-2.new.cuts are c.of-cuts.ensures.cuts_of c.strike_block.ensures.struck c.strike_block-2.ensures.struck c.blocks-2.ensures in
    no_head_cut h body c.args.tail.now sets c.strike_block-2.new.cuts c.from_residual.result g c.in_err-cut.ensures.none

pub parts-requires-clause-head : goal.parts-requires-clause-head
parts-requires-clause-head c = All-same (IsDescSetOf c.args.h.now) c.as_slice-sets.result.now c.item_sets.new.sets.items c.as_slice-sets.ensures.value c.item_sets.ensures.valid

pub returns-clause-parts : goal.returns-clause-parts
returns-clause-parts c =
    let h = c.args.h.now in
    let body = c.args.body.now in
    let sets = c.as_slice-sets.result.now in
    let are = subst (AreItemSets h body) (sym c.as_slice-sets.ensures.value) c.item_sets.ensures.sets in
    let g = group_cuts h body (option_to_list (option_copied c.blocks-2.result.0)) (option_to_list (option_copied c.blocks-2.result.1)) c.args.tail.now sets
    c.of-cuts.result c.strike_block.new.cuts c.strike_block-2.new.cuts are c.of-cuts.ensures.cuts_of c.strike_block.ensures.struck c.strike_block-2.ensures.struck c.blocks-2.ensures in
    the_parts h body c.args.tail.now sets c.strike_block-2.new.cuts c.in_ok-cut.cut c.parts.result.0.items c.parts.result.1.items g (ap length c.as_slice-sets.ensures.value ∙ c.item_sets.ensures.count)
    c.in_ok-cut.ensures.cut c.parts.ensures.kept c.parts.ensures.parted c.parts.ensures.order
