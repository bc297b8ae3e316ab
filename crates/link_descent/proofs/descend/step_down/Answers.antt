use Rattle.std.proofs.{Common.{length, ap, ◌∙◌, arith}, lemmas.List.length-map}
use Rattle.dc_node.specs.Block.{entries_in}
use Rattle.link_descent.proofs.Steps.{valid_with_one, valid_with_two, few_with_two, entry_here, StepsDown-halves, StepsDown-cuts}
use Rattle.link_descent.proofs.descend.step_down.Goals as goal

pub returns-in-Had-clause-parent : goal.returns-in-Had-clause-parent
returns-in-Had-clause-parent c =
    valid_with_one c.args.h.now c.args.parent.now c.set_entry.new.self c.from-place.result c.add_row.new.self c.set_entry.ensures c.requires.parent c.add_row.ensures.valid

pub returns-in-Half-clause-parent : goal.returns-in-Half-clause-parent
returns-in-Half-clause-parent c =
    valid_with_one c.args.h.now c.args.parent.now c.set_entry-in-Half.new.self c.from-place.result c.add_row-in-Half.new.self c.set_entry-in-Half.ensures c.requires.parent c.add_row-in-Half.ensures.valid

pub returns-in-Two-clause-parent : goal.returns-in-Two-clause-parent
returns-in-Two-clause-parent c =
    valid_with_two c.args.h.now c.args.parent.now c.split_entry.new.self c.from-place.result c.share-at.new.left c.share-at.new.right c.split_entry.ensures c.requires.parent c.share-at.ensures.left c.share-at.ensures.right

pub returns-in-Two-clause-few : goal.returns-in-Two-clause-few
returns-in-Two-clause-few c =
    let entries = entries_in c.args.parent.now.body in
    let w = c.requires.place.within in
    let m = length-map entries (λ e. e.set) in
    let e = ap length c.entries.ensures.value in
    few_with_two c.args.parent.now c.split_entry.new.self c.from-place.result c.share-at.new.left c.share-at.new.right c.split_entry.ensures c.requires.room
    (omega (arith, e, c.entries.ensures.few)) (omega (arith, w, m, c.from-place.ensures))

pub returns-in-Half-clause-step : goal.returns-in-Half-clause-step
returns-in-Half-clause-step c =
    let entries = entries_in c.args.parent.now.body in
    let w = c.requires.place.within in
    let m = length-map entries (λ e. e.set) in
    let here = entry_here c.entries.result.now entries c.from-place.result c.args.place c.index-entries-place.result c.copy-entry.result c.entries.ensures.value c.from-place.ensures (omega (arith, w, m, c.from-place.ensures)) c.index-entries-place.is c.copy-entry.ensures in
    StepsDown-halves c.args.h.now c.args.row.now c.args.place c.args.tail.now c.args.parent.now c.set_entry-in-Half.new.self c.args.child.now c.make_room.new.head c.args.purse.now c.make_room.new.purse c.one.result
    c.copy-entry.result c.add_row-in-Half.new.self c.in-Half.fresh c.from-place.result c.from-place.ensures here c.set_entry-in-Half.ensures c.in-Half.ensures.step c.add_row-in-Half.ensures c.one.ensures.fresh c.one.ensures.at

pub returns-in-Two-clause-step : goal.returns-in-Two-clause-step
returns-in-Two-clause-step c =
    let entries = entries_in c.args.parent.now.body in
    let w = c.requires.place.within in
    let m = length-map entries (λ e. e.set) in
    let here = entry_here c.entries.result.now entries c.from-place.result c.args.place c.index-entries-place.result c.copy-entry.result c.entries.ensures.value c.from-place.ensures (omega (arith, w, m, c.from-place.ensures)) c.index-entries-place.is c.copy-entry.ensures in
    let shared = c.share-at.ensures.shared in
    StepsDown-cuts c.args.h.now c.args.row.now c.args.place c.args.tail.now c.args.parent.now c.split_entry.new.self c.args.child.now c.make_room.new.head c.args.purse.now c.make_room.new.purse c.one-in-Two.result
    c.copy-entry.result c.in-Two.left c.in-Two.right c.share-at.new.left c.share-at.new.right shared.0 c.in-Two.fresh c.from-place.result c.from-place.ensures here c.split_entry.ensures c.in-Two.ensures.step shared.1 c.one-in-Two.ensures.fresh (c.one-in-Two.ensures.at ∙ shared.2)
