use Rattle.std.proofs.Common.{refl}
use Rattle.core_steps.proofs.AtTimes.{down-here, down-went, enter-here, enter-went}
use Rattle.core_steps.proofs.rows.RowStepCellStep.run.Goals as goal

pub down-requires-clause-here : goal.down-requires-clause-here
down-requires-clause-here c =
    let d = c.in-Down in
    down-here c.args.h.now c.args.self d.parent d.place d.child d.next d.last d.fresh d.is c.args.first.now c.args.second.now c.lent.result.now c.lent-in-Down.result.now c.args.others.now
    c.lent.ensures.value c.lent-in-Down.ensures.value c.requires.fill _ _ _ _ c.number_of.ensures c.number_of-in-Down.ensures c.number_of-in-Down-2.ensures c.requires.here

pub enter_tree-requires-clause-here : goal.enter_tree-requires-clause-here
enter_tree-requires-clause-here c =
    let d = c.in-EnterTree in
    enter-here c.args.h.now c.args.self d.map d.gate d.root d.next d.last d.fresh d.top d.is c.args.first.now c.args.second.now c.lent-in-EnterTree.result.now c.lent-in-EnterTree-2.result.now c.lent-in-EnterTree-3.result.now c.args.others.now
    c.lent-in-EnterTree.ensures.value c.lent-in-EnterTree-2.ensures.value c.lent-in-EnterTree-3.ensures.value c.requires.fill _ _ _ _ _
    c.number_of-in-EnterTree.ensures c.number_of-in-EnterTree-2.ensures c.number_of-in-EnterTree-3.ensures c.number_of-in-EnterTree-4.ensures c.requires.here

pub returns-in-Down-clause-went : goal.returns-in-Down-clause-went
returns-in-Down-clause-went c =
    let d = c.in-Down in
    down-went c.args.h.now c.args.self d.parent d.place d.child d.next d.last d.fresh d.is c.args.first.now c.args.second.now c.lent.result.now c.lent-in-Down.result.now c.args.others.now
    c.lent.ensures.value c.lent-in-Down.ensures.value c.requires.fill _ _ _ _ _ c.number_of.ensures c.number_of-in-Down.ensures c.number_of-in-Down-2.ensures _ _ _ _ c.down.ensures.made

pub returns-in-EnterTree-clause-went : goal.returns-in-EnterTree-clause-went
returns-in-EnterTree-clause-went c =
    let d = c.in-EnterTree in
    enter-went c.args.h.now c.args.self d.map d.gate d.root d.next d.last d.fresh d.top d.is c.args.first.now c.args.second.now c.lent-in-EnterTree.result.now c.lent-in-EnterTree-2.result.now c.lent-in-EnterTree-3.result.now c.args.others.now
    c.lent-in-EnterTree.ensures.value c.lent-in-EnterTree-2.ensures.value c.lent-in-EnterTree-3.ensures.value c.requires.fill _ _ _ _ _ _
    c.number_of-in-EnterTree.ensures c.number_of-in-EnterTree-2.ensures c.number_of-in-EnterTree-3.ensures c.number_of-in-EnterTree-4.ensures _ _ c.enter_tree.new.root _ refl _ c.enter_tree.ensures.made
