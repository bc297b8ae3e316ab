use Rattle.std.proofs.Common.{sym, ap, subst, ◌∙◌, List, [], arith}
use Rattle.dc_node.specs.{Summary.row_count, declared.block.Block.Block}
use Rattle.link_descent.specs.{Divide.together, Room.AreTwoGroups}
use Rattle.link_descent.proofs.{Parts.IsHalved-parts, Rooms.{divided-in-two, divided-by-head, groups-new, room-in-two, room-by-head}}
use Rattle.link_descent.proofs.descend.make_room.Goals as goal

pub returns-in-Halved-clause-head : goal.returns-in-Halved-clause-head
returns-in-Halved-clause-head c =
    let parts = IsHalved-parts c.args.h.now c.args.head.now c.next-spare.result.cell c.next-spare.result.stamp c.divide.new.head c.in-Halved.block (sym c.is_full.ensures ∙ c.if-not-is_full.false) c.requires.body c.in-Halved.ensures.divided.1 in
    record { valid = parts.head_is.valid; room = parts.head_is.room }

pub returns-in-Halved-clause-new : goal.returns-in-Halved-clause-new
returns-in-Halved-clause-new c =
    let parts = IsHalved-parts c.args.h.now c.args.head.now c.next-spare.result.cell c.next-spare.result.stamp c.divide.new.head c.in-Halved.block (sym c.is_full.ensures ∙ c.if-not-is_full.false) c.requires.body c.in-Halved.ensures.divided.1 in
    record { valid = parts.new_is.valid; room = parts.new_is.room }

-- cut in two

pub two_groups-requires-clause-head : goal.two_groups-requires-clause-head
two_groups-requires-clause-head c =
    let d = divided-in-two c.args.h.now c.args.head.now c.args.tail.now c.next-spare.result.cell c.next-spare.result.stamp c.divide.new.head c.in-Cut.block (sym c.is_full.ensures ∙ c.if-not-is_full.false) c.requires.body c.in-Cut.ensures.divided.1 in
    d.parts.left_is.valid

pub two_groups-requires-clause-new : goal.two_groups-requires-clause-new
two_groups-requires-clause-new c =
    let d = divided-in-two c.args.h.now c.args.head.now c.args.tail.now c.next-spare.result.cell c.next-spare.result.stamp c.divide.new.head c.in-Cut.block (sym c.is_full.ensures ∙ c.if-not-is_full.false) c.requires.body c.in-Cut.ensures.divided.1 in
    d.parts.right_is.valid

pub two_groups-requires-clause-few : goal.two_groups-requires-clause-few
two_groups-requires-clause-few c =
    let d = divided-in-two c.args.h.now c.args.head.now c.args.tail.now c.next-spare.result.cell c.next-spare.result.stamp c.divide.new.head c.in-Cut.block (sym c.is_full.ensures ∙ c.if-not-is_full.false) c.requires.body c.in-Cut.ensures.divided.1 in
    let e = ap (λ (l : List Block). row_count (together c.in-Cut.block.body l)) c.none.ensures in
    omega (arith, d.count, e, c.requires.few)

pub returns-in-Cut-clause-step : goal.returns-in-Cut-clause-step
returns-in-Cut-clause-step c =
    let g = subst (λ l. AreTwoGroups c.args.h.now l c.args.entry.now c.divide.new.head c.in-Cut.block c.next-spare.result.cell c.two_groups.result) c.none.ensures c.two_groups.ensures in
    room-in-two c.args.h.now c.args.tail.now c.args.entry.now c.args.head.now c.divide.new.head c.in-Cut.block c.args.purse.now c.next-spare.new.self c.next-spare.result c.two_groups.result
    (sym c.is_full.ensures ∙ c.if-not-is_full.false) c.next-spare.ensures.taken c.in-Cut.ensures.divided.0 c.in-Cut.ensures.divided.1 g

pub returns-in-Cut-clause-head : goal.returns-in-Cut-clause-head
returns-in-Cut-clause-head c =
    let d = divided-in-two c.args.h.now c.args.head.now c.args.tail.now c.next-spare.result.cell c.next-spare.result.stamp c.divide.new.head c.in-Cut.block (sym c.is_full.ensures ∙ c.if-not-is_full.false) c.requires.body c.in-Cut.ensures.divided.1 in
    record { valid = d.parts.left_is.valid; room = d.parts.left_is.room }

pub returns-in-Cut-clause-new : goal.returns-in-Cut-clause-new
returns-in-Cut-clause-new c =
    let d = divided-in-two c.args.h.now c.args.head.now c.args.tail.now c.next-spare.result.cell c.next-spare.result.stamp c.divide.new.head c.in-Cut.block (sym c.is_full.ensures ∙ c.if-not-is_full.false) c.requires.body c.in-Cut.ensures.divided.1 in
    let g = subst (λ l. AreTwoGroups c.args.h.now l c.args.entry.now c.divide.new.head c.in-Cut.block c.next-spare.result.cell c.two_groups.result) c.none.ensures c.two_groups.ensures in
    groups-new c.args.h.now [] c.args.entry.now c.args.head.now.body c.divide.new.head c.in-Cut.block c.next-spare.result.cell (row_count (together c.args.head.now.body c.args.tail.now)) c.two_groups.result d g

-- cut off its group

pub two_groups-requires-in-HeadCut-clause-head : goal.two_groups-requires-in-HeadCut-clause-head
two_groups-requires-in-HeadCut-clause-head c =
    let d = divided-by-head c.args.h.now c.args.head.now c.args.tail.now c.next-spare.result.cell c.next-spare.result.stamp c.divide.new.head c.in-HeadCut.block (sym c.is_full.ensures ∙ c.if-not-is_full.false) c.requires.body c.in-HeadCut.ensures.divided.2 in
    d.parts.left_is.valid

pub two_groups-requires-in-HeadCut-clause-new : goal.two_groups-requires-in-HeadCut-clause-new
two_groups-requires-in-HeadCut-clause-new c =
    let d = divided-by-head c.args.h.now c.args.head.now c.args.tail.now c.next-spare.result.cell c.next-spare.result.stamp c.divide.new.head c.in-HeadCut.block (sym c.is_full.ensures ∙ c.if-not-is_full.false) c.requires.body c.in-HeadCut.ensures.divided.2 in
    d.parts.right_is.valid

pub two_groups-requires-in-HeadCut-clause-few : goal.two_groups-requires-in-HeadCut-clause-few
two_groups-requires-in-HeadCut-clause-few c =
    let d = divided-by-head c.args.h.now c.args.head.now c.args.tail.now c.next-spare.result.cell c.next-spare.result.stamp c.divide.new.head c.in-HeadCut.block (sym c.is_full.ensures ∙ c.if-not-is_full.false) c.requires.body c.in-HeadCut.ensures.divided.2 in
    omega (arith, d.count, c.requires.few)

pub returns-in-HeadCut-clause-step : goal.returns-in-HeadCut-clause-step
returns-in-HeadCut-clause-step c =
    room-by-head c.args.h.now c.args.tail.now c.args.entry.now c.args.head.now c.divide.new.head c.in-HeadCut.block c.args.purse.now c.next-spare.new.self c.next-spare.result c.two_groups-in-HeadCut.result
    (sym c.is_full.ensures ∙ c.if-not-is_full.false) c.next-spare.ensures.taken c.in-HeadCut.ensures.divided.0 c.in-HeadCut.ensures.divided.1 c.in-HeadCut.ensures.divided.2 c.two_groups-in-HeadCut.ensures

pub returns-in-HeadCut-clause-head : goal.returns-in-HeadCut-clause-head
returns-in-HeadCut-clause-head c =
    let d = divided-by-head c.args.h.now c.args.head.now c.args.tail.now c.next-spare.result.cell c.next-spare.result.stamp c.divide.new.head c.in-HeadCut.block (sym c.is_full.ensures ∙ c.if-not-is_full.false) c.requires.body c.in-HeadCut.ensures.divided.2 in
    record { valid = d.parts.left_is.valid; room = d.parts.left_is.room }

pub returns-in-HeadCut-clause-new : goal.returns-in-HeadCut-clause-new
returns-in-HeadCut-clause-new c =
    let d = divided-by-head c.args.h.now c.args.head.now c.args.tail.now c.next-spare.result.cell c.next-spare.result.stamp c.divide.new.head c.in-HeadCut.block (sym c.is_full.ensures ∙ c.if-not-is_full.false) c.requires.body c.in-HeadCut.ensures.divided.2 in
    groups-new c.args.h.now c.args.tail.now c.args.entry.now c.args.head.now.body c.divide.new.head c.in-HeadCut.block c.next-spare.result.cell (row_count (together c.args.head.now.body c.args.tail.now)) c.two_groups-in-HeadCut.result d c.two_groups-in-HeadCut.ensures
