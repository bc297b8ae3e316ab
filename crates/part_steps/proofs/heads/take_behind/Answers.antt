use Rattle.std.proofs.Common.{arith}
use Rattle.part_steps.proofs.{BlocksTaken.{one-more, taken-there, up-still}, FullHeads.{before-can, first-can, last-can, left-behind, second-can, spares-left, taken-is, took-all}}
use Rattle.part_steps.proofs.heads.take_behind.Goals as goal

pub take_next-first-requires-clause-can : goal.take_next-first-requires-clause-can
take_next-first-requires-clause-can g c = first-can c.args.floor.now c.args.group c.args.last c.args.before c.args.player.now c.requires.can

pub take_next-second-requires-clause-can : goal.take_next-second-requires-clause-can
take_next-second-requires-clause-can g c =
    let f = c.args.floor.now in
    let first = c.take_next-first in
    second-can f c.args.group c.args.last c.args.before first.new.player first.result (left-behind f c.args.group c.args.last c.args.before c.args.player.now first.new.player c.requires.seated first.result first.ensures.took first.ensures.next c.requires.can)

pub take_next-second-requires-clause-held : goal.take_next-second-requires-clause-held
take_next-second-requires-clause-held g c = taken-there c.take_next-first.ensures.took

pub take_next-second-requires-clause-ranks : goal.take_next-second-requires-clause-ranks
take_next-second-requires-clause-ranks g c = up-still c.take_next-first.ensures.took c.requires.ranks

pub take_next-second-requires-clause-room : goal.take_next-second-requires-clause-room
take_next-second-requires-clause-room g c = omega (arith, one-more c.take_next-first.result c.args.player.now c.take_next-first.new.player c.take_next-first.ensures.took, c.requires.room)

pub take_if-requires-clause-can : goal.take_if-requires-clause-can
take_if-requires-clause-can g c =
    let f = c.args.floor.now in
    let group = c.args.group in
    let first = c.take_next-first in
    let second = c.take_next-second in
    last-can f group c.args.last c.args.before second.new.player
    (spares-left f group c.args.last c.args.before first.new.player second.new.player first.ensures.seated first.result second.result second.ensures.seated second.ensures.took second.ensures.next
    (left-behind f group c.args.last c.args.before c.args.player.now first.new.player c.requires.seated first.result first.ensures.took first.ensures.next c.requires.can))

pub take_if-requires-clause-ranks : goal.take_if-requires-clause-ranks
take_if-requires-clause-ranks g c = up-still c.take_next-second.ensures.took (up-still c.take_next-first.ensures.took c.requires.ranks)

pub take_if-requires-clause-room : goal.take_if-requires-clause-room
take_if-requires-clause-room g c =
    let first = c.take_next-first in
    let second = c.take_next-second in
    omega (arith, one-more first.result c.args.player.now first.new.player first.ensures.took, one-more second.result first.new.player second.new.player second.ensures.took, c.requires.room)

pub take_if-requires-2-clause-can : goal.take_if-requires-2-clause-can
take_if-requires-2-clause-can g c =
    let f = c.args.floor.now in
    let group = c.args.group in
    let first = c.take_next-first in
    let second = c.take_next-second in
    before-can f group c.args.last c.args.before second.new.player c.take_if.new.player c.take_if.ensures.took
    (spares-left f group c.args.last c.args.before first.new.player second.new.player first.ensures.seated first.result second.result second.ensures.seated second.ensures.took second.ensures.next
    (left-behind f group c.args.last c.args.before c.args.player.now first.new.player c.requires.seated first.result first.ensures.took first.ensures.next c.requires.can))

pub take_if-requires-2-clause-ranks : goal.take_if-requires-2-clause-ranks
take_if-requires-2-clause-ranks g c = up-still c.take_if.ensures.took (up-still c.take_next-second.ensures.took (up-still c.take_next-first.ensures.took c.requires.ranks))

pub take_if-requires-2-clause-room : goal.take_if-requires-2-clause-room
take_if-requires-2-clause-room g c =
    let first = c.take_next-first in
    let second = c.take_next-second in
    let last = c.take_if in
    omega (arith, one-more first.result c.args.player.now first.new.player first.ensures.took, one-more second.result first.new.player second.new.player second.ensures.took, one-more c.args.last second.new.player last.new.player last.ensures.took, c.requires.room)

pub returns-clause-head : goal.returns-clause-head
returns-clause-head g c =
    let first = c.take_next-first in
    let second = c.take_next-second in
    taken-is c.args.floor.now c.args.group c.args.last c.args.before c.args.player.now first.new.player second.new.player c.take_if.new.player c.take_if-2.new.player first.result second.result
    first.ensures.took second.ensures.took c.take_if.ensures.took c.take_if-2.ensures.took c.requires.seated first.ensures.seated second.ensures.seated c.take_if.ensures.seated first.ensures.next second.ensures.next

pub returns-clause-took : goal.returns-clause-took
returns-clause-took g c =
    let first = c.take_next-first in
    let second = c.take_next-second in
    took-all c.args.floor.now c.args.group c.args.last c.args.before c.args.player.now first.new.player second.new.player c.take_if.new.player c.take_if-2.new.player first.result second.result
    first.ensures.took second.ensures.took c.take_if.ensures.took c.take_if-2.ensures.took
