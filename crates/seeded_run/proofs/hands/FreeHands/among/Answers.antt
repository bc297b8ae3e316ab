use Rattle.std.proofs.{Common.None, lemmas.List.get_or_read}
use Rattle.seeded_run.proofs.IdleHands.{none-told, one-noted}
use Rattle.seeded_run.proofs.hands.FreeHands.among.Goals as goal

pub loop-number-init : goal.loop-number-init
loop-number-init c = none-told c.args.actors.now c.none-hands.result c.none-hands.ensures

pub loop-number-preserved : goal.loop-number-preserved
loop-number-preserved c =
    one-noted c.args.actors.now c.loop-number.hands c.note.new.self c.loop-number.number _ (get_or_read c.args.actors.now c.loop-number.number _ c.loop-number-test.true c.index-actors-number.is None)
    c.loop-number.invariant c.note.ensures.own c.note.ensures.others

pub returns : goal.returns
returns c = c.loop-number.invariant
