use Rattle.std.proofs.Common.{arith}
use Rattle.part_steps.proofs.PartsMade.{kept-part, part-asked, part-few, went-part}
use Rattle.part_steps.proofs.parts.make_end.Goals as goal
use Rattle.seat_steps.specs.volap_turns.proofs.Turned.{when-ok}

pub make-requires-clause-some : goal.make-requires-clause-some
make-requires-clause-some c = omega (arith, c.requires.at.count, (part-few c.args.step).0)

pub make-requires-clause-few : goal.make-requires-clause-few
make-requires-clause-few c = omega (arith, c.requires.at.count, (part-few c.args.step).1)

pub make-requires-clause-asked : goal.make-requires-clause-asked
make-requires-clause-asked c = part-asked c.args.floor.now c.args.player.now c.requires.seated c.args.step c.requires.ready c.requires.at

pub make-requires-clause-kept : goal.make-requires-clause-kept
make-requires-clause-kept c = kept-part c.args.floor.now c.args.player.now c.requires.seated c.args.step c.requires.ends

pub returns : goal.returns
returns c =
    let made = when-ok c.make.result c.make.ensures.made (c.make.ensures.sure c.requires.sure) in
    record { went = went-part c.args.floor.now c.args.player.now c.requires.seated c.args.step c.make.new.player c.requires.ends c.make.ensures.stands c.make.ensures.lists made }
