use Rattle.std.proofs.Common.{refl}
use Rattle.seeded_run.proofs.{GivesWay.note-made, States.made-so}
use Rattle.seeded_run.proofs.works.make_instead.Goals as goal

pub returns-in-Fails : goal.returns-in-Fails
returns-in-Fails c =
    let ok = c.make.ensures.sure refl in
    record { made = note-made c.args.h.now c.args.number c.args.state.now c.make.new.state (made-so c.make.result _ ok c.make.ensures.further) (made-so c.make.result _ ok c.make.ensures.told) }
