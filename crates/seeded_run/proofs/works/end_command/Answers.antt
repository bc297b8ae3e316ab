use Rattle.std.proofs.Common.{refl}
use Rattle.core_pages.specs.core_image.specs.Told.{open_of}
use Rattle.row_ledger.specs.declared.event.Event.TheVariants.{Ended}
use Rattle.seeded_run.proofs.{GivesWay.note-made, States.made-so}
use Rattle.seeded_run.proofs.works.end_command.Goals as goal

pub returns : goal.returns
returns c =
    let ok = c.make.ensures.sure refl in
    let told = made-so c.make.result _ ok c.make.ensures.told in
    record { made = note-made c.args.h.now c.args.number c.args.state.now c.make.new.state (made-so c.make.result _ ok c.make.ensures.further) (λ w v i j. (Ended (open_of (w.actors c.args.number)) c.args.how, refl, told w v i j)) }
