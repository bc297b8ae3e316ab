use Rattle.hall_admin.proofs.Keeping.{caller-free, caller-stands, stays-noted}
use Rattle.hall_admin.proofs.calls.refuse.Goals as goal

pub note_refused-requires : goal.note_refused-requires
note_refused-requires g c = (let it = c.requires.caller in record {
  stands = caller-stands c.args.floor.now it.0 c.args.player.now it.1;
  free = caller-free c.args.floor.now it.0 c.args.player.now it.1;
  noted = it.1.pass.noted;
})

pub returns : goal.returns
returns g c = record {
  refused = λ role caller. stays-noted c.args.floor.now role c.args.player.now caller c.note_refused.new.player c.note_refused.result c.note_refused.ensures.noted c.note_refused.ensures.same;
}
