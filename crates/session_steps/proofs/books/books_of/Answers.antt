use Rattle.std.proofs.Common.{[], refl}
use Rattle.part_steps.specs.core_due.specs.Look.{setting_by}
use Rattle.session_steps.proofs.Servers.{books-are}
use Rattle.session_steps.proofs.books.books_of.Goals as goal

pub returns : goal.returns
returns c =
    let f = c.args.floor.now in
    books-are f c.args.player.now c.requires.seated c.in-Session.server c.in-Session.is c.tell_servers.ensures _ _ (c.desk_place.ensures (setting_by [] f.with) refl) c.image_place.ensures
