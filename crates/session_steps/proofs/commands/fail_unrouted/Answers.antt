use Rattle.std.proofs.Common.{refl, arith}
use Rattle.session_steps.proofs.{DuesOpen.unrouted-due, Servers.books-still, Since.open-since}
use Rattle.part_steps.specs.seat_steps.proofs.{Since.{unchanged, unchanged-on}, WithLedger.up-one}
use Rattle.session_steps.proofs.commands.fail_unrouted.Goals as goal

pub end_by-requires-clause-opened : goal.end_by-requires-clause-opened
end_by-requires-clause-opened g c = open-since (unchanged c.take_image_alone.ensures.took.same).actor c.requires.opened

pub end_by-requires-clause-held : goal.end_by-requires-clause-held
end_by-requires-clause-held g c = up-one c.take_image_alone.new.player c.args.image 5 (omega arith) c.take_image_alone.ensures.ranks

pub end_by-requires-clause-due : goal.end_by-requires-clause-due
end_by-requires-clause-due g c =
    let now = c.take_image_alone.new.player in
    let same = (unchanged c.take_image_alone.ensures.took.same).actor in
    let laws = c.works_can_be_made.ensures in
    unrouted-due c.args.floor.now now c.args.desk c.args.image (books-still c.args.player.now now same c.requires.books) (open-since same c.requires.opened) laws.asked laws.prepared
    (c.requires.unlaid c.requires.opened.of c.requires.opened.work c.requires.opened.command)

pub end_by-requires-clause-ends : goal.end_by-requires-clause-ends
end_by-requires-clause-ends g c = refl

pub returns : goal.returns
returns g c = record { comes = λ p same. c.end_by.ensures.comes p (unchanged-on same (unchanged c.take_image_alone.ensures.took.same)) }
