use Rattle.std.proofs.Common.{◌∙◌, Some, subst, ap}
use Rattle.session_steps.proofs.{Servers.books-still, Since.open-since}
use Rattle.session_steps.specs.Books.{IsDueBy}
use Rattle.session_steps.proofs.commands.go_on_at_desk.Goals as goal

pub take_part-requires-clause-opened : goal.take_part-requires-clause-opened
take_part-requires-clause-opened g c = open-since c.see_desk.ensures.same.actor c.requires.opened

pub take_part-requires-clause-books : goal.take_part-requires-clause-books
take_part-requires-clause-books g c = (c.args.image, books-still c.args.player.now c.see_desk.new.player c.see_desk.ensures.same.actor c.requires.books)

pub take_part-requires-clause-due : goal.take_part-requires-clause-due
take_part-requires-clause-due g c = subst (IsDueBy c.args.floor.now c.see_desk.new.player c.args.desk c.args.image) (c.in-Some-Takes.is ∙ ap Some c.in-Some-Takes.field-0-is) c.see_desk.ensures.due

pub end_at_desk-requires-clause-opened : goal.end_at_desk-requires-clause-opened
end_at_desk-requires-clause-opened g c = open-since c.see_desk.ensures.same.actor c.requires.opened

pub end_at_desk-requires-clause-books : goal.end_at_desk-requires-clause-books
end_at_desk-requires-clause-books g c = books-still c.args.player.now c.see_desk.new.player c.see_desk.ensures.same.actor c.requires.books

pub end_at_desk-requires-clause-due : goal.end_at_desk-requires-clause-due
end_at_desk-requires-clause-due g c = (subst (IsDueBy c.args.floor.now c.see_desk.new.player c.args.desk c.args.image) (c.in-Some-Books.is ∙ ap Some c.in-Some-Books.field-0-is) c.see_desk.ensures.due).1

pub end_at_desk-requires-clause-ends : goal.end_at_desk-requires-clause-ends
end_at_desk-requires-clause-ends g c = (subst (IsDueBy c.args.floor.now c.see_desk.new.player c.args.desk c.args.image) (c.in-Some-Books.is ∙ ap Some c.in-Some-Books.field-0-is) c.see_desk.ensures.due).0

pub returns-in-Some-Takes : goal.returns-in-Some-Takes
returns-in-Some-Takes g c = record { comes = c.take_part.ensures.still c.args.player.now c.see_desk.ensures.same }
