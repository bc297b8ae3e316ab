use Rattle.std.proofs.Common.{◌≡◌, ◌∙◌, Some, refl, subst, ap}
use Rattle.part_steps.specs.core_steps.specs.declared.books.BookStep.TheVariants.{FailQuery}
use Rattle.session_steps.proofs.{CommandsMade.one-command, Servers.books-still, Since.open-since}
use Rattle.session_steps.specs.Books.{IsDueBy, fails_by}
use Rattle.part_steps.specs.volap_cell.specs.{Values.{ActorValue, actor_of}, declared.command.Command.Command}
use Rattle.part_steps.specs.volap_cell.specs.declared.command.Work.TheVariants.{Query}
use Rattle.session_steps.proofs.visits.take_waiting.Goals as goal

pub see_desk-requires-clause-laid : goal.see_desk-requires-clause-laid
see_desk-requires-clause-laid g c of work command =
    let (desk, image) = c.books_of-desk.result in
    subst (λ (k : Command). fails_by desk image k.work ≡ Some (FailQuery desk)) (one-command (actor_of c.args.player.now.actor) c.requires.query.0 of Query work c.requires.query.1 command) refl

pub take_part-requires-clause-opened : goal.take_part-requires-clause-opened
take_part-requires-clause-opened g c = open-since c.see_desk.ensures.same.actor c.requires.«open»

pub take_part-requires-clause-books : goal.take_part-requires-clause-books
take_part-requires-clause-books g c = (c.books_of-desk.result.1, books-still c.args.player.now c.see_desk.new.player c.see_desk.ensures.same.actor c.books_of-desk.ensures)

pub take_part-requires-clause-due : goal.take_part-requires-clause-due
take_part-requires-clause-due g c =
    subst (IsDueBy c.args.floor.now c.see_desk.new.player c.books_of-desk.result.0 c.books_of-desk.result.1) (c.in-Some-Takes.is ∙ ap Some c.in-Some-Takes.field-0-is) c.see_desk.ensures.due

pub returns-in-Some-Takes : goal.returns-in-Some-Takes
returns-in-Some-Takes g c =
    let same = c.see_desk.ensures.same in
    record {
      «open» = c.take_part.ensures.still c.args.player.now same;
      taken = c.take_part.ensures.unread c.requires.query.0 (ap (λ (a : ActorValue). a.command) same.actor ∙ c.requires.query.1);
      none = tt;
    }
