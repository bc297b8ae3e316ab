use Rattle.std.proofs.Common.{◌∙◌, [], sym, subst, ap}
use Rattle.session_steps.proofs.{DuesOpen.by-parts, Servers.books-still, Since.open-since}
use Rattle.part_steps.specs.seat_steps.proofs.{Since.{looked, unchanged}, WithLedger.first-there}
use Rattle.part_steps.specs.seat_steps.specs.{Floors.IsSeated, declared.floor.Player.Player}
use Rattle.session_steps.specs.Books.{IsDueBy}
use Rattle.session_steps.proofs.commands.see_desk.Goals as goal

pub due_at-requires-clause-held : goal.due_at-requires-clause-held
due_at-requires-clause-held g c = first-there c.args.floor.now c.take_first.new.player c.take_first.ensures.seated c.args.desk 4 [] c.take_first.ensures.ranks

pub returns : goal.returns
returns g c =
    let f = c.args.floor.now in let m = c.take_first.new.player in
    let same = unchanged c.take_first.ensures.took.same in let laws = c.works_can_be_made.ensures in let has = c.requires.opened in
    let there = first-there f m c.take_first.ensures.seated c.args.desk 4 [] c.take_first.ensures.ranks in
    record {
      seated = subst (IsSeated f) (sym c.due_at.ensures.same) c.take_first.ensures.seated;
      same = looked same c.due_at.ensures.same;
      ranks = ap (λ (p : Player). p.seat.ranks) c.due_at.ensures.same ∙ c.take_first.ensures.ranks;
      due = subst (λ (p : Player). IsDueBy f p c.args.desk c.args.image c.due_at.result) (sym c.due_at.ensures.same)
          (by-parts f m c.args.desk c.args.image (books-still c.args.player.now m same.actor c.requires.books) (open-since same.actor has) laws.asked laws.prepared c.args.failed (c.requires.laid has.of has.work has.command) there
          c.due_at.result c.due_at.ensures.seen);
    }
