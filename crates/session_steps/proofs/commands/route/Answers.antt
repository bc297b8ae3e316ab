use Rattle.std.proofs.Common.{◌∙◌, [], sym, subst, ap}
use Rattle.part_steps.specs.core_steps.specs.{Books.{book_asks, book_places}, declared.books.BookStep.TheVariants.Route}
use Rattle.session_steps.proofs.{DuesOpen.route-due, Servers.books-still, Since.{open-as, open-since, unchanged-back}}
use Rattle.part_steps.specs.seat_steps.proofs.{Since.{before-unchanged, looked, unchanged, unchanged-on}, WithLedger.first-there}
use Rattle.part_steps.specs.seat_steps.specs.{Booked.IsDue, Floors.IsSeated, declared.floor.Player.Player}
use Rattle.part_steps.specs.volap_cell.specs.Values.{ActorValue}
use Rattle.session_steps.proofs.commands.route.Goals as goal

pub is_empty_at-requires-clause-held : goal.is_empty_at-requires-clause-held
is_empty_at-requires-clause-held g c = first-there c.args.floor.now c.take_first.new.player c.take_first.ensures.seated c.args.desk 4 [] c.take_first.ensures.ranks

pub lay-requires-clause-seated : goal.lay-requires-clause-seated
lay-requires-clause-seated g c = subst (IsSeated c.args.floor.now) (sym c.is_empty_at.ensures.same) c.take_first.ensures.seated

pub lay-requires-clause-opened : goal.lay-requires-clause-opened
lay-requires-clause-opened g c = open-since (looked (unchanged c.take_first.ensures.took.same) c.is_empty_at.ensures.same).actor c.requires.opened

pub lay-requires-clause-books : goal.lay-requires-clause-books
lay-requires-clause-books g c = books-still c.args.player.now c.is_empty_at.new.player (looked (unchanged c.take_first.ensures.took.same) c.is_empty_at.ensures.same).actor c.requires.books

pub lay-requires-clause-ranks : goal.lay-requires-clause-ranks
lay-requires-clause-ranks g c = ap (λ (p : Player). p.seat.ranks) c.is_empty_at.ensures.same ∙ c.take_first.ensures.ranks

pub lay-requires-clause-due : goal.lay-requires-clause-due
lay-requires-clause-due g c =
    let f = c.args.floor.now in let m = c.take_first.new.player in let step = Route c.args.desk c.args.image in
    let same = (unchanged c.take_first.ensures.took.same).actor in let laws = c.works_can_be_made.ensures in let has = c.requires.opened in
    subst (λ (p : Player). IsDue f p (book_places step) (book_asks step)) (sym c.is_empty_at.ensures.same)
    (route-due f m c.args.desk c.args.image (books-still c.args.player.now m same c.requires.books) (open-since same has) laws.asked laws.prepared (c.requires.unlaid has.of has.work has.command)
    (first-there f m c.take_first.ensures.seated c.args.desk 4 [] c.take_first.ensures.ranks) (λ x e. sym (c.is_empty_at.ensures.seen x e) ∙ c.if-not-is_empty_at.false))

pub fail_unrouted-requires-clause-opened : goal.fail_unrouted-requires-clause-opened
fail_unrouted-requires-clause-opened g c = open-since (unchanged-on (looked (unchanged c.take_first.ensures.took.same) c.is_empty_at.ensures.same) (before-unchanged c.in-Err.ensures.same)).actor c.requires.opened

pub fail_unrouted-requires-clause-unlaid : goal.fail_unrouted-requires-clause-unlaid
fail_unrouted-requires-clause-unlaid g c of work e =
    let same = unchanged-on (looked (unchanged c.take_first.ensures.took.same) c.is_empty_at.ensures.same) (before-unchanged c.in-Err.ensures.same) in
    c.requires.unlaid of work (ap (λ (a : ActorValue). a.command) (sym same.actor) ∙ e)

pub returns-then-not-is_empty_at : goal.returns-then-not-is_empty_at
returns-then-not-is_empty_at g c = record { comes = open-as c.requires.opened c.give_all.ensures.stands (unchanged-back (looked (unchanged c.take_first.ensures.took.same) c.is_empty_at.ensures.same) c.give_all.ensures.gave) }

pub returns-in-Ok : goal.returns-in-Ok
returns-in-Ok g c = record { comes = c.in-Ok.ensures.laid c.args.player.now (looked (unchanged c.take_first.ensures.took.same) c.is_empty_at.ensures.same) }

pub returns-in-Err : goal.returns-in-Err
returns-in-Err g c =
    record { comes = c.fail_unrouted.ensures.comes c.args.player.now (unchanged-on (looked (unchanged c.take_first.ensures.took.same) c.is_empty_at.ensures.same) (before-unchanged c.in-Err.ensures.same)) }
