use Rattle.std.proofs.Common.{◌≡◌, ◌∙◌, false, ap, refl}
use Rattle.part_steps.specs.core_steps.specs.{Books.book_may_fail, declared.books.BookStep.BookStep}
use Rattle.part_steps.specs.core_steps.specs.declared.books.BookStep.TheVariants as book
use Rattle.part_steps.proofs.Keeping.{book-kept}
use Rattle.session_steps.proofs.{Ending.ends-by, Since.ended-since}
use Rattle.part_steps.specs.seat_steps.specs.declared.floor.Player.{Player}
use Rattle.session_steps.specs.{Books.IsEndBy, declared.commands.End.End}
use Rattle.part_steps.specs.volap_cell.specs.Values.{ActorValue}
use Rattle.part_steps.specs.volap_turns.proofs.Turned.{when-ok}
use Rattle.session_steps.proofs.commands.end_by.Goals as goal

-- no end takes memory
sure : (p : Player) (step : BookStep) (e : End) → IsEndBy p step e → book_may_fail step ≡ false
sure p (book.Ack desk image) e is = refl
sure p (book.Answer desk) e is = refl
sure p (book.FailUnrouted image) e is = refl
sure p (book.FailRouted desk image) e is = refl
sure p (book.FailQuery desk) e is = refl
sure p (book.Route desk image) e is = absurd is
sure p (book.Sync image) e is = absurd is

pub make_booked-requires-clause-kept : goal.make_booked-requires-clause-kept
make_booked-requires-clause-kept g c q e = book-kept c.args.floor.now.hierarchy q c.args.step (ap (λ (a : ActorValue). a.errand) e ∙ c.requires.opened.no_part)

pub returns : goal.returns
returns g c =
    let step = c.args.step in
    let booked = when-ok c.make_booked.result c.make_booked.ensures.booked (c.make_booked.ensures.sure (sure c.args.player.now step c.args.end c.requires.ends)) in
    record { comes = λ p same. ended-since p same booked c.args.end c.requires.opened (ends-by c.requires.seated step c.args.end c.requires.ends c.requires.due booked) }
