use Rattle.std.proofs.Common.{◌∙◌, [], ap, refl, sym, subst, arith}
use Rattle.part_steps.specs.core_steps.specs.{Books.{book_asks, book_places}, declared.books.BookStep.TheVariants.Answer}
use Rattle.part_steps.specs.seat_steps.proofs.WithLedger.{first-there, up-one}
use Rattle.session_steps.proofs.{Since.open-since, Sums.can-sum}
use Rattle.part_steps.specs.seat_steps.specs.{Booked.{IsDue, IsUnchanged}, Floors.IsSeated, declared.floor.Player.Player}
use Rattle.session_steps.specs.Books.{IsEndBy}
use Rattle.session_steps.specs.declared.commands.End.TheVariants as end
use Rattle.part_steps.specs.volap_cell.specs.Values.{actor_of}
use Rattle.session_steps.proofs.commands.answer.Goals as goal

pub sum_at-agg-requires-clause-held : goal.sum_at-agg-requires-clause-held
sum_at-agg-requires-clause-held g c = first-there c.args.floor.now c.args.player.now c.requires.seated c.args.desk 4 [] c.requires.ranks

pub sum_at-agg-requires-clause-sums : goal.sum_at-agg-requires-clause-sums
sum_at-agg-requires-clause-sums g c = can-sum c.args.floor.now c.args.player.now c.args.desk c.args.image c.requires.books c.requires.due c.requires.seated

pub end_by-requires-clause-seated : goal.end_by-requires-clause-seated
end_by-requires-clause-seated g c = subst (IsSeated c.args.floor.now) (sym c.sum_at-agg.ensures.same) c.requires.seated

pub end_by-requires-clause-opened : goal.end_by-requires-clause-opened
end_by-requires-clause-opened g c = open-since (ap (λ (p : Player). actor_of p.actor) c.sum_at-agg.ensures.same) c.requires.opened

pub end_by-requires-clause-held : goal.end_by-requires-clause-held
end_by-requires-clause-held g c = up-one c.sum_at-agg.new.player c.args.desk 4 (omega arith) (ap (λ (p : Player). p.seat.ranks) c.sum_at-agg.ensures.same ∙ c.requires.ranks)

pub end_by-requires-clause-due : goal.end_by-requires-clause-due
end_by-requires-clause-due g c = subst (λ (p : Player). IsDue c.args.floor.now p (book_places (Answer c.args.desk)) (book_asks (Answer c.args.desk))) (sym c.sum_at-agg.ensures.same) c.requires.due

pub end_by-requires-clause-ends : goal.end_by-requires-clause-ends
end_by-requires-clause-ends g c =
    let agg = c.sum_at-agg.result in
    subst (λ (p : Player). IsEndBy p (Answer c.args.desk) (end.Answered agg)) (sym c.sum_at-agg.ensures.same)
    (agg, refl, first-there c.args.floor.now c.args.player.now c.requires.seated c.args.desk 4 [] c.requires.ranks, c.sum_at-agg.ensures.sum)

pub returns : goal.returns
returns g c = record { comes = λ p same. c.end_by.ensures.comes p (subst (IsUnchanged p) (sym c.sum_at-agg.ensures.same) same) }
