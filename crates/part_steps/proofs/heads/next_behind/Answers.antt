use Rattle.std.proofs.Common.{◌∙◌, ℕ, Option, sym, ap, subst}
use Rattle.seat_steps.specs.core_due.specs.Rows.{next_behind, second_behind}
use Rattle.seat_steps.specs.core_steps.specs.Places.{number_at}
use Rattle.list_words.specs.Counts.{Each}
use Rattle.part_steps.proofs.heads.next_behind.Goals as goal
use Rattle.seat_steps.specs.volap_cell.specs.Cells.{CellValue, block_in}
use Rattle.seat_steps.specs.volap_turns.specs.Rows.{IsThere}

pub next_at-requires-clause-held : goal.next_at-requires-clause-held
next_at-requires-clause-held c = (subst (λ (o : Option ℕ). Each (IsThere c.args.player.now.seat.view.held) (number_at o)) c.in-Some.is c.requires.held).0

pub returns-in-Some-clause-next : goal.returns-in-Some-clause-next
returns-in-Some-clause-next c = λ s w a.
    let there = (subst (λ (o : Option ℕ). Each (IsThere c.args.player.now.seat.view.held) (number_at o)) c.in-Some.is c.requires.held).0 in
    c.next_at.ensures.seen there.0 there.1 ∙ ap (λ (x : CellValue). next_behind c.args.expected (block_in x)) (sym (a.held c.in-Some.block there.0 there.1)) ∙ ap (second_behind w c.args.expected) (sym c.in-Some.is)

pub returns-in-None-clause-next : goal.returns-in-None-clause-next
returns-in-None-clause-next c = λ s w a. sym (ap (second_behind w c.args.expected) c.in-None.is)
