use Rattle.std.proofs.Common.{◌∙◌, ℕ, ◌<◌, List, length, ap, sym, subst, arith}
use mathlib.Core.Option.{some}
use Rattle.turn_table.specs.Numbered.{value_of}
use Rattle.core_pages.specs.volap_cell.specs.declared.cell.Cell.{Cell}
use Rattle.whole_steps.proofs.Turned.{held-alone, knows-on, none-held, turned-on, within-table}
use Rattle.whole_steps.proofs.looks.turn_to.Goals as goal

pub take_turn-requires-clause-cell : goal.take_turn-requires-clause-cell
take_turn-requires-clause-cell g c = within-table c.requires.everyone c.args.cell c.requires.knows

pub take_turn-requires-clause-other : goal.take_turn-requires-clause-other
take_turn-requires-clause-other g c = ap (λ (l : List (ℕ × Cell)). value_of l c.args.cell) (none-held c.give_turns.ensures.everyone c.give_turns.ensures.bare)

pub take_turn-requires-clause-room : goal.take_turn-requires-clause-room
take_turn-requires-clause-room g c = subst (λ (l : List (ℕ × Cell)). length l < 7) (sym (none-held c.give_turns.ensures.everyone c.give_turns.ensures.bare)) (omega arith)

pub returns-clause-turned : goal.returns-clause-turned
returns-clause-turned g c = turned-on c.args.seat.now c.give_turns.new.seat c.take_turn.new.seat c.give_turns.ensures.turned c.take_turn.ensures.took.turned

pub returns-clause-held : goal.returns-clause-held
returns-clause-held g c = (c.take_turn.ensures.took.value, held-alone c.take_turn.ensures.took (none-held c.give_turns.ensures.everyone c.give_turns.ensures.bare))

pub returns-clause-value : goal.returns-clause-value
returns-clause-value g c =
    let took = c.take_turn.ensures.took in
    let known = knows-on c.give_turns.ensures.turned c.args.cell c.requires.knows in
    held-alone took (none-held c.give_turns.ensures.everyone c.give_turns.ensures.bare) ∙ ap some (took.same known.0 known.1) ∙ sym c.requires.knows.1
