use Rattle.std.proofs.Common.{◌∙◌, ℕ, List, [], ◌∷◌, ◌++◌, length, Option, Some, ap, subst, sym, arith}
use Rattle.seat_steps.proofs.{Ranks.order-none, Since.{nothing-held, nothing-told}}
use Rattle.turn_table.specs.{Numbered.value_of, Seat.IsInOrder}
use Rattle.core_due.specs.volap_cell.specs.declared.cell.Cell.{Cell}
use Rattle.seat_steps.proofs.booked.take_first.Goals as goal

pub take-requires-clause-other : goal.take-requires-clause-other
take-requires-clause-other g c = ap (λ (l : List (ℕ × Cell)). value_of l c.args.cell) (nothing-held c.requires.stands c.requires.no_part)

pub take-requires-clause-rank : goal.take-requires-clause-rank
take-requires-clause-rank g c = subst (λ (l : List (ℕ × Option ℕ)). IsInOrder l c.args.cell c.args.rank) (sym (nothing-told c.requires.stands c.requires.no_part)) (order-none c.args.cell c.args.rank)

pub take-requires-clause-room : goal.take-requires-clause-room
take-requires-clause-room g c = (let e = ap (λ (l : List (ℕ × Cell)). length l) (nothing-held c.requires.stands c.requires.no_part) in omega arith)

pub returns-clause-ranks : goal.returns-clause-ranks
returns-clause-ranks g c = c.take.ensures.took.ranks ∙ ap (λ (l : List (ℕ × Option ℕ)). l ++ (c.args.cell, Some c.args.rank) ∷ []) (nothing-told c.requires.stands c.requires.no_part)
