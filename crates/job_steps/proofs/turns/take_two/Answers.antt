use Rattle.std.proofs.{Common.{inl, inr, arith}, lemmas.Bool.cases_lt}
use Rattle.job_steps.proofs.Cells.{may-swap, took-swap}
use Rattle.job_steps.proofs.turns.take_two.Goals as goal

pub take_up-requires-else-x-y-clause-may : goal.take_up-requires-else-x-y-clause-may
take_up-requires-else-x-y-clause-may g c = may-swap c.requires.may

pub take_up-requires-else-x-y-clause-order : goal.take_up-requires-else-x-y-clause-order
take_up-requires-else-x-y-clause-order g c = (c.requires.order.1.0, (c.requires.order.0, tt))

pub take_up-requires-else-x-y-clause-up : goal.take_up-requires-else-x-y-clause-up
take_up-requires-else-x-y-clause-up g c = elim (cases_lt c.args.y c.args.x) [
  | inl lower ↦ lower
  | inr high ↦ absurd (c.requires.may.apart.0.0 (omega (arith, high, c.if-x-y.false)))
]

pub returns-else-x-y-clause-took : goal.returns-else-x-y-clause-took
returns-else-x-y-clause-took g c = took-swap c.take_up-else-x-y.ensures.took
