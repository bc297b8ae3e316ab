use Rattle.whole_steps.proofs.Reusing.{between-still, none-reused, reused-on}
use Rattle.whole_steps.specs.Sole.{player}
use Rattle.whole_steps.proofs.reuses.reuse_all.Goals as goal

pub loop-init : goal.loop-init
loop-init g c = none-reused c.args.floor.now (player c.args.number c.args.actor.now c.args.seat.now) c.requires.stands

pub reuse_cell-requires-clause-stands : goal.reuse_cell-requires-clause-stands
reuse_cell-requires-clause-stands g c = c.loop.invariant.stands

pub reuse_cell-requires-clause-between : goal.reuse_cell-requires-clause-between
reuse_cell-requires-clause-between g c = between-still c.loop.invariant c.requires.between

pub loop-preserved : goal.loop-preserved
loop-preserved g c = reused-on c.loop.invariant c.reuse_cell.ensures.reused.reused

pub returns-in_default-clause-reused : goal.returns-in_default-clause-reused
returns-in_default-clause-reused g c = c.loop.invariant
