use Rattle.whole_steps.proofs.Turned.{took-cell, took-everyone}
use Rattle.whole_steps.proofs.turns.take_turn.Goals as goal

pub returns-clause-everyone : goal.returns-clause-everyone
returns-clause-everyone g c =
    let t = c.take.ensures.took in took-everyone c.args.table.now c.args.seat.now c.take.new.seat c.requires.everyone c.args.cell c.args.rank t.1 t.2 t.0 t.3 c.take.ensures.possible

pub returns-clause-took : goal.returns-clause-took
returns-clause-took g c =
    let t = c.take.ensures.took in took-cell c.args.table.now c.args.seat.now c.take.new.seat c.requires.everyone c.args.cell c.args.rank t.1 t.2 t.0 t.3 t.4 t.5
