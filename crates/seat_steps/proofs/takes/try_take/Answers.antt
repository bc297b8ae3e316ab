use Rattle.seat_steps.proofs.Taken.{tried-ranks, tried-refused, tried-same, tried-seen, tried-seated, tried-took}
use Rattle.core_due.specs.volap_cell.proofs.Outcomes.{on-ok}
use Rattle.seat_steps.proofs.takes.try_take.Goals as goal

pub returns-clause-seated : goal.returns-clause-seated
returns-clause-seated c =
    let t = c.try_take in
    tried-seated c.args.floor.now c.args.player.now t.new.seat c.args.cell t.result c.requires.seated t.ensures.possible (on-ok t.result t.ensures.ok (λ k. (k.0, k.1, k.2))) t.ensures.err

pub returns-clause-took : goal.returns-clause-took
returns-clause-took c =
    let t = c.try_take in
    tried-took c.args.floor.now c.args.player.now t.new.seat c.args.cell t.result (on-ok t.result t.ensures.ok (λ k. (k.0, k.1, k.2)))

pub returns-clause-same : goal.returns-clause-same
returns-clause-same c =
    let t = c.try_take in
    tried-same c.args.floor.now c.args.player.now t.new.seat c.args.cell t.result t.ensures.err

pub returns-clause-ranks : goal.returns-clause-ranks
returns-clause-ranks c =
    let t = c.try_take in
    tried-ranks c.args.floor.now c.args.player.now t.new.seat c.args.cell t.result t.ensures.err

pub returns-clause-seen : goal.returns-clause-seen
returns-clause-seen c =
    let t = c.try_take in
    tried-seen c.args.floor.now c.args.player.now t.new.seat c.args.cell t.result t.ensures.err

pub returns-clause-read : goal.returns-clause-read
returns-clause-read c =
    let t = c.try_take in
    tried-refused c.args.floor.now c.args.player.now t.new.seat c.args.cell t.result t.ensures.err
