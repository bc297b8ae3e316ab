use Rattle.std.proofs.Common.{refl, sym, subst, arith}
use Rattle.seeded_turns.specs.Drawn.{able, Moment, Reaches}
use Rattle.seeded_turns.proofs.Reaching.{reach_more}
use Rattle.seeded_turns.proofs.running.run.Goals as goal

pub loop-actor-preserved : goal.loop-actor-preserved
loop-actor-preserved g c =
    let from : Moment g.row.M.Denot = record { state = c.args.machine.now; schedule = c.args.schedule.now } in
    let turn = c.in-Some.ensures.some in
    let fewer = c.in_default-step.ensures.left c.loop-actor.invariant.left.0 c.loop-actor.invariant.left.1 in
    record {
      some = omega arith;
      holds = c.in_default-step.ensures.holds;
      reached = reach_more g.row.M.Denot (λ s. able (g.M.Machine.can s) (g.M.Machine.actors s)) g.M.Machine.makes from
          c.loop-actor.machine c.step.new.self c.loop-actor.schedule c.choose.new.schedule c.in-Some.actor
          c.loop-actor.invariant.reached turn.0 turn.1 c.in_default-step.ensures.step;
      left = (fewer.0, fewer.1, omega (arith, fewer.2, c.loop-actor.invariant.left.2));
    }

pub returns-in-Err-clause-stopped : goal.returns-in-Err-clause-stopped
returns-in-Err-clause-stopped g c =
    let turn = c.in-Some.ensures.some in
    record {
      last = record { state = c.loop-actor.machine; schedule = c.loop-actor.schedule };
      reached = c.loop-actor.invariant.reached;
      actor = c.in-Some.actor;
      is_chosen = turn.1;
      stayed = c.in-Err.ensures.refused;
      word = turn.0;
    }

pub returns-clause-turns : goal.returns-clause-turns
returns-clause-turns g c =
    let from : Moment g.row.M.Denot = record { state = c.args.machine.now; schedule = c.args.schedule.now } in
    subst (λ s. Reaches g.row.M.Denot (λ s. able (g.M.Machine.can s) (g.M.Machine.actors s)) g.M.Machine.makes from c.loop-actor.machine s)
    (sym (c.in_default.ensures.none refl).1) c.loop-actor.invariant.reached
