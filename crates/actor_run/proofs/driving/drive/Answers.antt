use Rattle.std.proofs.Common.{arith}
use Rattle.actor_run.proofs.driving.drive.Goals as goal

pub loop-init : goal.loop-init
loop-init g c = (c.requires.open, omega arith, λ spent. spent)

pub go_on-requires-clause-command : goal.go_on-requires-clause-command
go_on-requires-clause-command g c _ _ = (c.args.player.now, c.loop.invariant.0)

pub loop-preserved : goal.loop-preserved
loop-preserved g c = (
  c.in-None-go_on.ensures.goes c.args.player.now c.loop.invariant.0,
  (let before = c.loop.invariant.1 in let more = c.go_on.ensures.kept in omega (arith, before, more)),
  λ spent. c.in-None-go_on.ensures.steps c.args.steps.now (c.loop.invariant.2 spent),
)

pub returns-in-Some-go_on : goal.returns-in-Some-go_on
returns-in-Some-go_on g c = record {
  ends = c.in-Some-go_on.ensures.goes c.args.player.now c.loop.invariant.0;
  kept = (let before = c.loop.invariant.1 in let more = c.go_on.ensures.kept in omega (arith, before, more));
  steps = λ spent. c.in-Some-go_on.ensures.steps c.args.steps.now (c.loop.invariant.2 spent);
}
