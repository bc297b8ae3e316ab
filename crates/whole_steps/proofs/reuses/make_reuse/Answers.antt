use Rattle.std.proofs.Common.{refl}
use Rattle.call_steps.specs.volap_turns.proofs.Turned.{when-ok}
use Rattle.whole_steps.proofs.Reusing.{reuse-asked, reuse-at, reuse-everyone, reuse-left, reuse-many, reused-so}
use Rattle.whole_steps.proofs.reuses.make_reuse.Goals as goal

pub step-requires-clause-holds : goal.step-requires-clause-holds
step-requires-clause-holds c = c.requires.sole.holds

pub step-requires-clause-some : goal.step-requires-clause-some
step-requires-clause-some c = (reuse-many c.args.floor.now c.args.number c.args.actor.now c.args.seat.now c.args.what c.requires.sole c.requires.between c.requires.held c.requires.due).0

pub step-requires-clause-few : goal.step-requires-clause-few
step-requires-clause-few c = (reuse-many c.args.floor.now c.args.number c.args.actor.now c.args.seat.now c.args.what c.requires.sole c.requires.between c.requires.held c.requires.due).1

pub step-requires-clause-at : goal.step-requires-clause-at
step-requires-clause-at c = reuse-at c.args.floor.now c.args.number c.args.actor.now c.args.seat.now c.args.what c.requires.sole c.requires.between c.requires.held c.requires.due

pub step-requires-clause-asked : goal.step-requires-clause-asked
step-requires-clause-asked c = reuse-asked c.args.floor.now c.args.number c.args.actor.now c.args.seat.now c.args.what c.requires.sole c.requires.between c.requires.held c.requires.due

pub step-requires-clause-left : goal.step-requires-clause-left
step-requires-clause-left c = reuse-left c.args.floor.now c.args.number c.args.actor.now c.args.seat.now c.args.what c.requires.sole c.requires.between c.requires.held c.requires.due

pub give_turns-requires : goal.give_turns-requires
give_turns-requires c = record {
  everyone = reuse-everyone c.args.floor.now c.args.number c.args.actor.now c.args.seat.now c.args.what c.requires.sole c.requires.between c.requires.held c.requires.due c.step.new.actor c.step.new.seat c.step.new.seat c.step.ensures.holds c.step.result c.step.ensures.went
      c.step.ensures.same;
}

pub returns : goal.returns
returns c = record {
  reused = reused-so c.args.floor.now c.args.number c.args.actor.now c.args.seat.now c.args.what c.requires.sole c.requires.between c.requires.held c.requires.due c.step.new.actor c.step.new.seat c.give_turns.new.seat c.step.ensures.holds
      (when-ok c.step.result c.step.ensures.went (c.step.ensures.sure refl)) c.step.ensures.lists c.give_turns.ensures.turned c.give_turns.ensures.everyone c.give_turns.ensures.bare;
}
