use Rattle.actor_run.proofs.Gathered.{gone-on, here-view}
use Rattle.actor_run.proofs.hall.Hall.settled.Goals as goal

pub returns-clause-on : goal.returns-clause-on
returns-clause-on g c =
    gone-on c.args.self.now c.args.passes.now c.in-Some.seat c.settle_with.new.seat c.passes.inside.own c.settle_with.new.own c.passes.inside.actors.items c.settle_with.new.actors.items (here-view c.in-Some.is c.passes.inside.own c.passes.inside.actors.items c.passes.view_is) c.requires.own c.requires.all c.settle_with.ensures.are c.settle_with.ensures.all c.settle_with.ensures.table c.settle_with.ensures.setting c.settle_with.ensures.later c.settle_with.ensures.others
