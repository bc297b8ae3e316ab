use Rattle.actor_run.proofs.Gathered.{gone-on, here-view}
use Rattle.actor_run.proofs.hall.Hall.barrier.Goals as goal

pub returns-clause-on : goal.returns-clause-on
returns-clause-on g c =
    gone-on c.args.self.now c.args.passes.now c.in-Some.seat c.barrier_with.new.seat c.passes.inside.own c.barrier_with.new.own c.passes.inside.actors.items c.barrier_with.new.actors.items (here-view c.in-Some.is c.passes.inside.own c.passes.inside.actors.items c.passes.view_is) c.requires.own c.requires.all c.barrier_with.ensures.are c.barrier_with.ensures.all c.barrier_with.ensures.table c.barrier_with.ensures.setting c.barrier_with.ensures.later c.barrier_with.ensures.others
