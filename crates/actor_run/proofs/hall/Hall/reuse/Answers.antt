use Rattle.actor_run.proofs.{Gathered.here-view, Reused.have-reused}
use Rattle.actor_run.proofs.hall.Hall.reuse.Goals as goal

pub returns-clause-on : goal.returns-clause-on
returns-clause-on g c =
    have-reused c.args.self.now c.args.passes.now c.in-Some.seat c.reuse_with.new.seat c.passes.inside.own c.reuse_with.new.own c.passes.inside.actors.items c.reuse_with.new.actors.items (here-view c.in-Some.is c.passes.inside.own c.passes.inside.actors.items c.passes.view_is) c.requires.own c.requires.all
    c.reuse_with.ensures.are c.reuse_with.ensures.all c.reuse_with.ensures.table c.reuse_with.ensures.setting c.reuse_with.ensures.later c.reuse_with.ensures.nothing
