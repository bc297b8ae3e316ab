use Rattle.actor_run.proofs.Gathered.{gone-on, here-view}
use Rattle.actor_run.proofs.hall.Hall.note_unknown.Goals as goal

pub returns-clause-on : goal.returns-clause-on
returns-clause-on g c =
    gone-on c.args.self.now c.args.passes.now c.in-Some.seat c.unknown_with.new.seat c.passes.inside.own c.unknown_with.new.own c.passes.inside.actors.items c.unknown_with.new.actors.items (here-view c.in-Some.is c.passes.inside.own c.passes.inside.actors.items c.passes.view_is) c.requires.own c.requires.all c.unknown_with.ensures.are c.unknown_with.ensures.all c.unknown_with.ensures.table c.unknown_with.ensures.setting c.unknown_with.ensures.later c.unknown_with.ensures.others
