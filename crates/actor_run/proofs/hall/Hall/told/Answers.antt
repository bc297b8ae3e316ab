use Rattle.std.proofs.Common.{◌∙◌, sym}
use Rattle.actor_run.proofs.Gathered.{gone-on, here-view}
use Rattle.actor_run.proofs.hall.Hall.told.Goals as goal

pub returns-clause-on : goal.returns-clause-on
returns-clause-on g c =
    gone-on c.args.self.now c.args.passes.now c.in-Some.seat c.page_with-seat.result.0 c.passes.inside.own c.page_with-seat.new.own c.passes.inside.actors.items c.page_with-seat.new.actors.items (here-view (sym c.take.ensures.value ∙ c.in-Some.is) c.passes.inside.own c.passes.inside.actors.items c.passes.view_is) c.requires.own c.requires.all c.page_with-seat.ensures.are c.page_with-seat.ensures.all c.page_with-seat.ensures.table c.page_with-seat.ensures.setting c.page_with-seat.ensures.later c.page_with-seat.ensures.others
