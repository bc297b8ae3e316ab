use Rattle.std.proofs.Common.{arith, refl, subst}
use Rattle.actor_run.specs.Passes.{HasGiven, PassValue, PassesValue, passes_of}
use Rattle.actor_run.proofs.Gathered.{here-are, here-view}
use Rattle.actor_run.proofs.Given.{are-given, bare, below, has-given, rests}
use Rattle.actor_run.proofs.passes.Passes.give.Goals as goal

pub join_seat-requires-clause-bare : goal.join_seat-requires-clause-bare
join_seat-requires-clause-bare c = bare c.pass.invariant

pub join_seat-requires-clause-idle : goal.join_seat-requires-clause-idle
join_seat-requires-clause-idle c = rests c.pass.invariant

pub put-requires : goal.put-requires
put-requires c = (let j = c.join_seat.ensures in below (here-are c.in-Some.is c.self.inside.own c.self.inside.actors.items c.self.invariant.0) c.pass.invariant j.seat j.possible j.lists j.apart)

pub invariant_of-self : goal.invariant_of-self
invariant_of-self c =
    let j = c.join_seat.ensures in
    let room = c.put.ensures.room in
    (are-given (here-are c.in-Some.is c.self.inside.own c.self.inside.actors.items c.self.invariant.0) c.pass.invariant j.seat j.possible j.lists j.apart c.put.new.actors.items c.put.ensures.now, omega (arith, c.self.invariant.1, room.0, room.1), refl)

pub returns-clause-given : goal.returns-clause-given
returns-clause-given c =
    let j = c.join_seat.ensures in
    subst (λ (z : PassValue × PassesValue). HasGiven z.0 z.1 (passes_of c.join_seat.new.seat c.self.inside.own c.put.new.actors.items)) (λ i. (c.pass.view_is i, here-view c.in-Some.is c.self.inside.own c.self.inside.actors.items c.self.view_is i))
    (has-given (here-are c.in-Some.is c.self.inside.own c.self.inside.actors.items c.self.invariant.0) c.pass.invariant j.seat j.possible j.lists j.apart c.put.new.actors.items c.put.ensures.now)
