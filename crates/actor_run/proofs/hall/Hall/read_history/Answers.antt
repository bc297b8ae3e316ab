use Rattle.std.proofs.Common.{refl}
use Rattle.actor_run.proofs.Rested.{passes-are, passes-everyone, passes-ledger, passes-lent, passes-rested}
use Rattle.actor_run.proofs.hall.Hall.read_history.Goals as goal

pub lend_history-requires-clause-everyone : goal.lend_history-requires-clause-everyone
lend_history-requires-clause-everyone g c = passes-everyone c.self.view_is c.in-Some.is c.passes.inside.own c.passes.inside.actors.items c.passes.invariant.0 c.passes.view_is c.requires.own c.requires.all

pub lend_history-requires-clause-ledger : goal.lend_history-requires-clause-ledger
lend_history-requires-clause-ledger g c = passes-ledger c.self.view_is c.in-Some.is c.passes.inside.own c.passes.inside.actors.items c.passes.invariant.0 c.passes.view_is c.requires.own c.requires.all

pub lend_history-requires-clause-asked : goal.lend_history-requires-clause-asked
lend_history-requires-clause-asked g c = passes-lent c.self.view_is c.in-Some.is c.passes.inside.own c.passes.inside.actors.items c.passes.invariant.0 c.passes.view_is c.requires.own c.requires.all c.requires.asked

pub invariant_of-passes : goal.invariant_of-passes
invariant_of-passes g c = (passes-are c.self.view_is c.in-Some.is c.passes.inside.own c.passes.inside.actors.items c.passes.invariant.0 c.passes.view_is c.requires.own c.requires.all c.lend_history.new.seat c.lend_history.ensures.everyone c.lend_history.ensures.turned c.lend_history.ensures.bare, c.passes.invariant.1, refl)

pub returns-clause-on : goal.returns-clause-on
returns-clause-on g c = passes-rested c.self.view_is c.in-Some.is c.passes.inside.own c.passes.inside.actors.items c.passes.invariant.0 c.passes.view_is c.requires.own c.requires.all c.lend_history.new.seat c.lend_history.ensures.everyone c.lend_history.ensures.turned
