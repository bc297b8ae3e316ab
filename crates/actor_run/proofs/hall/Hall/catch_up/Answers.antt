use Rattle.std.proofs.Common.{refl}
use Rattle.actor_run.proofs.Rested.{passes-are, passes-everyone, passes-ledger, passes-rested}
use Rattle.actor_run.proofs.hall.Hall.catch_up.Goals as goal

pub copy_history-requires-clause-everyone : goal.copy_history-requires-clause-everyone
copy_history-requires-clause-everyone g c = passes-everyone c.self.view_is c.in-Some.is c.passes.inside.own c.passes.inside.actors.items c.passes.invariant.0 c.passes.view_is c.requires.own c.requires.all

pub copy_history-requires-clause-ledger : goal.copy_history-requires-clause-ledger
copy_history-requires-clause-ledger g c = passes-ledger c.self.view_is c.in-Some.is c.passes.inside.own c.passes.inside.actors.items c.passes.invariant.0 c.passes.view_is c.requires.own c.requires.all

pub invariant_of-passes : goal.invariant_of-passes
invariant_of-passes g c = (passes-are c.self.view_is c.in-Some.is c.passes.inside.own c.passes.inside.actors.items c.passes.invariant.0 c.passes.view_is c.requires.own c.requires.all c.copy_history.new.seat c.copy_history.ensures.everyone c.copy_history.ensures.turned c.copy_history.ensures.bare, c.passes.invariant.1, refl)

pub returns-clause-on : goal.returns-clause-on
returns-clause-on g c = passes-rested c.self.view_is c.in-Some.is c.passes.inside.own c.passes.inside.actors.items c.passes.invariant.0 c.passes.view_is c.requires.own c.requires.all c.copy_history.new.seat c.copy_history.ensures.everyone c.copy_history.ensures.turned
