use Rattle.std.proofs.Common.{refl}
use Rattle.actor_run.proofs.Opening.{are-opened, has-opened}
use Rattle.actor_run.proofs.hall.Hall.open.Goals as goal

pub invariant_of-result : goal.invariant_of-result
invariant_of-result c = (c.requires.fits.dims, c.in_ok-desks.ensures, c.in_ok-hands.ensures)

pub invariant_of-result-2 : goal.invariant_of-result-2
invariant_of-result-2 c = (are-opened c.pop.new.self.items c.in-Some.own c.requires.fits c.in_ok-table.ensures c.in-Some.ensures.items c.in_ok-actors.ensures.items, c.in_ok-actors.ensures.room, refl)

pub returns : goal.returns
returns c = record { opened = has-opened c.pop.new.self.items c.in-Some.own c.requires.fits c.in_ok-table.ensures c.in-Some.ensures.items c.in_ok-actors.ensures.items }
