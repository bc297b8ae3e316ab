use Rattle.std.proofs.Common.{◌∙◌, refl, sym}
use Rattle.seeded_run.specs.Drives.{Stops}
use Rattle.seeded_run.proofs.{GivesWay.{note-made, stops-end, stops-left}, States.{made-so, of-lent}}
use Rattle.core_pages.specs.volap_cell.specs.Values.{actor_of}
use Rattle.seeded_run.proofs.works.end_unfrozen.Goals as goal

pub make-requires-clause-may : goal.make-requires-clause-may
make-requires-clause-may c =
    let stops = of-lent c.args.state.now c.args.number (Stops c.args.h.now c.args.state.now c.args.number) c.requires.may c.index.result.now c.in-Some.actor c.index.ensures c.in-Some.is in
    stops-left c.args.h.now c.args.state.now c.args.number (actor_of c.in-Some.actor) stops (sym c.is_balance-balances.ensures ∙ c.if-balances.true)

pub end_command-requires-clause-may : goal.end_command-requires-clause-may
end_command-requires-clause-may c =
    let stops = of-lent c.args.state.now c.args.number (Stops c.args.h.now c.args.state.now c.args.number) c.requires.may c.index.result.now c.in-Some.actor c.index.ensures c.in-Some.is in
    stops-end c.args.h.now c.args.state.now c.args.number (actor_of c.in-Some.actor) stops (sym c.is_balance-balances.ensures ∙ c.if-balances.false)

pub returns-then-balances : goal.returns-then-balances
returns-then-balances c =
    let ok = c.make.ensures.sure refl in
    record { made = note-made c.args.h.now c.args.number c.args.state.now c.make.new.state (made-so c.make.result _ ok c.make.ensures.further) (made-so c.make.result _ ok c.make.ensures.told) }
