use Rattle.std.proofs.Common.{get_or, None, arith, subst, sym}
use Rattle.seeded_run.specs.{Look.IsTold, Machine.{about_in, phase_of, world_of}, Rests.rest_of, Takes.AsksHere}
use Rattle.core_pages.specs.volap_cell.specs.Steps.{history_in}
use Rattle.seeded_run.proofs.{Begun.{alone-carries, asks-ahead}, Cursors.Held.told}
use Rattle.seeded_run.proofs.machine.Running.step_on_turn.Goals as goal

pub due-requires-clause-alone : goal.due-requires-clause-alone
due-requires-clause-alone c = λ order. alone-carries c.args.self.now c.requires.held c.args.number order (c.requires.turn order)

pub due-requires-clause-asks : goal.due-requires-clause-asks
due-requires-clause-asks c =
    let m = c.args.self.now in
    subst (λ o. AsksHere (get_or m.state.actors.items c.args.number None) o) (sym c.next_command-next.ensures)
    (asks-ahead m c.requires.held.kept c.args.number (omega (arith, c.requires.within, c.requires.held.kept.count)))

pub returns-clause-step : goal.returns-clause-step
returns-clause-step c =
    let m = c.args.self.now in
    let rest = rest_of (phase_of m) (history_in (world_of m)) in
    c.due.ensures.step (about_in m) (world_of m) rest c.requires.held.kept.core
    (subst (λ o. IsTold (about_in m) rest c.args.number o m.left) (sym c.next_command-next.ensures) (told m c.requires.held.kept c.args.number))

pub returns-clause-bytes : goal.returns-clause-bytes
returns-clause-bytes c = (let m = c.args.self.now in c.due.ensures.bytes (about_in m) (world_of m) c.requires.held.kept.core)
