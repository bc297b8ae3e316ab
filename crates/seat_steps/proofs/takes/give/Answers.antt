use Rattle.std.proofs.Common.{◌∙◌, List, ℕ, Option, ap, sym, subst}
use Rattle.row_ledger.specs.declared.event.Event.{Event}
use Rattle.seat_steps.specs.Floors.{AreTold, kept_by}
use Rattle.seat_steps.proofs.{Taken.{free-of, gave-holds}, Told.still-told}
use Rattle.turn_table.specs.{Numbered.value_of, Seat.SeatValue}
use Rattle.core_due.specs.volap_cell.specs.{Values.actor_of, declared.{actor.Actor.Actor, cell.Cell.Cell}}
use Rattle.seat_steps.proofs.takes.give.Goals as goal

pub release-requires-clause-free : goal.release-requires-clause-free
release-requires-clause-free c = free-of c.requires.seated.holds c.args.cell c.requires.free

pub returns-clause-seated : goal.returns-clause-seated
returns-clause-seated c =
    let s = c.requires.seated in
    let p = c.args.player.now in
    let e = c.release.ensures.seat in
    record {
      holds = gave-holds s.holds c.release.new.seat c.args.cell e c.release.ensures.possible;
      alone = λ j x at. s.alone j x (ap (λ (z : SeatValue Cell Actor Event). value_of z.view.actors j) (sym e) ∙ at);
      servers = s.servers;
      workers = s.workers;
      kept = subst (λ (r : List (ℕ × Option ℕ)). AreTold r (kept_by (actor_of p.actor))) (sym (ap (λ (z : SeatValue Cell Actor Event). z.ranks) e)) (still-told p.seat.ranks (actor_of p.actor) c.args.cell c.requires.free s.kept);
    }
