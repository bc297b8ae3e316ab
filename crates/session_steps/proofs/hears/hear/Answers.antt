use Rattle.std.proofs.Common.{◌≡◌, ◌∙◌, List, [], length, ap, sym, arith}
use Rattle.row_ledger.specs.declared.event.Event.{Event}
use Rattle.part_steps.specs.seat_steps.proofs.{Around.{around, within}, Since.{as-before, looked, unchanged}, WithLedger.first-there}
use Rattle.session_steps.proofs.{Heard.held-seen, Since.unchanged-back}
use Rattle.part_steps.specs.seat_steps.specs.declared.floor.Player.{Player}
use Rattle.part_steps.specs.volap_cell.specs.Setting.{ledger_cell}
use Rattle.session_steps.proofs.hears.hear.Goals as goal

pub take_first-requires-clause-cell : goal.take_first-requires-clause-cell
take_first-requires-clause-cell g c =
    let f = c.args.floor.now in
    let p = c.args.player.now in
    let some = around f p c.requires.stands.seated in
    let k : c.ledger_place-ledger.result ≡ ledger_cell = c.ledger_place-ledger.ensures in
    within f p some.0 some.1 some.2 c.ledger_place-ledger.result (omega arith)

pub events_at-count-requires-clause-held : goal.events_at-count-requires-clause-held
events_at-count-requires-clause-held g c = first-there c.args.floor.now c.take_first.new.player c.take_first.ensures.seated _ 8 [] c.take_first.ensures.ranks

pub returns-clause-same : goal.returns-clause-same
returns-clause-same g c =
    let same = looked (unchanged c.take_first.ensures.took.same) c.events_at-count.ensures.same in
    as-before c.args.floor.now c.give_all.ensures.stands (unchanged-back same c.give_all.ensures.gave)

pub returns-clause-count : goal.returns-clause-count
returns-clause-count g c =
    let m = c.take_first.new.player in
    let seated = c.take_first.ensures.seated in
    let there = first-there c.args.floor.now m seated _ 8 [] c.take_first.ensures.ranks in
    let all = held-seen c.args.floor.now m seated _ c.ledger_place-ledger.ensures there.0 there.1 in
    c.events_at-count.ensures.seen there.0 there.1 ∙ ap (λ (l : List Event). length l) (sym all)
    ∙ ap (λ (p : Player). length p.seat.view.seen) (sym c.events_at-count.ensures.same) ∙ ap (λ (l : List Event). length l) (sym c.give_all.ensures.gave.seen)
