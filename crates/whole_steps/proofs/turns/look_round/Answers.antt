use Rattle.std.proofs.Common.{ℕ, ◌<◌, List, length, ap, sym, subst, arith}
use Rattle.turn_table.specs.Numbered.{value_of}
use Rattle.core_pages.specs.volap_cell.specs.declared.cell.Cell.{Cell}
use Rattle.whole_steps.proofs.Turned.{knows-next, knows-on, none-held, turned-on}
use Rattle.whole_steps.proofs.turns.look_round.Goals as goal

pub take_turn-requires-clause-other : goal.take_turn-requires-clause-other
take_turn-requires-clause-other g c = ap (λ (l : List (ℕ × Cell)). value_of l c.loop-at.at) (none-held c.loop-at.invariant.everyone c.loop-at.invariant.bare)

pub take_turn-requires-clause-room : goal.take_turn-requires-clause-room
take_turn-requires-clause-room g c = subst (λ (l : List (ℕ × Cell)). length l < 7) (sym (none-held c.loop-at.invariant.everyone c.loop-at.invariant.bare)) (omega arith)

pub loop-at-preserved : goal.loop-at-preserved
loop-at-preserved g c =
    let start = c.args.seat.now in
    let was = c.loop-at.seat in
    let mid = c.take_turn.new.seat in
    let now = c.give_turns.new.seat in
    let k = c.loop-at.invariant in
    let took = c.take_turn.ensures.took in
    let turned = turned-on was mid now took.turned c.give_turns.ensures.turned in
    record {
      everyone = c.give_turns.ensures.everyone;
      turned = turned-on start was now k.turned turned;
      bare = c.give_turns.ensures.bare;
      knows = knows-next now c.loop-at.at (λ n low. knows-on turned n (k.knows n low)) (knows-on c.give_turns.ensures.turned c.loop-at.at (took.value, took.knows));
    }
