use Rattle.std.proofs.Common.{refl, None}
use Rattle.turn_table.proofs.Seats.{found_place, still_behind, none_behind}
use Rattle.turn_table.proofs.moves.position.Goals as goal

pub loop-i-init : goal.loop-i-init
loop-i-init c = refl

pub returns-then-row-i : goal.returns-then-row-i
returns-then-row-i c = found_place c.args.row.now c.loop-i.i c.args.cell (0, None) c.loop-i-test.true c.if-row-i.true

pub loop-i-preserved : goal.loop-i-preserved
loop-i-preserved c = still_behind c.args.row.now c.loop-i.i c.args.cell (0, None) c.loop-i-test.true c.if-row-i.false c.loop-i.invariant

pub unreachable-requires : goal.unreachable-requires
unreachable-requires c = absurd (none_behind c.args.row.now c.loop-i.i c.args.cell c.requires.0 c.loop-i-test.false c.loop-i.invariant c.requires.1)
