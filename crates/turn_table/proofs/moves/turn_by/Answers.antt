use Rattle.std.proofs.Common.{◌≤◌, ◌<◌, length, ap, ◌∙◌, arith}
use Rattle.turn_table.proofs.Seats.{turned_more, pair_path}
use Rattle.turn_table.proofs.moves.turn_by.Goals as goal

pub loop-preserved : goal.loop-preserved
loop-preserved g c = let inv = c.loop.invariant in let inside : c.loop.counter < length c.args.place.now.me.1 = let t : c.args.count ≤ length c.args.place.now.me.1 = c.requires in omega (arith, c.loop-test.true) in record {
  table = c.turn.ensures.0 ∙ inv.table;
  id = c.turn.ensures.1 ∙ inv.id;
  slots = c.turn.ensures.2 ∙ pair_path (ap (λ m. m.0) inv.slots) (turned_more c.args.place.now.me.1 c.loop.counter _ inside (ap (λ m. m.1) inv.slots));
}
