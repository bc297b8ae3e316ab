use Rattle.std.proofs.{Common.{rules, None, get_or}, lemmas.Option.slice_get-get_or}
use Rattle.seeded_run.proofs.Phases.ByHand.{later-then, made-all, makes-one-more}
use Rattle.seeded_run.proofs.machine.Running.make_all.Goals as goal

pub loop-place-preserved : goal.loop-place-preserved
loop-place-preserved c = record {
  holds = c.in_ok-make_move.ensures.holds;
  later = later-then c.args.self.now c.loop-place.self c.make_move.new.self c.loop-place.invariant.later c.in_ok-make_move.ensures.later;
  made = makes-one-more c.args.self.now c.loop-place.self c.make_move.new.self c.loop-place.invariant.later c.args.moves.now c.loop-place.place (get_or c.args.moves.now c.loop-place.place (0, None))
      (slice_get-get_or c.args.moves.now c.loop-place.place (0, None) (search rules)) c.loop-place.invariant.made (c.in_ok-make_move.ensures.moved (search rules));
}

pub returns-clause-moved : goal.returns-clause-moved
returns-clause-moved c = made-all c.args.self.now c.loop-place.self c.loop-place.self c.loop-place.invariant.later c.args.moves.now c.loop-place.place (search rules) c.loop-place.invariant.made
