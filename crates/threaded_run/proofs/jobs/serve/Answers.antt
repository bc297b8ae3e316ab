use Rattle.threaded_run.proofs.Coming.{hand-back}
use Rattle.threaded_run.proofs.jobs.serve.Goals as goal

pub returns : goal.returns
returns g c = record {
  back = hand-back c.args.hall.now c.args.player c.of.result c.of.ensures c.new-hand.result c.serve.new.self c.new-hand.ensures.made c.serve.ensures.served c.end.result c.end.ensures.of c.end.ensures.made
      c.into_player.result c.into_player.ensures.pass c.into_player.ensures.same c.requires.behind;
}
