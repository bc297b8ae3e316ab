use Rattle.actor_run.proofs.CursorOpen.{query-now}
use Rattle.actor_run.proofs.gates.go_to_gate.Goals as goal

pub loop-init : goal.loop-init
loop-init g c = (c.requires.since, c.requires.unvisited)

pub go_nearer-requires : goal.go_nearer-requires
go_nearer-requires g c =
    let since = c.loop.invariant.0 in
    record {
      command = (c.args.player.now, since);
      query = (since.of, query-now c.args.floor.now c.args.player.now c.loop.player since c.requires.query.0 c.requires.query.1);
      unvisited = c.loop.invariant.1;
    }

pub loop-preserved : goal.loop-preserved
loop-preserved g c = (c.go_nearer.ensures.since c.args.player.now c.loop.invariant.0, c.go_nearer.ensures.unvisited)

pub returns-then-not-go_nearer : goal.returns-then-not-go_nearer
returns-then-not-go_nearer g c = record { since = c.go_nearer.ensures.since c.args.player.now c.loop.invariant.0; unvisited = c.go_nearer.ensures.unvisited }
