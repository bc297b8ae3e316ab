use Rattle.std.proofs.Common.{◌≡◌, take}
use Rattle.session_runs.specs.Sessions.{DoesInTurn, stream_of}
use Rattle.threaded_run.proofs.callers.pull_all.Given as goal

abbrev pub invariant-loop-command : goal.invariant-loop-command
invariant-loop-command g l = record {
  same : l.puller ≡ record l.fn.puller { seen = l.puller.seen };
  done : DoesInTurn l.fn.puller.floor.with l.fn.puller.floor.hierarchy l.fn.puller.number (stream_of l.fn.puller.floor.with (take l.command-index l.commands) l.fn.puller.number) l.fn.puller.seen l.puller.seen;
}
