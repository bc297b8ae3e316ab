use Rattle.std.proofs.Common.{◌≡◌, take}
use Rattle.session_runs.specs.Sessions.{DoesInTurn, stream_of}
use Rattle.threaded_run.proofs.sessions.do_commands.Given as goal

abbrev pub invariant-loop-command : goal.invariant-loop-command
invariant-loop-command g l = record {
  same : l.session ≡ record l.fn.session { seen = l.session.seen };
  done : DoesInTurn l.fn.session.floor.with l.fn.session.floor.hierarchy l.server (stream_of l.fn.session.floor.with (take l.command-index l.commands) l.server) l.fn.session.seen l.session.seen;
}
