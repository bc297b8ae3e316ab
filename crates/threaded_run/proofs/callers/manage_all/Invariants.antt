use Rattle.std.proofs.Common.{◌≡◌, take}
use Rattle.session_runs.specs.Sessions.{DoesInTurn, stream_of}
use Rattle.threaded_run.proofs.callers.manage_all.Given as goal

abbrev pub invariant-loop-command : goal.invariant-loop-command
invariant-loop-command g l = record {
  same : l.admin ≡ record l.fn.admin { seen = l.admin.seen };
  done : DoesInTurn l.fn.admin.floor.with l.fn.admin.floor.hierarchy l.fn.admin.number (stream_of l.fn.admin.floor.with (take l.command-index l.commands) l.fn.admin.number) l.fn.admin.seen l.admin.seen;
}
