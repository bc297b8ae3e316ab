use Rattle.std.specs.Prelude.{◌≡◌, ◌++◌}
use Rattle.script_roles.specs.Roles.{sessions_of}
use Rattle.script_roles.proofs.listing.add_sessions.Given as goal

abbrev pub invariant-loop-server : goal.invariant-loop-server
invariant-loop-server l = l.roles ≡ l.initial.roles ++ sessions_of l.server
