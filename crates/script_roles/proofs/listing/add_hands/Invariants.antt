use Rattle.std.specs.Prelude.{◌≡◌, ◌++◌}
use Rattle.script_roles.specs.Roles.{hands_of}
use Rattle.script_roles.proofs.listing.add_hands.Given as goal

abbrev pub invariant-loop-worker : goal.invariant-loop-worker
invariant-loop-worker l = l.roles ≡ l.initial.roles ++ hands_of l.threads l.worker
