use Rattle.std.specs.Prelude.{◌≡◌, ◌++◌}
use Rattle.script_roles.specs.Roles.{hands_at}
use Rattle.script_roles.proofs.listing.add_hands_at.Given as goal

abbrev pub invariant-loop : goal.invariant-loop
invariant-loop l = l.roles ≡ l.initial.roles ++ hands_at l.worker l.counter
