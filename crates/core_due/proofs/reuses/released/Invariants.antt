use Rattle.std.proofs.Common.{◌≡◌, None, drop}
use Rattle.core_due.specs.{Look.world_by, Reuses.first_by}
use Rattle.core_due.proofs.reuses.released.Given as goal

abbrev pub invariant-loop-at : goal.invariant-loop-at
invariant-loop-at l = first_by (world_by l.cells) l.best (drop l.at-index l.gates) ≡ first_by (world_by l.cells) None l.gates
