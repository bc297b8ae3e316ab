use Rattle.std.proofs.Common.{◌≡◌, ◌+◌}
use Rattle.volap_cell.specs.Filling.{pulls_of}
use Rattle.volap_cell.proofs.opening.first_pulls.Given as goal

abbrev pub invariant-loop-server : goal.invariant-loop-server
invariant-loop-server l = (l.ledger.history ≡ pulls_of l.registry.frontier l.server) × (l.ledger.promised + l.server ≡ l.servers)
