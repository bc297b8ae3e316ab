use Rattle.std.proofs.Common.{rules, length}
use Rattle.turn_table.proofs.Allowed.{commits_allowed}
use Rattle.turn_table.proofs.table.TurnTable.commit_as.Goals as goal

pub swap-requires : goal.swap-requires
swap-requires g c = (
  search rules,
  search rules,
  commits_allowed g.C.Core.invariant g.C.Core.log_at g.C.Core.log g.C.Core.needs (length c.self.inside.table.shared.key.actors.value.items) g.C.Core.change g.C.Core.lawful _ _ _ _ _ c.requires.goes,
)
