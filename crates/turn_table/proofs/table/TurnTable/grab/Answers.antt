use Rattle.std.proofs.Common.{rules, ◌<◌, length, sym, subst, arith}
use Rattle.atomic_table.specs.Seated.{TableId}
use Rattle.turn_table.proofs.Allowed.{take_allowed_as}
use Rattle.turn_table.proofs.table.TurnTable.grab.Goals as goal

pub compare_exchange-requires : goal.compare_exchange-requires
compare_exchange-requires g c =
    let word : c.args.cell < c.self.inside.table.shared.table_id.words = subst (λ (t : TableId). c.args.cell < t.words) (sym c.self.view_is) c.requires.cell in
    let slot : c.args.cell < c.self.inside.table.shared.table_id.slots = omega (arith, word, c.self.invariant.2) in (
      search rules,
      word,
      take_allowed_as g.C.Core.invariant g.C.Core.log_at g.C.Core.log g.C.Core.needs (length c.self.inside.table.shared.key.actors.value.items) _ _ _ _ _ c.requires.own.1 c.requires.active slot,
    )
