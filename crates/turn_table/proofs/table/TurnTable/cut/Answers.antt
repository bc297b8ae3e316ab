use Rattle.std.proofs.Common.{rules, ◌<◌, length, sym, subst}
use Rattle.atomic_table.specs.Seated.{TableId}
use Rattle.turn_table.proofs.Allowed.{split_allowed_as}
use Rattle.turn_table.proofs.table.TurnTable.cut.Goals as goal

pub split_seat-requires : goal.split_seat-requires
split_seat-requires g c = let t = c.requires.actor.1 in (
  search rules,
  subst (λ (t : TableId). 0 < t.words) (sym c.self.view_is) c.requires.own.1,
  split_allowed_as g.C.Core.invariant g.C.Core.log_at g.C.Core.log g.C.Core.needs (length c.self.inside.table.shared.key.actors.value.items) _ c.args.number _ _ _ t.0 c.requires.picked.0 c.requires.picked.1 t.1 c.requires.actor.0 t.2,
)
