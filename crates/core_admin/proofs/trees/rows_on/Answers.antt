use Rattle.std.proofs.Common.{subst, sym}
use Rattle.dim_hierarchy.specs.{Row.IsCoordOf, declared.row.Row.Row}
use Rattle.core_admin.proofs.trees.rows_on.Goals as goal

pub is_on-requires-clause-at : goal.is_on-requires-clause-at
is_on-requires-clause-at c = subst (λ (r : Row). IsCoordOf c.args.h.now r.at) (sym c.row-item.is) (c.requires.rows c.loop-row.row-index c.row-item.result c.loop-row-test.true)
