use Rattle.std.proofs.Common.{ap, ◌∙◌}
use Rattle.std.specs.FinMap as map
use Rattle.std.specs.Ordering.{nat_cmp}
use Rattle.mapping_table.specs.declared.place.Where.{Where}
use Rattle.mapping_table.specs.declared.place.Where.TheVariants as where_is
use Rattle.core_admin.proofs.TableSteps.{forgotten}
use Rattle.core_admin.proofs.splits.lead_to_children.Goals as goal

pub returns-in-Err-clause-err : goal.returns-in-Err-clause-err
returns-in-Err-clause-err c =
    c.forget.ensures ∙ ap (λ (z : map.FinMap nat_cmp Where). map.remove z c.args.first) (c.in-Err.ensures.err ∙ c.in_ok-set.ensures.ok) ∙ forgotten c.args.table.now c.args.first (where_is.Gate c.args.left_at) c.requires.new.left
