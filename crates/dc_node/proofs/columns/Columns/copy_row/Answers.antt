use Rattle.std.proofs.Common.{◌∙◌, ◌++◌, ◌∷◌, [], ap}
use Rattle.dc_node.specs.Columns.{rows_in_columns}
use Rattle.dc_node.proofs.columns.Columns.copy_row.Goals as goal

pub returns : goal.returns
returns c = c.put.ensures ∙ ap (λ r. rows_in_columns c.args.other.now c.args.count ++ r ∷ []) c.row.ensures
