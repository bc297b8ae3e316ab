use Rattle.std.proofs.Common.{rules}
use Rattle.dc_node.proofs.Rows.{push_rows}
use Rattle.dc_node.proofs.columns.Columns.put.Goals as goal

pub returns : goal.returns
returns c =
    push_rows _ _ _ _ _ c.args.row.now _ (search rules) (search rules) (search rules) c.put.ensures
