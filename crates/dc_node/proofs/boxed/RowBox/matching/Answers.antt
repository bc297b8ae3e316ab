use Rattle.std.proofs.{Common.{◌∙◌, ap}, lemmas.List.Elements.All-same}
use Rattle.arrayvec.specs.ArrayVec.{ArrayVec as Items}
use Rattle.dim_hierarchy.specs.{Rows.IsRowOf, declared.row.Row.Row}
use Rattle.dc_node.specs.{Columns.rows_in_columns, declared.columns.Columns.Columns}
use Rattle.dc_node.proofs.boxed.RowBox.matching.Goals as goal

pub matching-requires-clause-rows : goal.matching-requires-clause-rows
matching-requires-clause-rows c =
    let box = c.deref.result.now in
    All-same (IsRowOf c.args.wanted.now.hierarchy) (rows_in_columns box c.self.inside.count) c.args.self.now.items
    (ap (λ (b : Columns). rows_in_columns b c.self.inside.count) c.deref.ensures ∙ ap (λ (v : Items Row). v.items) c.self.view_is) c.requires
