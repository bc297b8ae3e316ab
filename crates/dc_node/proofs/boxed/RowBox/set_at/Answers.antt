use Rattle.std.proofs.{Common.{◌≡◌, ◌<◌, ◌∙◌, [], ◌∷◌, length, ap, sym, subst, arith}, lemmas.List.Elements.All-same}
use Rattle.std.specs.Prelude.{IfSome, slice_get}
use Rattle.arrayvec.specs.ArrayVec.{ArrayVec as Items}
use Rattle.dim_hierarchy.specs.{Rows.IsRowOf, declared.row.Row.Row}
use Rattle.dc_node.specs.{Columns.rows_in_columns, declared.columns.Columns.Columns}
use Rattle.describing_set.specs.DescSet.{IsSetOf}
use Rattle.dc_node.proofs.Rows.{length_rows, row_fact, row_of_rows}
use Rattle.dc_node.proofs.boxed.RowBox.set_at.Goals as goal

pub set_at-requires-clause-row : goal.set_at-requires-clause-row
set_at-requires-clause-row c =
    let box = c.deref.result.now in
    let same : rows_in_columns box c.self.inside.count ≡ c.args.self.now.items = ap (λ (b : Columns). rows_in_columns b c.self.inside.count) c.deref.ensures ∙ ap (λ (v : Items Row). v.items) c.self.view_is in
    let n = length_rows box c.self.inside.count in
    let e = ap length same in
    row_fact (IsRowOf c.args.h.now) box c.self.inside.count c.args.place (All-same (IsRowOf c.args.h.now) (rows_in_columns box c.self.inside.count) c.args.self.now.items same c.requires.rows) (omega (arith, n, e, c.requires.place))

pub returns-clause-set : goal.returns-clause-set
returns-clause-set c =
    let box = c.deref.result.now in
    let same : rows_in_columns box c.self.inside.count ≡ c.args.self.now.items = ap (λ (b : Columns). rows_in_columns b c.self.inside.count) c.deref.ensures ∙ ap (λ (v : Items Row). v.items) c.self.view_is in
    let n = length_rows box c.self.inside.count in
    let e = ap length same in
    let lt : c.args.place < c.self.inside.count = omega (arith, n, e, c.requires.place) in
    subst (λ o. IfSome o (λ (row : Row). IsSetOf c.args.h.now (row.at ∷ []) c.set_at.result)) (sym (ap (λ xs. slice_get xs c.args.place) (sym same) ∙ row_of_rows box c.self.inside.count c.args.place lt)) c.set_at.ensures.set
