use Rattle.std.proofs.{Common.{◌++◌, ◌∷◌, []}, lemmas.List.Elements.{All-push, All-same}}
use Rattle.std.specs.Prelude.{pos}
use Rattle.dim_hierarchy.specs.{Rows.IsRowOf, declared.row.Row.Row}
use Rattle.tree_tests.proofs.builds.add_row.Goals as goal

pub returns-clause-rows : goal.returns-clause-rows
returns-clause-rows c =
    let h = c.args.h.now in
    let rows = c.args.rows.now.items in
    let row : Row = record { no = c.args.no; at = c.in_ok-at.field-0; measures = pos 7 } in
    All-same (IsRowOf h) c.add.new.items.items (rows ++ row ∷ []) c.in_ok-add.ensures (All-push (IsRowOf h) rows row c.requires.rows c.in_ok-at.ensures)
