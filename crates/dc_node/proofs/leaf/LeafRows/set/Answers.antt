use Rattle.std.proofs.{Common.{◌∙◌, ap, sym}, lemmas.List.Elements.All-same}
use Rattle.arrayvec.specs.ArrayVec.{ArrayVec as Items}
use Rattle.dim_hierarchy.specs.{Rows.IsRowOf, declared.row.Row.Row}
use Rattle.dc_node.specs.Leaf.{rows_of}
use Rattle.dc_node.proofs.leaf.LeafRows.set.Goals as goal

pub set-requires : goal.set-requires
set-requires c =
    All-same (IsRowOf c.args.h.now) c.in-Some.rows.items c.args.self.now.items
    (ap rows_of (sym c.in-Some.is) ∙ ap (λ (v : Items Row). v.items) c.self.view_is) c.requires
