use Rattle.std.proofs.{Common.{◌∙◌, ap, sym, length, arith, refl}, lemmas.List.Elements.All-same, lemmas.List.Filters.length-filter_both}
use Rattle.std.specs.Prelude.{not}
use Rattle.arrayvec.specs.ArrayVec.{ArrayVec as Items}
use Rattle.dim_hierarchy.specs.{Filter.matches, Rows.IsRowOf, declared.row.Row.Row}
use Rattle.dc_node.specs.Leaf.{rows_of}
use Rattle.dc_node.proofs.leaf.LeafRows.matching.Goals as goal

pub matching-requires : goal.matching-requires
matching-requires c =
    All-same (IsRowOf c.args.wanted.now.hierarchy) c.in-Some.rows.items c.args.self.now.items
    (ap rows_of (sym c.in-Some.is) ∙ ap (λ (v : Items Row). v.items) c.self.view_is) c.requires

pub returns-in-Some-clause-few : goal.returns-in-Some-clause-few
returns-in-Some-clause-few c =
    let test = λ (r : Row). matches c.args.wanted.now.hierarchy c.args.wanted.now.picks r.at in
    let few = length-filter_both test (λ r. not (test r)) (λ r. refl) c.in-Some.rows.items in
    let same = ap length (ap rows_of (sym c.in-Some.is) ∙ ap (λ (v : Items Row). v.items) c.self.view_is) in
    omega (arith, few, same, ap (λ a. a.count) c.matching.ensures)
