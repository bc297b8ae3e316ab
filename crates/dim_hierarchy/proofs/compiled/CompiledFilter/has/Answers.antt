use Rattle.std.proofs.Common.{◌∙◌, ap, sym, subst}
use Rattle.std.specs.Prelude.{◌==◌}
use Rattle.dim_hierarchy.specs.{Compiled.AreDimMarks, Dimension.tree, FewMarks.AreFewMarks, Filter.pick_at}
use Rattle.dim_hierarchy.proofs.{FewMarking.{HasLineage-of, few_mark-is}, Marking.mark_under}
use Rattle.dim_hierarchy.proofs.compiled.CompiledFilter.has.Goals as goal

pub mark-requires-in-Few : goal.mark-requires-in-Few
mark-requires-in-Few c =
    let v = c.args.self.now in
    let t = tree v.hierarchy c.args.dim in
    let p = pick_at v.picks c.args.dim in
    let few = subst (AreFewMarks t p) (sym c.deref.ensures) (subst (AreDimMarks t p) c.in-Few.is c.marks.ensures.marks) in
    HasLineage-of t (c.marks.ensures.valid.hierarchy.each c.args.dim c.requires.dim).tree p c.deref.result.now few c.args.id c.requires.concept

pub returns-in-Few : goal.returns-in-Few
returns-in-Few c =
    let v = c.args.self.now in
    let t = tree v.hierarchy c.args.dim in
    let p = pick_at v.picks c.args.dim in
    let few = subst (AreFewMarks t p) (sym c.deref.ensures) (subst (AreDimMarks t p) c.in-Few.is c.marks.ensures.marks) in
    ap (λ m. m == 2) (c.mark-in-Few.ensures ∙ few_mark-is t (c.marks.ensures.valid.hierarchy.each c.args.dim c.requires.dim).tree p c.deref.result.now few c.args.id c.requires.concept)
    ∙ mark_under t p c.args.id
