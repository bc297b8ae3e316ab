use Rattle.std.proofs.Common.{◌<◌, ◌∙◌, ap, sym, subst, get_or, length}
use Rattle.std.specs.{List.list_any, Prelude.{All, nat_lt, not}}
use Rattle.dim_hierarchy.specs.{Compiled.AreDimMarks, Concept.number_of, Dimension.tree, FewMarks.AreFewMarks, Filter.pick_at}
use Rattle.dim_hierarchy.proofs.{Compiling.{numbers_within, any_related, any_if_all}, FewMarking.{have_lineages, few_related}}
use Rattle.dim_hierarchy.proofs.compiled.CompiledFilter.meets_any.Goals as goal

pub is_any_related-requires : goal.is_any_related-requires
is_any_related-requires c =
    let v = c.args.self.now in
    let full = subst (AreDimMarks (tree v.hierarchy c.args.dim) (pick_at v.picks c.args.dim)) c.in-Full.is c.marks.ensures.marks in
    subst (λ m. All (λ id. number_of id < length m) c.args.ids.now) (sym c.level.ensures)
    (numbers_within (tree v.hierarchy c.args.dim) (pick_at v.picks c.args.dim) c.args.level c.args.ids.now c.in-Full.marks full c.requires.level c.requires.concepts)

pub returns-in-Full : goal.returns-in-Full
returns-in-Full c =
    let v = c.args.self.now in
    let full = subst (AreDimMarks (tree v.hierarchy c.args.dim) (pick_at v.picks c.args.dim)) c.in-Full.is c.marks.ensures.marks in
    c.is_any_related.ensures ∙ ap (λ m. list_any (λ id. nat_lt 0 (get_or m (number_of id) 0)) c.args.ids.now) c.level.ensures
    ∙ any_related (tree v.hierarchy c.args.dim) (pick_at v.picks c.args.dim) c.args.level c.args.ids.now c.in-Full.marks full c.requires.level c.requires.concepts

pub returns-in-All : goal.returns-in-All
returns-in-All c =
    let v = c.args.self.now in
    let all = subst (AreDimMarks (tree v.hierarchy c.args.dim) (pick_at v.picks c.args.dim)) c.in-All.is c.marks.ensures.marks in
    ap not c.is_empty.ensures ∙ sym (any_if_all (tree v.hierarchy c.args.dim) (pick_at v.picks c.args.dim) c.args.ids.now all)

pub is_any_related-requires-in-Few : goal.is_any_related-requires-in-Few
is_any_related-requires-in-Few c =
    let v = c.args.self.now in
    let t = tree v.hierarchy c.args.dim in
    let p = pick_at v.picks c.args.dim in
    let few = subst (AreFewMarks t p) (sym c.deref.ensures) (subst (AreDimMarks t p) c.in-Few.is c.marks.ensures.marks) in
    have_lineages t (c.marks.ensures.valid.hierarchy.each c.args.dim c.requires.dim).tree p c.deref.result.now few c.args.level c.args.ids.now c.requires.concepts

pub returns-in-Few : goal.returns-in-Few
returns-in-Few c =
    let v = c.args.self.now in
    let t = tree v.hierarchy c.args.dim in
    let p = pick_at v.picks c.args.dim in
    let few = subst (AreFewMarks t p) (sym c.deref.ensures) (subst (AreDimMarks t p) c.in-Few.is c.marks.ensures.marks) in
    c.is_any_related-in-Few.ensures ∙ few_related t (c.marks.ensures.valid.hierarchy.each c.args.dim c.requires.dim).tree p c.deref.result.now few c.args.level c.args.ids.now c.requires.concepts
