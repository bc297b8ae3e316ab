use Rattle.std.proofs.Common.{◌<◌, ◌∙◌, ap, sym, subst, get_or, length}
use Rattle.std.specs.{List.list_all, Prelude.{All, ◌==◌}}
use Rattle.dim_hierarchy.specs.{Compiled.AreDimMarks, Concept.number_of, Dimension.tree, FewMarks.AreFewMarks, Filter.pick_at}
use Rattle.dim_hierarchy.proofs.{Compiling.{numbers_within, all_under, all_if_all}, FewMarking.{have_lineages, few_under}}
use Rattle.dim_hierarchy.proofs.compiled.CompiledFilter.has_all.Goals as goal

pub are_under-requires : goal.are_under-requires
are_under-requires c =
    let v = c.args.self.now in
    let full = subst (AreDimMarks (tree v.hierarchy c.args.dim) (pick_at v.picks c.args.dim)) c.in-Full.is c.marks.ensures.marks in
    subst (λ m. All (λ id. number_of id < length m) c.args.ids.now) (sym c.level.ensures)
    (numbers_within (tree v.hierarchy c.args.dim) (pick_at v.picks c.args.dim) c.args.level c.args.ids.now c.in-Full.marks full c.requires.level c.requires.concepts)

pub returns-in-Full : goal.returns-in-Full
returns-in-Full c =
    let v = c.args.self.now in
    let full = subst (AreDimMarks (tree v.hierarchy c.args.dim) (pick_at v.picks c.args.dim)) c.in-Full.is c.marks.ensures.marks in
    c.are_under.ensures ∙ ap (λ m. list_all (λ id. get_or m (number_of id) 0 == 2) c.args.ids.now) c.level.ensures
    ∙ all_under (tree v.hierarchy c.args.dim) (pick_at v.picks c.args.dim) c.args.level c.args.ids.now c.in-Full.marks full c.requires.level c.requires.concepts

pub returns-in-All : goal.returns-in-All
returns-in-All c =
    let v = c.args.self.now in
    let all = subst (AreDimMarks (tree v.hierarchy c.args.dim) (pick_at v.picks c.args.dim)) c.in-All.is c.marks.ensures.marks in
    sym (all_if_all (tree v.hierarchy c.args.dim) (pick_at v.picks c.args.dim) c.args.ids.now all)

pub are_under-requires-in-Few : goal.are_under-requires-in-Few
are_under-requires-in-Few c =
    let v = c.args.self.now in
    let t = tree v.hierarchy c.args.dim in
    let p = pick_at v.picks c.args.dim in
    let few = subst (AreFewMarks t p) (sym c.deref.ensures) (subst (AreDimMarks t p) c.in-Few.is c.marks.ensures.marks) in
    have_lineages t (c.marks.ensures.valid.hierarchy.each c.args.dim c.requires.dim).tree p c.deref.result.now few c.args.level c.args.ids.now c.requires.concepts

pub returns-in-Few : goal.returns-in-Few
returns-in-Few c =
    let v = c.args.self.now in
    let t = tree v.hierarchy c.args.dim in
    let p = pick_at v.picks c.args.dim in
    let few = subst (AreFewMarks t p) (sym c.deref.ensures) (subst (AreDimMarks t p) c.in-Few.is c.marks.ensures.marks) in
    c.are_under-in-Few.ensures ∙ few_under t (c.marks.ensures.valid.hierarchy.each c.args.dim c.requires.dim).tree p c.deref.result.now few c.args.level c.args.ids.now c.requires.concepts
