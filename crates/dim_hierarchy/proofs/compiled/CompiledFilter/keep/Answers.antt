use Rattle.std.proofs.Common.{◌<◌, ◌∙◌, ap, sym, subst, get_or, length, filter}
use Rattle.std.specs.Prelude.{All}
use Rattle.dim_hierarchy.specs.{Column.is_marked, Compiled.AreDimMarks, Concept.number_of, Dimension.tree, FewMarks.AreFewMarks, Filter.pick_at}
use Rattle.dim_hierarchy.proofs.{Compiling.{leaves_some, leaves_within, leaves_kept, kept_if_all}, FewMarking.{leaves_have, few_kept}}
use Rattle.dim_hierarchy.proofs.compiled.CompiledFilter.keep.Goals as goal

pub leaves-requires : goal.leaves-requires
leaves-requires c =
    let v = c.args.self.now in
    let full = subst (AreDimMarks (tree v.hierarchy c.args.dim) (pick_at v.picks c.args.dim)) c.in-Full.is c.marks.ensures.marks in
    leaves_some (tree v.hierarchy c.args.dim) (pick_at v.picks c.args.dim) c.in-Full.marks (c.marks.ensures.valid.hierarchy.each c.args.dim c.requires.dim).tree.some full

pub keep-requires : goal.keep-requires
keep-requires c =
    let v = c.args.self.now in
    let full = subst (AreDimMarks (tree v.hierarchy c.args.dim) (pick_at v.picks c.args.dim)) c.in-Full.is c.marks.ensures.marks in
    let t = tree v.hierarchy c.args.dim in
    let p = pick_at v.picks c.args.dim in
    let some = leaves_some t p c.in-Full.marks (c.marks.ensures.valid.hierarchy.each c.args.dim c.requires.dim).tree.some full in
    subst (λ m. All (λ place. number_of (get_or c.args.column.now place 0) < length m) c.args.places.now) (sym c.leaves.ensures)
    (leaves_within t p c.args.column.now c.args.places.now c.in-Full.marks full some c.requires.leaves)

pub returns-in-Full : goal.returns-in-Full
returns-in-Full c =
    let v = c.args.self.now in
    let full = subst (AreDimMarks (tree v.hierarchy c.args.dim) (pick_at v.picks c.args.dim)) c.in-Full.is c.marks.ensures.marks in
    let t = tree v.hierarchy c.args.dim in
    let p = pick_at v.picks c.args.dim in
    let some = leaves_some t p c.in-Full.marks (c.marks.ensures.valid.hierarchy.each c.args.dim c.requires.dim).tree.some full in
    c.keep.ensures ∙ ap (λ m. filter (is_marked c.args.column.now m) c.args.places.now) c.leaves.ensures
    ∙ leaves_kept t p c.args.column.now c.args.places.now c.in-Full.marks full some c.requires.leaves

pub returns-in-All : goal.returns-in-All
returns-in-All c =
    let v = c.args.self.now in
    let all = subst (AreDimMarks (tree v.hierarchy c.args.dim) (pick_at v.picks c.args.dim)) c.in-All.is c.marks.ensures.marks in
    sym (kept_if_all (tree v.hierarchy c.args.dim) (pick_at v.picks c.args.dim) c.args.column.now c.args.places.now all)

pub keep-requires-in-Few : goal.keep-requires-in-Few
keep-requires-in-Few c =
    let v = c.args.self.now in
    let t = tree v.hierarchy c.args.dim in
    let p = pick_at v.picks c.args.dim in
    let few = subst (AreFewMarks t p) (sym c.deref.ensures) (subst (AreDimMarks t p) c.in-Few.is c.marks.ensures.marks) in
    leaves_have t (c.marks.ensures.valid.hierarchy.each c.args.dim c.requires.dim).tree p c.deref.result.now few c.args.column.now c.args.places.now c.requires.leaves

pub returns-in-Few : goal.returns-in-Few
returns-in-Few c =
    let v = c.args.self.now in
    let t = tree v.hierarchy c.args.dim in
    let p = pick_at v.picks c.args.dim in
    let few = subst (AreFewMarks t p) (sym c.deref.ensures) (subst (AreDimMarks t p) c.in-Few.is c.marks.ensures.marks) in
    c.keep-in-Few.ensures ∙ few_kept t (c.marks.ensures.valid.hierarchy.each c.args.dim c.requires.dim).tree p c.deref.result.now few c.args.column.now c.args.places.now c.requires.leaves
