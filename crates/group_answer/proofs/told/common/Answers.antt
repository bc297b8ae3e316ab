use Rattle.std.proofs.Common.{ℕ, List, ◌≡◌, ◌≤◌, ◌<◌, length, sym, ap, ◌∙◌, subst, arith}
use Rattle.dim_hierarchy.specs.Dimension.{tree}
use Rattle.describing_set.specs.{DescSet.part_at, declared.part.Part.Part}
use Rattle.group_answer.specs.{Groups.Question, Telling.{AreBelow, HaveOneAncestor}}
use Rattle.group_answer.proofs.Telling.{if-none, part-below}
use Rattle.group_answer.proofs.told.common.Goals as goal

pub ancestor_of-requires-clause-below : goal.ancestor_of-requires-clause-below
ancestor_of-requires-clause-below c =
    let q = c.args.asked.now in
    let items : c.as_slice.result.now ≡ (part_at c.args.set.now q.dim).ids.items = c.as_slice.ensures.value ∙ ap (λ (p : Part). p.ids.items) c.requires.part in
    let le : q.level ≤ (part_at c.args.set.now q.dim).level = omega (arith, c.if-part-asked.false, ap (λ (x : Question). x.level) c.asked.view_is, ap (λ (p : Part). p.level) c.requires.part) in
    subst (λ (x : Question). AreBelow (tree x.hierarchy x.dim) x.level c.as_slice.result.now) (sym c.asked.view_is)
    (subst (λ (ids : List ℕ). AreBelow (tree q.hierarchy q.dim) q.level ids) (sym items) (part-below q c.requires.question c.args.set.now c.requires.set le))

pub returns-clause-none : goal.returns-clause-none
returns-clause-none c =
    let q = c.args.asked.now in
    let items : c.as_slice.result.now ≡ (part_at c.args.set.now q.dim).ids.items = c.as_slice.ensures.value ∙ ap (λ (p : Part). p.ids.items) c.requires.part in
    if-none c.ancestor_of.result
    (λ never some all narrow. never (subst (λ (ids : List ℕ). 0 < length ids) (sym c.as_slice.ensures.value) some)
    (subst (λ (x : Question). HaveOneAncestor (tree x.hierarchy x.dim) x.level c.as_slice.result.now) (sym c.asked.view_is)
    (subst (λ (ids : List ℕ). HaveOneAncestor (tree q.hierarchy q.dim) q.level ids) (sym items) narrow.one)))
    c.ancestor_of.ensures.none
