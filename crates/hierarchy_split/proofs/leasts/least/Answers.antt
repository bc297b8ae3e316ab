use Rattle.std.proofs.Common.{ℕ, ◌+◌, ◌<◌, min, length, get_or, ap, subst, ◌∙◌, arith, inl, inr}
use Rattle.dim_hierarchy.specs.{Concept.level_of, Dimension.tree, Tree.up}
use Rattle.describing_set.specs.DescSet.{part_at}
use Rattle.hierarchy_split.proofs.{Lifts.{rest_read, min_read, least_more}, leasts.least.Goals.{then-lt, else-lt}}
use Rattle.hierarchy_split.proofs.leasts.least.Goals as goal

pub up-ancestor-requires-clause-level : goal.up-ancestor-requires-clause-level
up-ancestor-requires-clause-level c =
    let at = c.loop-id.id-index + 1 in
    let r = rest_read c.as_slice-ids.result.now c.loop-id.id-index c.id-item.result 0 c.loop-id-test.true c.id-item.is in
    let lt = subst (λ l. at < length l) c.as_slice-ids.ensures.value r.0 in
    let read = r.1 ∙ ap (λ l. get_or l at 0) c.as_slice-ids.ensures.value in
    let level = ap level_of read ∙ c.part.ensures.level at 0 lt ∙ ap (λ p. p.level) c.part.ensures.value in
    omega (arith, level, c.requires.level)

pub loop-id-preserved : goal.loop-id-preserved
loop-id-preserved c =
    let at = c.loop-id.id-index + 1 in
    let f = λ (id : ℕ). up (tree c.args.h.now c.args.dim) id c.args.level in
    let xs = (part_at c.args.set.now c.args.dim).ids.items in
    let same = c.as_slice-ids.ensures.value ∙ ap (λ p. p.ids.items) c.part.ensures.value in
    let r = rest_read c.as_slice-ids.result.now c.loop-id.id-index c.id-item.result 0 c.loop-id-test.true c.id-item.is in
    let lt = subst (λ l. at < length l) same r.0 in
    let read = r.1 ∙ ap (λ l. get_or l at 0) same in
    let now = min_read c.up-ancestor.result c.loop-id.least c.if-lt.least c.lt.result c.lt.ensures (elim c.if-lt.branch [ then-lt w ↦ inl (w.if-lt.true, w.least-is) | else-lt w ↦ inr (w.if-lt.false, w.least-is) ]) in
    least_more f xs c.loop-id.id-index c.id-item.result c.loop-id.least c.if-lt.least lt read c.loop-id.invariant (now ∙ ap (λ v. min c.loop-id.least v) c.up-ancestor.ensures)
