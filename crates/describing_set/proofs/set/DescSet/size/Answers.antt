use Rattle.std.proofs.Common.{◌≡◌, ◌+◌, ◌-◌, ◌*◌, length, refl, sym, ap, ◌∙◌, arith}
use Rattle.dim_hierarchy.specs.{Dimension.tree, Tree.leaf_level}
use Rattle.describing_set.specs.Sets.{size_at}
use Rattle.describing_set.proofs.Covering.{IsSumBelow-next}
use Rattle.describing_set.proofs.set.DescSet.size.Goals as goal

pub loop-dim-preserved : goal.loop-dim-preserved
loop-dim-preserved c =
    let t = tree c.args.h.now c.loop-dim.dim in
    let p = c.part-part.result.now in
    let read : 8 * (leaf_level t - p.level) + length p.ids.items ≡ 8 * c.from.result + c.len.result = omega (arith, c.from.ensures, c.levels.ensures, c.len.ensures.value) in
    let here : size_at c.args.h.now c.args.self.now c.loop-dim.dim ≡ 8 * c.from.result + c.len.result =
    ap (λ q. 8 * (leaf_level t - q.level) + length q.ids.items) (sym c.part-part.ensures.value) ∙ read in
    (IsSumBelow-next (size_at c.args.h.now c.args.self.now) c.loop-dim.dim c.loop-dim.size (8 * c.from.result + c.len.result) _ c.loop-dim.invariant.0 here refl, omega (arith, c.loop-dim.invariant.1, c.from.ensures, c.levels.type_inv, c.len.ensures.few))
