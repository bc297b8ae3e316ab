use Rattle.std.proofs.Common.{◌≡◌, length, arith}
use Rattle.dim_hierarchy.proofs.Ancestry.{AreFirstLineages-more, AreLineagesAt-all}
use Rattle.dim_hierarchy.proofs.hierarchy.Hierarchy.lineages.Goals as goal

pub loop-dim-preserved : goal.loop-dim-preserved
loop-dim-preserved c =
    AreFirstLineages-more c.args.self.now c.args.at.now c.loop-dim.dim c.from.result c.concept.result c.table.result.now c.loop-dim.lineages c.lineage.result c.requires c.loop-dim.invariant (omega arith) c.from.ensures c.table.ensures.value c.concept.ensures
    (record { long = c.lineage.ensures.long; ancestors = c.lineage.ensures.ancestors })

pub invariant_of-result : goal.invariant_of-result
invariant_of-result c =
    let all : c.loop-dim.dim ≡ length c.args.self.now = omega arith in
    rw (c.of.ensures, c.of-2.ensures) (AreLineagesAt-all c.args.self.now c.args.at.now c.loop-dim.dim c.loop-dim.lineages c.requires all c.loop-dim.invariant)
