use Rattle.std.proofs.Common.{◌<◌, length, arith}
use Rattle.dim_hierarchy.specs.{Dimension.tree, Row.concept_at}
use Rattle.dim_hierarchy.proofs.Ancestors.{up-IsConcept}
use Rattle.describing_set.proofs.{Membership.concept_is_one, Sets.part_at-above}
use Rattle.describing_set.proofs.plane.goes_left.Goals as goal

pub up-ancestor-requires-clause-level : goal.up-ancestor-requires-clause-level
up-ancestor-requires-clause-level c =
    let p = c.requires.plane in
    let lt : c.args.plane.now.dim < length c.args.h.now = omega (arith, p.plane_of.dim, p.valid.set_of.count) in
    rw (c.concept-id.ensures, p.plane_of.level) (part_at-above c.args.h.now p.set c.args.at.now c.args.plane.now.dim lt p.valid c.requires.at)

pub has-requires : goal.has-requires
has-requires c =
    let p = c.requires.plane in
    let dim = c.args.plane.now.dim in
    let lt : dim < length c.args.h.now = omega (arith, p.plane_of.dim, p.valid.set_of.count) in
    let t = tree c.args.h.now dim in
    let w = (p.valid.hierarchy.each dim lt).tree in
    rw (c.up-ancestor.ensures, c.concept-id.ensures)
    (concept_is_one t w _ (up-IsConcept t w (concept_at c.args.at.now dim) c.args.plane.now.level (c.requires.at.leaf dim lt).concept))
