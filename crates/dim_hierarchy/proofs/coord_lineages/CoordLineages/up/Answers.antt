use Rattle.std.proofs.Common.{◌<◌, ◌≤◌, ◌∙◌, length, ap, subst, sym}
use Rattle.dim_hierarchy.specs.{CoordLineages.CoordOf, Dimension.tree, Row.concept_at, Tree.{up, leaf_level}}
use Rattle.dim_hierarchy.proofs.Ancestry.{ancestor-read}
use Rattle.dim_hierarchy.proofs.coord_lineages.CoordLineages.up.Goals as goal

pub returns-clause-value : goal.returns-clause-value
returns-clause-value c =
    let i = c.self.inside in
    let seen = c.self.view_is in
    ancestor-read i.hierarchy.value i.coord.value i.lineages c.from.result c.from-2.result c.args.dim c.args.level c.index-lineage-from.result c.self.invariant
    (subst (λ (v : CoordOf). c.args.dim < length v.hierarchy) (sym seen) c.requires.dim)
    (subst (λ (v : CoordOf). c.args.level ≤ leaf_level (tree v.hierarchy c.args.dim)) (sym seen) c.requires.level) c.from.ensures c.from-2.ensures
    ∙ ap (λ (v : CoordOf). up (tree v.hierarchy c.args.dim) (concept_at v.coord c.args.dim) c.args.level) seen
