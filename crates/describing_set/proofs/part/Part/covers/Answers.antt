use Rattle.std.proofs.Common.{List, length, ◌<◌, ◌≤◌, ◌∙◌, ap, sym, subst}
use Rattle.dim_hierarchy.specs.{Dimension.{Dimension, tree}, Row.concept_at, Tree.leaf_level}
use Rattle.dim_hierarchy.proofs.Ancestors.{up-IsConcept}
use Rattle.describing_set.specs.Part.{has_ancestor}
use Rattle.describing_set.proofs.Membership.{concept_is_one}
use Rattle.describing_set.proofs.part.Part.covers.Goals as goal

pub up-requires-clause-dim : goal.up-requires-clause-dim
up-requires-clause-dim c = subst (λ (h : List Dimension). c.args.dim < length h) (sym c.requires.at) c.requires.dim

pub up-requires-clause-level : goal.up-requires-clause-level
up-requires-clause-level c = subst (λ (h : List Dimension). c.args.self.now.level ≤ leaf_level (tree h c.args.dim)) (sym c.requires.at) c.requires.level

pub has-requires : goal.has-requires
has-requires c =
    let h = c.args.at.now.hierarchy in
    let t = tree h c.args.dim in
    let valid = c.up.ensures.valid in
    let lt = subst (λ (h : List Dimension). c.args.dim < length h) (sym c.requires.at) c.requires.dim in
    let w = (valid.hierarchy.each c.args.dim lt).tree in
    rw c.up.ensures.value (concept_is_one t w _ (up-IsConcept t w (concept_at c.args.at.now.coord c.args.dim) c.args.self.now.level (valid.leaf c.args.dim lt).concept))

pub returns : goal.returns
returns c = rw c.up.ensures.value at c.has.ensures.test ∙ ap (λ (h : List Dimension). has_ancestor (tree h c.args.dim) c.args.self.now (concept_at c.args.at.now.coord c.args.dim)) c.requires.at
