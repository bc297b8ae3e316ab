use Rattle.std.proofs.{Common.{arith, ◌≤◌, ◌<◌, ap, ◌∙◌}, lemmas.Bool.lt-leb}
use Rattle.dim_hierarchy.specs.{Concept.level_of, Tree.up}
use Rattle.dim_hierarchy.proofs.Ancestors.{is_under-at, is_under-below}
use Rattle.dim_hierarchy.proofs.dimension.DimensionTable.is_under.Goals as goal

pub returns-then-level : goal.returns-then-level
returns-then-level c =
    let le : level_of c.args.top ≤ level_of c.args.id = omega arith in
    let e = ap (λ l. up c.args.self.now.tree c.args.id l) c.level-then-level.ensures.value in
    is_under-at c.args.self.now.tree c.requires.tree c.args.id c.args.top c.up.result c.eq.result c.requires.concept le (c.up.ensures ∙ e) c.eq.ensures

pub returns-else-level : goal.returns-else-level
returns-else-level c =
    let lt : level_of c.args.id < level_of c.args.top = omega arith in
    is_under-below c.args.self.now.tree c.requires.tree c.args.id c.args.top _ c.requires.concept lt (lt-leb _ _ c.if-level.false)
