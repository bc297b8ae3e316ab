use Rattle.std.proofs.{Common.{ℕ, ◌≡◌, All, sym, ap, subst, ◌∙◌, eqb-true}, lemmas.List.take_all, lemmas.List.Elements.All-more}
use Rattle.dim_hierarchy.specs.{Dimension.tree, Tree.up}
use Rattle.group_answer.proofs.Steps.{not-back}
use Rattle.group_answer.proofs.told.ancestor_of.Goals as goal

pub loop-id-preserved : goal.loop-id-preserved
loop-id-preserved c =
    let t = tree c.args.h.now c.args.dim in
    All-more (λ (x : ℕ). up t x c.args.level ≡ c.up-ancestor.result) c.args.ids.now c.loop-id.id-index c.id-item.result c.loop-id-test.true c.loop-id.invariant
    (ap (λ (x : ℕ). up t x c.args.level) (sym c.id-item.is) ∙ sym c.up.ensures ∙ eqb-true c.up.result c.up-ancestor.result (not-back _ c.if-ne.ensures))

pub returns-clause-some : goal.returns-clause-some
returns-clause-some c =
    subst (All (λ (x : ℕ). up (tree c.args.h.now c.args.dim) x c.args.level ≡ c.up-ancestor.result)) (take_all c.loop-id.id-index c.args.ids.now c.loop-id-test.false) c.loop-id.invariant
