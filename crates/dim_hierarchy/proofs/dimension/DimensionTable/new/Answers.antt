use Rattle.std.proofs.Common.{List, ℕ, [], refl, sym, ap, subst, ◌∙◌, set}
use Rattle.std.specs.Prelude.{replicate}
use Rattle.dim_hierarchy.specs.Lineage.{AreLineagesOf}
use Rattle.dim_hierarchy.proofs.Lineages.{AreLineagesOf-new}
use Rattle.dim_hierarchy.proofs.dimension.DimensionTable.new.Goals as goal

pub invariant_of-result : goal.invariant_of-result
invariant_of-result c =
    let top = c.in_ok-vec-2.field-0.items in
    subst (AreLineagesOf c.loop.all.items)
    (sym (c.in_ok-new.ensures.ok ∙ ap (λ (l : List (List (List ℕ))). set l 0 top) c.none-lineages.ensures ∙ ap (λ (l : List (List ℕ)). set (replicate 9 []) 0 l) c.in_ok-vec-2.ensures.items))
    (rw c.loop.invariant (AreLineagesOf-new c.loop.counter (replicate 9 0) refl refl))
