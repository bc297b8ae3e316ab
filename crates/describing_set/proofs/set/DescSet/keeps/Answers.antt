use Rattle.std.proofs.{Common.{ℕ, ◌≡◌, ◌<◌, ◌≤◌, length, arith, refl, sym, subst, inl, inr}, lemmas.Bool.cases_lt}
use Rattle.dim_hierarchy.specs.{Concept.level_of, Dimension.tree, Row.concept_at}
use Rattle.describing_set.specs.{DescSet.part_at, Parts.GrowsPart, declared.part.Part.Part}
use Rattle.describing_set.proofs.Sets.{part_at-above, grown_set}
use Rattle.describing_set.proofs.set.DescSet.keeps.Goals as goal

pub has_ancestor-requires-clause-level : goal.has_ancestor-requires-clause-level
has_ancestor-requires-clause-level c =
    let lt : c.loop-dim.dim < length c.args.h.now = omega (arith, c.loop-dim-test.true, c.dims-dim-end.ensures.value) in
    rw c.concept.ensures
    (subst (λ (p : Part). p.level ≤ level_of (concept_at c.args.at.now c.loop-dim.dim)) (sym c.part.ensures.value) (part_at-above c.args.h.now c.args.self.now c.args.at.now c.loop-dim.dim lt c.requires.set c.requires.at))

pub loop-dim-preserved : goal.loop-dim-preserved
loop-dim-preserved c =
    let h = c.args.h.now in
    let at = c.args.at.now in
    let set = c.args.self.now in
    let dim = c.loop-dim.dim in
    let part = c.part.result.now in
    let here : GrowsPart (tree h dim) (concept_at at dim) (part_at set dim) (part_at set dim) =
    subst (λ (p : Part). GrowsPart (tree h dim) (concept_at at dim) p p) c.part.ensures.value
    (subst (λ (x : ℕ). GrowsPart (tree h dim) x part part) c.concept.ensures c.if-not-has_ancestor.ensures.kept) in
    λ k lt. elim (cases_lt k dim) [
      | inl b ↦ c.loop-dim.invariant k b
      | inr b ↦
          let is : dim ≡ k = omega arith in
          subst (λ (j : ℕ). GrowsPart (tree h j) (concept_at at j) (part_at set j) (part_at set j)) is here
    ]

pub returns : goal.returns
returns c =
    grown_set c.args.h.now c.args.at.now c.args.self.now c.args.self.now refl
    (λ j lt. c.loop-dim.invariant j (omega (arith, lt, c.loop-dim-test.false, c.dims-dim-end.ensures.value)))
