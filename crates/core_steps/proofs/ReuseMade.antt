-- A cell that is used again: what its kind made is what the step made, with the step and its cells at hand.
use Rattle.std.proofs.Common.{ℕ, ◌≡◌, List, ◌∷◌, Option, Some, [], sym, subst}
use Rattle.core_steps.specs.{Places.held, Reuses.reuse_places, Steps.Went, declared.reuses.ReuseStep.ReuseStep, declared.step.Others.Others}
use Rattle.dim_hierarchy.specs.Dimension.{Dimension}
use Rattle.core_shard.specs.volap_cell.specs.{Setting.Setting, Values.ActorValue, World.World, declared.cell.Cell.Cell, declared.kind.Kind.TheVariants.Reuse}

module _ {h : List Dimension} {Sees : Setting → World → ℕ → Type 0} {step : ReuseStep} (is : ReuseStep) (same : step ≡ is) {first second : Option Cell} {p q : Cell} (one : first ≡ Some p) (two : second ≡ Some q) (o : Others)
    (now : List (Option Cell)) (a b : ActorValue) where
  -- the gate's own
  pub two-went : Went h Reuse Sees (reuse_places is) (held (Some p) (Some q) o) now a b → Went h Reuse Sees (reuse_places step) (held first second o) now a b
  two-went went = subst (λ (s : ReuseStep). Went h Reuse Sees (reuse_places s) (held first second o) now a b) (sym same)
      (subst (λ (c : Option Cell). Went h Reuse Sees (reuse_places is) (held c second o) now a b) (sym one)
      (subst (λ (c : Option Cell). Went h Reuse Sees (reuse_places is) (held (Some p) c o) now a b) (sym two) went))

  -- a block's
  pub three-went : {u : Cell} → o.third ≡ Some u → Went h Reuse Sees (reuse_places is) (Some p ∷ Some q ∷ Some u ∷ o.fourth ∷ o.fifth ∷ o.sixth ∷ o.seventh ∷ []) now a b → Went h Reuse Sees (reuse_places step) (held first second o) now a b
  three-went three went = two-went (subst (λ (c : Option Cell). Went h Reuse Sees (reuse_places is) (Some p ∷ Some q ∷ c ∷ o.fourth ∷ o.fifth ∷ o.sixth ∷ o.seventh ∷ []) now a b) (sym three) went)
