-- What holds of what is due, by cases: by a test that is known, and by where a part's shard is.
use Rattle.std.proofs.Common.{◌≡◌, ℕ, Bool, true, false, Option, Some, None, refl, subst}
use Rattle.std.specs.{Option.IfSome, Prelude.if◌then◌else◌}
use Rattle.core_due.specs.{Parts.due_at, declared.parts.PartDue.PartDue}
use Rattle.core_due.specs.declared.parts.PartDue.TheVariants.{Part}
use Rattle.core_steps.specs.declared.parts.PartStep.TheVariants.{Expand, Forward}
use Rattle.describing_set.specs.declared.plane.Plane.{Plane}
use Rattle.mapping_table.specs.declared.place.Where.{Where}
use Rattle.mapping_table.specs.declared.place.Where.TheVariants as where_is

-- what holds of what is due, of this, where this is due
pub of-some : {A : Type 0} (o : Option A) (P : A → Type 0) (x : A) → IfSome o P → o ≡ Some x → P x
of-some {A} o P x holds is = subst (λ (z : Option A). IfSome z P) is holds

pub either : {A : Type 0} (P : A → Type 0) (b : Bool) (x y : A) → (b ≡ true → P x) → (b ≡ false → P y) → P (if b then x else y)
either P true x y f g = f refl
either P false x y f g = g refl

pub led : (P : PartDue → Type 0) (map desk : ℕ) (at_gate : ℕ → PartDue) (from : Option Where) → ((gate : ℕ) → from ≡ Some (where_is.Gate gate) → P (at_gate gate))
    → ((plane : Plane) (left right : ℕ) → from ≡ Some (where_is.Split plane left right) → P (Part (Expand map desk))) → ((to : ℕ) → from ≡ Some (where_is.Moved to) → P (Part (Forward map desk)))
    → IfSome (due_at map desk from at_gate) P
led P map desk at_gate None here split moved = tt
led P map desk at_gate (Some (where_is.Gate gate)) here split moved = here gate refl
led P map desk at_gate (Some (where_is.Split plane left right)) here split moved = split plane left right refl
led P map desk at_gate (Some (where_is.Moved to)) here split moved = moved to refl
