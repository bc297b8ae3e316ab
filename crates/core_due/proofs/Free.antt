-- The block that a step wants is free where nobody else carries a row there, as is tested.
use Rattle.std.proofs.{Common.{◌≡◌, ◌∙◌, ℕ, ◌<◌, Bool, true, false, Option, Some, None, not, refl, sym, ap, arith}, lemmas.Bool.{and_parts, ne_eqb}, lemmas.Grind.common_steps}
use Rattle.std.specs.{Option.{IfSome, option_map_or}, Prelude.{◌==◌, ◌||◌, option_and_then}}
use Rattle.core_due.specs.{Ready.IsFree, Wants.{is_block_free, is_carried_at, is_drained, meets, wanted, wanted_of}}
use Rattle.core_due.proofs.Below.{all_below-at}
use Rattle.core_steps.specs.volap_cell.proofs.Persons.{has-taken}
use Rattle.core_steps.specs.volap_cell.specs.{Errands.{IsCarried, RowWay, block_at, taken_by, taken_of, way_of}, Ghost.Ghost, Invariant.InvWith, Setting.{Setting, actor_count}, Values.ErrandValue, View.view, World.World, declared.kind.Kind.Kind}

other : (same at : Bool) → (same || not at) ≡ true → same ≡ false → at ≡ false
other same true e is = cc
other same false e is = refl

same-block : (at : Option ℕ) (y : ℕ) → option_map_or (λ block. block == y) at false ≡ false → at ≡ Some y → ⊥
same-block None y e at = cc
same-block (Some block) y e at = let is : block ≡ y = cc in grind (arith, common_steps)

nowhere : (y : ℕ) (carried : Option RowWay) → is_carried_at y carried ≡ false → ¬ IsCarried carried y
nowhere y None e at = at
nowhere y (Some r) e at = same-block (block_at r.place) y e at

none-or : (o : Option ℕ) (P : ℕ → Type 0) (test : ℕ → Bool) → ((y : ℕ) → test y ≡ true → P y) → option_map_or test o true ≡ true → IfSome o P
none-or None P test holds e = tt
none-or (Some y) P test holds e = holds y e

module _ (s : Setting) (w : World) (g : Ghost) (i : InvWith s (view s w) g) (n : ℕ) where
  there-if : (a y : ℕ) (o : Option ErrandValue) → (w.actors a).errand ≡ o → IsCarried (way_of o) y → a < actor_count s
  there-if a y None is keeps = absurd keeps
  there-if a y (Some e) is keeps = has-taken s (view s w) i.numbering a (taken_by e) (ap taken_of is)

  pub tested-free : (y : ℕ) → is_block_free s w n y ≡ true → IsFree w n y
  tested-free y free a differs keeps =
      nowhere y (way_of (w.actors a).errand)
      (other (a == n) (is_carried_at y (way_of (w.actors a).errand)) (all_below-at (actor_count s) (λ b. b == n || not (is_carried_at y (way_of (w.actors b).errand))) a free (there-if a y (w.actors a).errand refl keeps)) (ne_eqb a n differs))
      keeps

  -- where its kind can be made, what a step wants is free
  pub meets-free : (k : Kind) (block : Option ℕ) → wanted s w (w.actors n) k ≡ block → meets s w n k ≡ true → IfSome block (IsFree w n)
  meets-free k block wants meets_it =
      let free = (and_parts (option_map_or (is_block_free s w n) (wanted s w (w.actors n) k) true) (is_drained w (w.actors n).job) meets_it).0 in
      none-or block (IsFree w n) (is_block_free s w n) tested-free (ap (λ (o : Option ℕ). option_map_or (is_block_free s w n) o true) (sym wants) ∙ free)

-- what an actor at a part wants for a kind
pub wanted-at : (s : Setting) (w : World) (n : ℕ) (e : ErrandValue) (k : Kind) → (w.actors n).errand ≡ Some e → wanted s w (w.actors n) k ≡ wanted_of s w e k
wanted-at s w n e k errand = ap (option_and_then (λ (x : ErrandValue). wanted_of s w x k)) errand
