-- Truth values, and tests of numbers.
use Rattle.std.proofs.{Common.{◌≡◌, ℕ, Bool, true, false, eqb, refl}, lemmas.Bool.eq-eqb}

-- by cases of a truth value, where the case is known as an equation
pub on_bool : {P : Type 0} → (b : Bool) → (b ≡ true → P) → (b ≡ false → P) → P
on_bool true f g = f refl
on_bool false f g = g refl

pub eqb-self : (a : ℕ) → eqb a a ≡ true
eqb-self a = eq-eqb a a refl
