-- Measures that are handed on to another call.
use Rattle.std.proofs.{Common.{ℤ, subst, of_z, to_z, w64}, lemmas.Int.to_z-of_z}
use mir.Val.{SFits}

-- what that call tells of them
pub measured : (P : ℤ → Type 0) (measures : ℤ) → SFits w64 measures → P (to_z w64 (of_z w64 measures)) → P measures
measured P measures fits = subst P (to_z-of_z w64 measures fits)
