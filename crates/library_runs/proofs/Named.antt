-- What the search for a row's coordinate tells of its names.
use Rattle.std.proofs.{Common.{ℕ, ◌≡◌, ◌∙◌, refl, sym, subst, true}, lemmas.Bool.{false≢true}}
use Rattle.std.specs.{Prelude.{Option, Some, None, Ok, Err, IfSome, IfNone, IsOk, is_ok}, declared.result.Result.Result}

-- where there is a coordinate, all names are known
pub all-known : {X : Type 0} (first : Option ℕ) (found : Result X ℕ) (at : X) → found ≡ Ok at → IfSome first (λ dim. found ≡ Err dim) → None ≡ first
all-known None found at is unknown = refl
all-known {X} (Some dim) found at is unknown = let both : Ok at ≡ Err dim = sym is ∙ unknown in absurd cc

-- where there is none, the first name that is not known is in this dimension
pub one-unknown : {X : Type 0} (first : Option ℕ) (found : Result X ℕ) (dim : ℕ) → found ≡ Err dim → IfSome first (λ d. found ≡ Err d) → IfNone first (IsOk found) → Some dim ≡ first
one-unknown {X} None found dim is unknown known = absurd (false≢true (subst (λ (r : Result X ℕ). is_ok r ≡ true) is known))
one-unknown (Some d) found dim is unknown known = let both : Err dim ≡ Err d = sym is ∙ unknown in cc
