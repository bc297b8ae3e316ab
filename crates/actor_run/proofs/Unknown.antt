-- Names that are not known, first in a dimension.
use Rattle.std.proofs.Common.{◌≡◌, ◌∙◌, ℕ, Option, Some, None, Result, Ok, Err, IfNone, IfSome, IsOk, IsOkUnless, is_ok, false, true, sym, ap, subst}
use Rattle.dim_hierarchy.specs.declared.hierarchy.FilterFault.{FilterFault}
use Rattle.dim_hierarchy.specs.declared.hierarchy.FilterFault.TheVariants.{NoMemory, Unknown}

-- an answer has one fault
same-err : {T E : Type 0} (r : Result T E) (a b : E) → r ≡ Err a → r ≡ Err b → a ≡ b
same-err (Ok x) a b p q = absurd (cc)
same-err (Err e) a b p q = cc

pub unknown-coord : {T : Type 0} (at : Option ℕ) (r : Result T ℕ) (dim : ℕ) → r ≡ Err dim → IfSome at (λ d. r ≡ Err d) → IfNone at (IsOk r) → at ≡ Some dim
unknown-coord {T} (Some d) r dim is some none = ap (λ (k : ℕ). Some k) (same-err r d dim some is)
unknown-coord {T} None r dim is some none = absurd (let never : false ≡ true = ap is_ok (sym is) ∙ none in cc)

pub unknown-filter : {T : Type 0} (at : Option ℕ) (r : Result T FilterFault) (dim : ℕ) → r ≡ Err (Unknown dim) → IfSome at (λ d. r ≡ Err (Unknown d)) → IfNone at (IsOkUnless r NoMemory) → at ≡ Some dim
unknown-filter {T} (Some d) r dim is some none = (let e : Unknown d ≡ Unknown dim = same-err r (Unknown d) (Unknown dim) some is in cc)
unknown-filter {T} None r dim is some none = absurd (let never : Unknown dim ≡ NoMemory = subst (λ (x : Result T FilterFault). IsOkUnless x NoMemory) is none in cc)
