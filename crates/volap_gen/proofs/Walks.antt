-- Records of concepts that stand in order: each under the one above it, and each of a greater key than all before.
use Rattle.std.proofs.Common.{◌≡◌, ℕ, ◌+◌, ◌*◌, ◌-◌, List, [], ◌∷◌, ◌&&◌, Bool, true, false, refl}
use Rattle.std.specs.{Fmt.digits, Prelude.{codes, nat_le, nat_lt, ◌==◌, if◌then◌else◌}, Str.bytes_eq}
use Rattle.script_form.specs.Fields.{Record, is_name, is_star}
use Rattle.volap_gen.specs.{Generated.{concept_records, leaf_records, middle_records}, Names.{leaf_name, middle_name, top_name}, declared.names.Dim.TheVariants.{Date, Store, Product}}

-- the numbers of a name, each a letter and at most two digits, as one number; a name is below those under it
unfoldable pub key_from : ℕ → ℕ → ℕ → List ℕ → ℕ
key_from above n depth [] = (above * 100 + n) * (if depth == 1 then 10000 else if depth == 2 then 100 else 1)
key_from above n depth (b ∷ bs) = if nat_le b 57 then key_from above (10 * (n - 1) + (b - 48) + 1) depth bs else key_from (above * 100 + n) 1 (depth + 1) bs

unfoldable pub key : List ℕ → ℕ
key name = key_from 0 0 0 name

-- records of concepts of a dimension, whose keys are more than this one, behind the newest concepts of the levels 1 and 2
unfoldable pub walk : List ℕ → ℕ → List ℕ → List ℕ → List Record → Bool
walk dim most top mid [] = true
walk dim most top mid ((word ∷ of ∷ name ∷ parent ∷ []) ∷ rs) =
    bytes_eq word (codes "concept") && bytes_eq of dim && is_name name && nat_lt most (key name)
    && (if is_star parent then walk dim (key name) name [] rs
    else is_name parent && (if bytes_eq parent top then walk dim (key name) top name rs else bytes_eq parent mid && walk dim (key name) top mid rs))
walk dim most top mid (r ∷ rs) = false

pub walk_date : walk (codes "date") 0 [] [] (concept_records Date) ≡ true
unfolding concept_records middle_records leaf_records top_name middle_name leaf_name digits walk key key_from
walk_date = refl

pub walk_store : walk (codes "store") 0 [] [] (concept_records Store) ≡ true
unfolding concept_records middle_records leaf_records top_name middle_name leaf_name digits walk key key_from
walk_store = refl

pub walk_product : walk (codes "product") 0 [] [] (concept_records Product) ≡ true
unfolding concept_records middle_records leaf_records top_name middle_name leaf_name digits walk key key_from
walk_product = refl
