-- Cells at five places, which are moved out one after the other, and put back in the other order.
use Rattle.std.proofs.Common.{◌≡◌, ◌≢◌, ◌∙◌, ℕ, zero, suc, ◌<◌, List, [], ◌∷◌, length, Option, Some, None, is_some, get_or, refl, sym, ap, subst}
use Rattle.core_steps.specs.Places.{Fill, number_at, numbers, thing_at, things}
use Rattle.core_steps.proofs.Filling.{each-thing}
use Rattle.list_words.specs.Counts.{Each}
use Rattle.list_words.proofs.Each.{each-left, each-map, each-right}
use Rattle.core_shard.specs.volap_cell.specs.{State.{CanLift, Stand, given, taken}, declared.cell.Cell.Cell}
use Rattle.core_shard.specs.volap_cell.proofs.Cells.Lifting.{lift-others, long-back, stand-others}

-- five things are those at five places
pub five : {A : Type 0} (xs : List A) (x : A) → length xs ≡ 5 → (get_or xs 0 x ∷ get_or xs 1 x ∷ get_or xs 2 x ∷ get_or xs 3 x ∷ get_or xs 4 x ∷ []) ≡ xs
five (a ∷ b ∷ c ∷ d ∷ e ∷ []) x long = refl
five [] x long = absurd (cc)
five (a ∷ []) x long = absurd (cc)
five (a ∷ b ∷ []) x long = absurd (cc)
five (a ∷ b ∷ c ∷ []) x long = absurd (cc)
five (a ∷ b ∷ c ∷ d ∷ []) x long = absurd (cc)
five (a ∷ b ∷ c ∷ d ∷ e ∷ f ∷ xs) x long = absurd (cc)

-- Moving out.

-- what was moved out of places, and what is left
pub record IsLifted (xs : List (Option Cell)) (row : List (Option ℕ)) (held : List (Option Cell)) (out : List (Option Cell)) : Type 0 where
  pub fill : Fill row held
  pub stand : Stand xs (things row held)
  pub rest : out ≡ taken (numbers row) xs

pub lifted-none : (xs : List (Option Cell)) → IsLifted xs [] [] xs
lifted-none xs = record { fill = refl; stand = tt; rest = refl }

-- then the others can be moved out
pub can-others : (p : Option ℕ) (row : List (Option ℕ)) (xs mid : List (Option Cell)) → mid ≡ taken (number_at p) xs → CanLift xs (numbers (p ∷ row)) → CanLift mid (numbers row)
can-others p row xs mid e can = lift-others xs mid (number_at p) (numbers row) e can

pub lifted-more : (p : Option ℕ) (row : List (Option ℕ)) (c : Option Cell) (held xs mid out : List (Option Cell)) → is_some c ≡ is_some p → Stand xs (thing_at p c) → mid ≡ taken (number_at p) xs
    → CanLift xs (numbers (p ∷ row)) → (CanLift mid (numbers row) → IsLifted mid row held out) → IsLifted xs (p ∷ row) (c ∷ held) out
lifted-more None row (Some c) held xs mid out some stand e can more = absurd (cc)
lifted-more None row None held xs mid out some stand e can more =
    let others = more (can-others None row xs mid e can) in
    record { fill = λ k. some k ∷ others.fill k; stand = subst (λ (l : List (Option Cell)). Stand l (things row held)) e others.stand; rest = others.rest ∙ ap (λ (l : List (Option Cell)). taken (numbers row) l) e }
lifted-more (Some y) row None held xs mid out some stand e can more = absurd (cc)
lifted-more (Some y) row (Some c) held xs mid out some stand e can more =
    let others = more (can-others (Some y) row xs mid e can) in
    let off = each-thing (λ z. Each (λ v. z ≢ v) (y ∷ [])) row held others.fill (each-map (λ z. z ≢ y) (λ z. Each (λ v. z ≢ v) (y ∷ [])) (numbers row) (λ z ne. (ne, tt)) can.apart.0) in
    record {
      fill = λ k. some k ∷ others.fill k;
      stand = (stand.0, stand-others xs mid (y ∷ []) (things row held) e off others.stand);
      rest = others.rest ∙ ap (λ (l : List (Option Cell)). taken (numbers row) l) e;
    }

-- of five places

pub at-five : (P : List (Option ℕ) → Type 0) (places : List (Option ℕ)) → length places ≡ 5 → P places → P (get_or places 0 None ∷ get_or places 1 None ∷ get_or places 2 None ∷ get_or places 3 None ∷ get_or places 4 None ∷ [])
at-five P places long = subst P (sym (five places None long))

pub lifted-five : (places : List (Option ℕ)) (held xs out : List (Option Cell)) → length places ≡ 5 → CanLift xs (numbers places)
    → (CanLift xs (numbers (get_or places 0 None ∷ get_or places 1 None ∷ get_or places 2 None ∷ get_or places 3 None ∷ get_or places 4 None ∷ []))
    → IsLifted xs (get_or places 0 None ∷ get_or places 1 None ∷ get_or places 2 None ∷ get_or places 3 None ∷ get_or places 4 None ∷ []) held out) → IsLifted xs places held out
lifted-five places held xs out long can more = subst (λ (row : List (Option ℕ)). IsLifted xs row held out) (five places None long) (more (at-five (λ row. CanLift xs (numbers row)) places long can))

-- when three are out, two can be moved out still
pub can-last-two : (places : List (Option ℕ)) (xs one two three : List (Option Cell)) → length places ≡ 5 → CanLift xs (numbers places)
    → one ≡ taken (number_at (get_or places 0 None)) xs → two ≡ taken (number_at (get_or places 1 None)) one → three ≡ taken (number_at (get_or places 2 None)) two
    → CanLift three (numbers (get_or places 3 None ∷ get_or places 4 None ∷ []))
can-last-two places xs one two three long can e f g =
    let at : ℕ → Option ℕ = λ k. get_or places k None in
    can-others (at 2) (at 3 ∷ at 4 ∷ []) two three g (can-others (at 1) (at 2 ∷ at 3 ∷ at 4 ∷ []) one two f (can-others (at 0) (at 1 ∷ at 2 ∷ at 3 ∷ at 4 ∷ []) xs one e
    (at-five (λ row. CanLift xs (numbers row)) places long can)))

-- Putting back.

pub record IsPut (xs : List (Option Cell)) (row : List (Option ℕ)) (held : List (Option Cell)) (out : List (Option Cell)) : Type 0 where
  pub is : out ≡ given (things row held) xs

pub put-none : (xs : List (Option Cell)) → IsPut xs [] [] xs
put-none xs = record { is = refl }

pub put-more : (p : Option ℕ) (row : List (Option ℕ)) (c : Option Cell) (held xs mid out : List (Option Cell)) → out ≡ given (thing_at p c) mid → IsPut xs row held mid → IsPut xs (p ∷ row) (c ∷ held) out
put-more None row c held xs mid out e more = record { is = e ∙ more.is }
put-more (Some y) row None held xs mid out e more = record { is = e ∙ more.is }
put-more (Some y) row (Some c) held xs mid out e more = record { is = e ∙ ap (λ (l : List (Option Cell)). given ((y, c) ∷ []) l) more.is }

pub put-five : (places : List (Option ℕ)) (held xs out : List (Option Cell)) → length places ≡ 5
    → IsPut xs (get_or places 0 None ∷ get_or places 1 None ∷ get_or places 2 None ∷ get_or places 3 None ∷ get_or places 4 None ∷ []) held out → IsPut xs places held out
put-five places held xs out long = subst (λ (row : List (Option ℕ)). IsPut xs row held out) (five places None long)

pub put-length : (p : Option ℕ) (c : Option Cell) (xs mid : List (Option Cell)) → mid ≡ given (thing_at p c) xs → length mid ≡ length xs
put-length p c xs mid e = long-back xs mid (thing_at p c) e

-- a place's number is one of the numbers
pub put-within : (places : List (Option ℕ)) (k : ℕ) (xs mid : List (Option Cell)) → length mid ≡ length xs → Each (λ y. y < length xs) (numbers places) → Each (λ y. y < length mid) (number_at (get_or places k None))
put-within [] k xs mid long within = tt
put-within (p ∷ row) zero xs mid long within = subst (λ (n : ℕ). Each (λ y. y < n) (number_at p)) (sym long) (each-left (λ y. y < length xs) (number_at p) (numbers row) within)
put-within (p ∷ row) (suc k) xs mid long within = put-within row k xs mid long (each-right (λ y. y < length xs) (number_at p) (numbers row) within)
