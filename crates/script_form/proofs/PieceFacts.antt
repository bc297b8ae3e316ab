-- The pieces of a field, one after the other.
use Rattle.std.proofs.{Common.{◌≡◌, ◌≤◌, ◌<◌, ◌+◌, ◌-◌, ◌++◌, ℕ, List, [], ◌∷◌, length, drop, take, arith, refl, Bool, true, false, Some, None, inl, inr, nat_lt}, lemmas.Bool.cases_Bool, lemmas.Bool.Decides.nat_tests, lemmas.List.{append_assoc, length-drop, take_all}, lemmas.List.Splits.{slice_split-cons_no, slice_split_first}}
use Rattle.std.specs.List.{list_all, position, position_or_len, slice_split}
use Rattle.script_form.specs.Fields.{is_bar, is_name, is_pick, is_star, pieces}

-- where no item passes, the list is the one part
split_whole : (p : ℕ → Bool) (xs : List ℕ) → length xs ≤ position_or_len p xs → slice_split p xs ≡ xs ∷ []
split_whole p [] past = refl
split_whole p (x ∷ xs) past =
    elim (cases_Bool (p x)) [
      | inl passes ↦ let here = rw passes at past in absurd (omega arith)
      | inr fails ↦ let later = rw fails at past in rw (slice_split-cons_no p x xs fails, split_whole p xs (omega arith)) refl
    ]

pub split_none : (p : ℕ → Bool) (xs : List ℕ) → position p xs ≡ None → slice_split p xs ≡ xs ∷ []
split_none p xs none = split_whole p xs (grind (arith, nat_tests))

position_is : {X : Type 0} (p : X → Bool) (xs : List X) (i : ℕ) → position p xs ≡ Some i → (position_or_len p xs ≡ i) × (i < length xs)
position_is p xs i is =
    elim (cases_Bool (nat_lt (position_or_len p xs) (length xs))) [
      | inl passes ↦
          let some = rw passes at is in
          let same : position_or_len p xs ≡ i = cc in
          let within : position_or_len p xs < length xs = grind (arith, nat_tests) in
          (same, rw (← same) within)
      | inr fails ↦ let none = rw fails at is in cc
    ]

pub position_below : {X : Type 0} (p : X → Bool) (xs : List X) (i : ℕ) → position p xs ≡ Some i → i < length xs
position_below p xs i is = (position_is p xs i is).1

-- the first part ends at the first item that passes
pub split_some : (p : ℕ → Bool) (xs : List ℕ) (i : ℕ) → position p xs ≡ Some i → slice_split p xs ≡ take i xs ∷ slice_split p (drop (i + 1) xs)
split_some p xs i is =
    let (same, within) = position_is p xs i is in
    rw (← same) (slice_split_first p xs 0 (rw (← same) at within))

-- the items of a slice from a place on
rest_is : (xs : List ℕ) (i : ℕ) → take (length xs - i) (drop i xs) ≡ drop i xs
rest_is xs i = take_all (length xs - i) (drop i xs) (omega (arith, length-drop i xs))

-- a piece that is no name makes the field no pick
pub pick_fails : (text rest : List ℕ) (bar : ℕ) → is_star text ≡ false → list_all is_name (pieces rest) ≡ list_all is_name (pieces text)
    → position is_bar rest ≡ Some bar → is_name (take bar rest) ≡ false → false ≡ is_pick text
pick_fails text rest bar star same at fails = rw (star, ← same, split_some is_bar rest bar at, fails) refl

-- a piece that is a name leaves it to the others
pub pick_goes_on : (text rest : List ℕ) (bar : ℕ) → list_all is_name (pieces rest) ≡ list_all is_name (pieces text)
    → position is_bar rest ≡ Some bar → is_name (take bar rest) ≡ true
    → list_all is_name (pieces (take (length rest - (bar + 1)) (drop (bar + 1) rest))) ≡ list_all is_name (pieces text)
pick_goes_on text rest bar same at passes = rw (rest_is rest (bar + 1), ← same, split_some is_bar rest bar at, passes) refl

-- a piece more was taken
pub pieces_more : (text rest : List ℕ) (taken : List (List ℕ)) (bar : ℕ) → taken ++ pieces rest ≡ pieces text → position is_bar rest ≡ Some bar
    → (taken ++ take bar rest ∷ []) ++ pieces (take (length rest - (bar + 1)) (drop (bar + 1) rest)) ≡ pieces text
pieces_more text rest taken bar same at = rw (rest_is rest (bar + 1), append_assoc, ← same, split_some is_bar rest bar at) refl
