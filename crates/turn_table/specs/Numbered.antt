-- Lists of values with numbers, and lists that grow at the front.
use Rattle.std.specs.Prelude.{◌≡◌, ◌==◌, ℕ, ◌+◌, List, [], ◌∷◌, ◌++◌, length, slice_set, cond, nat_lt}
use mathlib.Core.Option.{Option, none, some}

module _ {A : Type 0} where
  -- the first value with this number
  abbrev pub value_of : List (ℕ × A) → ℕ → Option A
  value_of [] k = none
  value_of (p ∷ ps) k = cond (p.0 == k) (some p.1) (value_of ps k)

  -- the numbers alone
  abbrev pub numbers_of : List (ℕ × A) → List ℕ
  numbers_of [] = []
  numbers_of (p ∷ ps) = p.0 ∷ numbers_of ps

  -- no number stands twice
  abbrev pub HaveOwnNumbers : List (ℕ × A) → Type 0
  HaveOwnNumbers [] = Unit {0}
  HaveOwnNumbers (p ∷ ps) = (value_of ps p.0 ≡ none) × HaveOwnNumbers ps

  -- the list with each value written to the place of its number
  abbrev pub write_all : List A → List (ℕ × A) → List A
  write_all xs [] = xs
  write_all xs (p ∷ ps) = slice_set (write_all xs ps) p.0 p.1

  -- the first value with this number is another one
  abbrev pub replace : List (ℕ × A) → ℕ → A → List (ℕ × A)
  replace [] k x = []
  replace (p ∷ ps) k x = cond (p.0 == k) ((k, x) ∷ ps) (p ∷ replace ps k x)

  -- no value has this number any more
  abbrev pub without : List (ℕ × A) → ℕ → List (ℕ × A)
  without [] k = []
  without (p ∷ ps) k = cond (p.0 == k) (without ps k) (p ∷ without ps k)

  -- the values with their places, counted from i
  abbrev pub with_numbers : ℕ → List A → List (ℕ × A)
  with_numbers i [] = []
  with_numbers i (x ∷ xs) = (i, x) ∷ with_numbers (i + 1) xs

  -- all but the first
  abbrev pub after_first : List (ℕ × A) → List (ℕ × A)
  after_first [] = []
  after_first (p ∷ ps) = ps

  -- the list is the one seen, with newer entries in front
  abbrev pub Extends : List A → List A → Type 0
  Extends xs seen = (newer : List A) × (xs ≡ newer ++ seen)

  -- of two lists the longer and the shorter

  abbrev pub longer : List A → List A → List A
  longer xs ys = cond (nat_lt (length xs) (length ys)) ys xs

  abbrev pub shorter : List A → List A → List A
  shorter xs ys = cond (nat_lt (length xs) (length ys)) xs ys
