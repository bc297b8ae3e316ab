-- The order of items by a number each, where a cut may lie in it, and what lists on its two sides share.
use Rattle.std.specs.{List.{list_any, range_with_len}, Prelude.{ℕ, ◌≡◌, ◌≢◌, ◌+◌, ◌-◌, ◌*◌, ◌<◌, ◌≤◌, ◌⊎◌, ◌==◌, List, [], ◌∷◌, length, min, slice_index, fold, All, count_by, IsPermutation}}
use Rattle.describing_set.specs.Ascending.{ascending}

-- the least of a list's numbers; 0 where there is none
abbrev pub least : List ℕ → ℕ
least [] = 0
least (x ∷ xs) = fold min x xs

-- each number is the first
abbrev pub AreEqual : List ℕ → Type 0
AreEqual xs = All (λ x. x ≡ slice_index xs 0) xs

-- the item at the first place has the lower number, or the same number and the lower place
abbrev pub ComesBefore : List ℕ → ℕ → ℕ → Type 0
ComesBefore xs i j = (slice_index xs i < slice_index xs j) ⊎ ((slice_index xs i ≡ slice_index xs j) × (i < j))

-- the places of the items by their numbers, ties by place
pub record IsOrder (xs order : List ℕ) : Type 0 where
  pub places : IsPermutation (range_with_len 0 (length xs)) order
  pub ascends : (i j : ℕ) → i < j → j < length order → ComesBefore xs (slice_index order i) (slice_index order j)

-- the items before and after the cut at k have different numbers
pub record IsBetween (xs order : List ℕ) (k : ℕ) : Type 0 where
  pub above : 0 < k
  pub below : k < length order
  pub differ : slice_index xs (slice_index order (k - 1)) ≢ slice_index xs (slice_index order k)

-- how far the two sides of a cut at k are from having as many items
abbrev pub distance : ℕ → ℕ → ℕ
distance n k = (2 * k - n) + (n - 2 * k)

-- the first cut is nearer to the middle, or as near and not the higher one
abbrev pub IsNearer : ℕ → ℕ → ℕ → Type 0
IsNearer n k other = (distance n k < distance n other) ⊎ ((distance n k ≡ distance n other) × (k ≤ other))

-- a cut lies at k, and no other is nearer to the middle
pub record IsPlace (xs order : List ℕ) (k : ℕ) : Type 0 where
  pub between : IsBetween xs order k
  pub nearest : (other : ℕ) → IsBetween xs order other → IsNearer (length order) k other

-- how many different numbers of the first list the second has too
abbrev pub shared_count : List ℕ → List ℕ → ℕ
shared_count xs ys = count_by (λ x. list_any (λ y. y == x) ys) (ascending xs)
