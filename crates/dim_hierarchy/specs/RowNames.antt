-- The names of a row in one buffer: one behind the other, each as its length and its bytes.
use Rattle.std.specs.Prelude.{ℕ, zero, suc, ◌≡◌, ◌≤◌, List, [], ◌∷◌, length, take, drop}

-- the first names, so many, of these bytes
abbrev pub names_in : ℕ → List ℕ → List (List ℕ)
names_in zero bytes = []
names_in (suc count) [] = [] ∷ names_in count []
names_in (suc count) (n ∷ rest) = take n rest ∷ names_in count (drop n rest)

-- the bytes are so many names, and nothing else
abbrev pub AreNames : ℕ → List ℕ → Type 0
AreNames zero bytes = bytes ≡ []
AreNames (suc count) [] = ⊥
AreNames (suc count) (n ∷ rest) = (n ≤ length rest) × AreNames count (drop n rest)
