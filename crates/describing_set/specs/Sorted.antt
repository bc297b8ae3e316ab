-- What it is to be one of some numbers, and that numbers ascend.
use Rattle.std.specs.Prelude.{ℕ, ◌≡◌, ◌<◌, ◌⊎◌, List, [], ◌∷◌}

-- one of the numbers
abbrev pub In : ℕ → List ℕ → Type 0
In x [] = ⊥
In x (y ∷ ys) = (x ≡ y) ⊎ In x ys

-- below each of the numbers
abbrev pub Below : ℕ → List ℕ → Type 0
Below x [] = Unit {0}
Below x (y ∷ ys) = (x < y) × Below x ys

-- each number is below the later ones
abbrev pub Ascends : List ℕ → Type 0
Ascends [] = Unit {0}
Ascends (x ∷ xs) = Below x xs × Ascends xs
