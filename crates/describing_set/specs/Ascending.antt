-- Lists of numbers as sets: the different numbers of a list, ascending.
use Rattle.std.specs.Prelude.{ℕ, ◌==◌, List, [], ◌∷◌, if◌then◌else◌, nat_lt}

-- an ascending list with one number more, which it may have already
abbrev pub with_id : ℕ → List ℕ → List ℕ
with_id x [] = x ∷ []
with_id x (y ∷ ys) = if nat_lt x y then x ∷ y ∷ ys else (if x == y then y ∷ ys else y ∷ with_id x ys)

-- the different numbers of a list, ascending
abbrev pub ascending : List ℕ → List ℕ
ascending [] = []
ascending (x ∷ xs) = with_id x (ascending xs)

-- how many concepts a describing set has in a dimension at most
abbrev pub most_of_set : ℕ
most_of_set = 6
