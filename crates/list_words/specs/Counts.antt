-- Counting in lists.
use Rattle.std.specs.Prelude.{ℕ, ◌≡◌, ◌+◌, ◌⊎◌, cond, eqb, List, [], ◌∷◌}

-- f of each item, added up
abbrev pub total : {A : Type 0} → (A → ℕ) → List A → ℕ
total f [] = 0
total f (x ∷ xs) = f x + total f xs

-- P of each item
abbrev pub Each : {A : Type 0} → (A → Type 0) → List A → Type 0
Each P [] = Unit {0}
Each P (x ∷ xs) = P x × Each P xs

-- x is one of the items
abbrev pub Among : {A : Type 0} → A → List A → Type 0
Among x [] = ⊥
Among x (y ∷ ys) = (x ≡ y) ⊎ Among x ys

-- 1 where two numbers are the same, else 0
abbrev pub same : ℕ → ℕ → ℕ
same a b = cond (eqb a b) 1 0

-- how often x stands in the list
abbrev pub times : ℕ → List ℕ → ℕ
times x ys = total (λ y. same x y) ys
