-- What names ask for, and which can be those of a row.
use Rattle.std.specs.{Borrow.Bor, Prelude.{ℕ, ◌≤◌, List, [], ◌∷◌, All as Each, length}}
use Rattle.dim_hierarchy.specs.{declared.filter.NamePick.NamePick, declared.filter.NamePick.TheVariants.{All, Any}}

-- each has at most 255 bytes, as a row's name has
abbrev pub AreShort : List (Bor (List ℕ)) → Type 0
AreShort names = Each (λ (name : Bor (List ℕ)). length name.now ≤ 255) names

-- what lies under one of these names, or everything where there is none
abbrev pub pick_under : List (List ℕ) → NamePick
pick_under [] = All
pick_under (name ∷ names) = Any (name ∷ names)
