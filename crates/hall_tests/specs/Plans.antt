-- Names over one dimension.
use Rattle.std.specs.Prelude.{ℕ, ◌≡◌, Bool, true, false, List, [], ◌∷◌, length, All}
use Rattle.dim_hierarchy.specs.declared.filter.NamePick.{NamePick}
use Rattle.dim_hierarchy.specs.declared.filter.NamePick.TheVariants as by_name

-- one name
abbrev pub IsRow : List (List ℕ) → Type 0
IsRow names = length names ≡ 1

-- it is no empty list of names
abbrev pub is_pick : NamePick → Bool
is_pick by_name.All = true
is_pick (by_name.Any []) = false
is_pick (by_name.Any (name ∷ names)) = true

-- one pick
abbrev pub IsQuestion : List NamePick → Type 0
IsQuestion picks = (length picks ≡ 1) × All (λ p. is_pick p ≡ true) picks
