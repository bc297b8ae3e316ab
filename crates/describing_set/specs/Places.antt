-- Places of which the first few are used: six for concepts, eight for parts.
use Rattle.std.specs.Prelude.{ℕ, ◌≡◌, ◌-◌, ◌≤◌, ◌++◌, List, length, take, replicate}
use Rattle.describing_set.specs.Ascending.{most_of_set}

-- so many places, of which the first `count` are used and the others are blank
pub record AreFilled {A : Type 0} (most : ℕ) (blank : A) (count : ℕ) (places : List A) : Type 0 where
  pub few : count ≤ most
  pub long : length places ≡ most
  pub used : length (take count places) ≡ count
  pub unused : take count places ++ replicate (most - length (take count places)) blank ≡ places

-- no concept: what an unused place holds
abbrev pub no_concept : ℕ
no_concept = 4294967295

-- places for these, of which the first `count` are used and the others hold no concept
abbrev pub AreFew : ℕ → List ℕ → Type 0
AreFew count places = AreFilled most_of_set no_concept count places
