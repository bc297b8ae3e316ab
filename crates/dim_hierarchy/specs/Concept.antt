-- A concept as a number: its level in the top 4 bits, and its number within the level in the lower 28.
use Rattle.std.specs.Prelude.{ℕ, ◌+◌, ◌*◌, ◌/◌, ◌%◌}

-- the level of a concept; 0 is the level of ALL alone
abbrev pub level_of : ℕ → ℕ
level_of id = id / 268435456

-- the number of a concept within its level
abbrev pub number_of : ℕ → ℕ
number_of id = id % 268435456

-- the concept with this level and number
abbrev pub id_of : ℕ → ℕ → ℕ
id_of level number = level * 268435456 + number
