-- When a count of faults rose, and what a source gave over many reads.
use Rattle.std.specs.{Io.KnownBytes.Consumes, Prelude.{ℕ, ◌+◌, ◌-◌, ◌^◌, ◌≤◌, min, List, Option, length}}

-- one more, in a count of 64 bits that stays at its last value
abbrev pub one_more : ℕ → ℕ
one_more count = min (count + 1) (2 ^ 64 - 1)

-- the count has risen, or stands at its last value
abbrev pub Rose : ℕ → ℕ → Type 0
Rose before now = one_more before ≤ now

-- bytes came, and P holds of how many
abbrev pub Gave : Option (List ℕ) → Option (List ℕ) → (ℕ → Type 0) → Type 0
Gave before now P = (bytes : List ℕ) × Consumes before now bytes × P (length bytes)
