-- Sums over the actors.
use Rattle.std.specs.Prelude.{ℕ, zero, suc, ◌+◌}

-- f of each number below n, added up
abbrev pub sum_below : ℕ → (ℕ → ℕ) → ℕ
sum_below zero f = 0
sum_below (suc n) f = f n + sum_below n f
