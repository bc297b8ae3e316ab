-- Where the first of four bounded numbers that changes falls, the number that they spell falls.
use Rattle.std.proofs.{Common.{◌≡◌, ℕ, suc, ◌+◌, ◌*◌, ◌<◌, ◌≤◌, ◌⊎◌, inl, inr, ap, ◌∙◌, arith}, Math.Nat.mul-le-mul_right}
use Rattle.core_pages.specs.volap_cell.specs.{Falls.{Left, Falls, control_brought}, Setting.Setting}
use Rattle.seeded_run.specs.Ranks.{RankFallsLaw, StepFallsLaw, with_waiting}

-- a higher digit that falls outweighs a lower one below its limit
higher : (a b r x y : ℕ) → a < b → x < r → a * r + x < b * r + y
higher a b r x y h k = let more : suc a * r ≤ b * r = mul-le-mul_right r h in omega arith

-- a digit that stays leaves it to the lower one
lower : (a b r x y : ℕ) → a ≡ b → x < y → a * r + x < b * r + y
lower a b r x y e k = let same : a * r ≡ b * r = ap (λ n. n * r) e in omega arith

-- two digits that stay
two : (m a b x y : ℕ) → a ≡ b → x ≡ y → a * m + x ≡ b * m + y
two m a b x y e f = ap (λ n. n * m + x) e ∙ ap (λ n. b * m + n) f

pub rank-falls : RankFallsLaw
rank-falls limits before now falls within =
    elim falls [
      | inl control ↦ higher _ _ limits.queries _ _ (higher _ _ limits.rows _ _ (higher _ _ limits.gates _ _ control within.gates) within.rows) within.queries
      | inr (inl gates) ↦ higher _ _ limits.queries _ _ (higher _ _ limits.rows _ _ (lower _ _ limits.gates _ _ gates.0 gates.1) within.rows) within.queries
      | inr (inr (inl rows)) ↦ higher _ _ limits.queries _ _ (lower _ _ limits.rows _ _ (two limits.gates _ _ _ _ rows.0 rows.1) rows.2) within.queries
      | inr (inr (inr queries)) ↦ lower _ _ limits.queries _ _ (two limits.rows _ _ _ _ (two limits.gates _ _ _ _ queries.0 queries.1) queries.2) queries.3
    ]

-- Commands that wait.

-- one command less outweighs what it brings
fewer : (b c d m n : ℕ) → d ≤ c + b → n < m → d + n * (b + 1) < c + m * (b + 1)
fewer b c d m n h k = let more : suc n * (b + 1) ≤ m * (b + 1) = mul-le-mul_right (b + 1) k in omega arith

-- what falls doesn't have more control
no-more : (before now : Left) → Falls before now → now.control ≤ before.control
no-more before now falls =
    elim falls [
      | inl control ↦ omega arith
      | inr (inl gates) ↦ omega (arith, gates.0)
      | inr (inr (inl rows)) ↦ omega (arith, rows.0)
      | inr (inr (inr queries)) ↦ omega (arith, queries.0)
    ]

less-or-same : (n m : ℕ) → n ≤ m → (n < m) ⊎ (n ≡ m)
less-or-same n m h = grind arith

-- with as many commands that wait
as-many : (b c d m n : ℕ) → n ≡ m → d < c → d + n * b < c + m * b
as-many b c d m n e h = let same : n * b ≡ m * b = ap (λ k. k * b) e in omega arith

same-many : (b c d m n : ℕ) → n ≡ m → d ≡ c → d + n * b ≡ c + m * b
same-many b c d m n e h = let same : n * b ≡ m * b = ap (λ k. k * b) e in omega arith

still-falls : (s : Setting) (before now : Left) (m n : ℕ) → n ≡ m → Falls before now → Falls (with_waiting s m before) (with_waiting s n now)
still-falls s before now m n e falls =
    let b = control_brought s + 1 in
    elim falls [
      | inl control ↦ inl (as-many b before.control now.control m n e control)
      | inr (inl gates) ↦ inr (inl (same-many b before.control now.control m n e gates.0, gates.1))
      | inr (inr (inl rows)) ↦ inr (inr (inl (same-many b before.control now.control m n e rows.0, rows.1, rows.2)))
      | inr (inr (inr queries)) ↦ inr (inr (inr (same-many b before.control now.control m n e queries.0, queries.1, queries.2, queries.3)))
    ]

pub step-falls : StepFallsLaw
step-falls s before now history history_now count count_now goes same few begins =
    elim goes [
      | inl falls ↦ elim (less-or-same count_now count few) [
        | inl less ↦ inl (fewer (control_brought s) before.control now.control count count_now (let c = no-more before now falls in omega arith) less)
        | inr is ↦ still-falls s before now count count_now is falls
      ]
      | inr (inl begun) ↦ inl (fewer (control_brought s) before.control now.control count count_now begun.control (begins begun.e begun.begun begun.grown))
      | inr (inr still) ↦ absurd (still.counts same)
    ]
