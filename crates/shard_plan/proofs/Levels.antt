-- The levels of a built tree.
use Rattle.std.proofs.{Common.{◌≡◌, ℕ, zero, suc, ◌+◌, ◌*◌, ◌^◌, ◌<◌, ◌≤◌, List, [], ◌∷◌, length, sum, refl, sym, ap, ◌∙◌, inl, inr, arith}, lemmas.Bool.{cases_lt, le-leb, lt-leb}, lemmas.List.Sums.sum_by-cons}
use Rattle.std.specs.Int.{div_ceil}
use Rattle.shard_plan.specs.Building.{parent_nodes, leaves_for, levels_over, cells_for, levels_for, split_need}

-- how many parents n nodes have
abbrev parents : ℕ → ℕ
parents n = div_ceil n parent_nodes

-- the levels from one of n nodes up
abbrev pub levels_from : ℕ → List ℕ
levels_from n = levels_over n n

-- one node is the root
levels_over-one : (more n : ℕ) → n ≤ 1 → levels_over more n ≡ n ∷ []
levels_over-one zero n one = refl
levels_over-one (suc more) n one = rw (le-leb n 1 one) refl

levels_over-many : (more n : ℕ) → 1 < n → levels_over (suc more) n ≡ n ∷ levels_over more (parents n)
levels_over-many more n many = rw (lt-leb n 1 many) refl

-- a bound that is large enough says nothing
levels_over-enough : (f g n : ℕ) → n ≤ f + 1 → n ≤ g + 1 → levels_over f n ≡ levels_over g n
levels_over-enough zero g n p q = sym (levels_over-one g n (omega arith))
levels_over-enough (suc f) zero n p q = levels_over-one (suc f) n (omega arith)
levels_over-enough (suc f) (suc g) n p q =
    elim (cases_lt 1 n) [
      | inl many ↦ levels_over-many f n many
          ∙ ap (λ rest. n ∷ rest) (levels_over-enough f g (parents n) (omega arith) (omega arith))
          ∙ sym (levels_over-many g n many)
      | inr one ↦ levels_over-one (suc f) n one ∙ sym (levels_over-one (suc g) n one)
    ]

pub levels_from-one : (n : ℕ) → n ≤ 1 → levels_from n ≡ n ∷ []
levels_from-one n one = levels_over-one n n one

pub levels_from-many : (n : ℕ) → 1 < n → levels_from n ≡ n ∷ levels_from (parents n)
levels_from-many zero many = absurd (omega arith)
levels_from-many (suc n) many =
    levels_over-many n (suc n) many
    ∙ ap (λ rest. suc n ∷ rest) (levels_over-enough n (parents (suc n)) (parents (suc n)) (omega arith) (omega arith))

-- How much the levels come to.

cells-one : (n : ℕ) → n ≤ 1 → sum (levels_from n) ≡ n
cells-one n one = ap sum (levels_from-one n one) ∙ omega arith

cells-many : (n : ℕ) → 1 < n → sum (levels_from n) ≡ n + sum (levels_from (parents n))
cells-many n many = ap sum (levels_from-many n many) ∙ sum_by-cons (λ x. x) n (levels_from (parents n))

count-one : (n : ℕ) → n ≤ 1 → length (levels_from n) ≡ 1
count-one n one = ap length (levels_from-one n one) ∙ omega arith

count-many : (n : ℕ) → 1 < n → length (levels_from n) ≡ length (levels_from (parents n)) + 1
count-many n many = ap length (levels_from-many n many) ∙ omega arith

-- a level more for each doubling is more than enough
pub count-bound : (k n : ℕ) → n ≤ 2 ^ k → length (levels_from n) ≤ k + 1
count-bound zero n few = omega (arith, count-one n (omega arith))
count-bound (suc k) n few =
    elim (cases_lt 1 n) [
      | inl many ↦ omega (arith, count-many n many, count-bound k (parents n) (omega arith))
      | inr one ↦ omega (arith, count-one n one)
    ]

-- the parents of no node are none, so this holds of each n
cells-step : (n : ℕ) → 1 ≤ n → sum (levels_from n) ≤ n + sum (levels_from (parents n))
cells-step n some =
    elim (cases_lt 1 n) [
      | inl many ↦ omega (arith, cells-many n many)
      | inr one ↦ omega (arith, cells-one n one)
    ]

-- two parts of a level have two nodes more than the whole at most
cells-parts : (k p q r : ℕ) → r ≤ k + 1 → 1 ≤ p → 1 ≤ q → p ≤ r → q ≤ r → p + q ≤ r + 2
    → sum (levels_from p) + sum (levels_from q) ≤ sum (levels_from r) + 2 * length (levels_from r)
cells-parts zero p q r few some_p some_q below_p below_q both =
    omega (arith, cells-one p (omega arith), cells-one q (omega arith), cells-one r (omega arith), count-one r (omega arith))
cells-parts (suc k) p q r few some_p some_q below_p below_q both =
    elim (cases_lt 1 r) [
      | inl many ↦ omega (
        arith,
        cells-step p some_p,
        cells-step q some_q,
        cells-many r many,
        count-many r many,
        cells-parts k (parents p) (parents q) (parents r) (omega arith) (omega arith) (omega arith) (omega arith) (omega arith) (omega arith),
      )
      | inr one ↦ omega (arith, cells-one p (omega arith), cells-one q (omega arith), cells-one r one, count-one r one)
    ]

pub parts-fit : (a b : ℕ) → cells_for a + cells_for b + 2 ≤ split_need (a + b)
parts-fit a b =
    let whole = leaves_for (a + b) in
    omega (arith, cells-parts whole (leaves_for a) (leaves_for b) whole (omega arith) (omega arith) (omega arith) (omega arith) (omega arith) (omega arith))

-- a loop's step and its end

pub cells-more : (n level cells : ℕ) → 1 < level → cells + sum (levels_from level) ≡ cells_for n + level
    → (cells + parents level) + sum (levels_from (parents level)) ≡ cells_for n + parents level
cells-more n level cells many before = omega (arith, cells-many level many)

pub count-more : (n level levels : ℕ) → 1 < level → levels + length (levels_from level) ≡ levels_for n + 1
    → (levels + 1) + length (levels_from (parents level)) ≡ levels_for n + 1
count-more n level levels many before = omega (arith, count-many level many)

-- how many levels a tree can have
pub levels_for-bound : (n : ℕ) → n < 2 ^ 40 → levels_for n ≤ 41
levels_for-bound n few = omega (arith, count-bound 40 (leaves_for n) (omega arith))

-- how many blocks it can have
cells-bound : (k n : ℕ) → n ≤ k + 1 → sum (levels_from n) ≤ 2 * n
cells-bound zero n few = omega (arith, cells-one n (omega arith))
cells-bound (suc k) n few =
    elim (cases_lt 1 n) [
      | inl many ↦ omega (arith, cells-many n many, cells-bound k (parents n) (omega arith))
      | inr one ↦ omega (arith, cells-one n one)
    ]

pub cells_for-bound : (n : ℕ) → n < 2 ^ 40 → cells_for n ≤ 2 ^ 41
cells_for-bound n few = omega (arith, cells-bound (leaves_for n) (leaves_for n) (omega arith))

-- there is a level at least
count-some : (n : ℕ) → 1 ≤ length (levels_from n)
count-some n =
    elim (cases_lt 1 n) [
      | inl many ↦ omega (arith, count-many n many)
      | inr one ↦ omega (arith, count-one n one)
    ]

pub count-below : (n level levels : ℕ) → n < 2 ^ 40 → levels + length (levels_from level) ≡ levels_for n + 1 → levels ≤ 41
count-below n level levels few before = omega (arith, count-some level, levels_for-bound n few)
