-- How many blocks there are, level by level
use Rattle.std.proofs.{Common.{◌≡◌, ℕ, ◌+◌, ◌-◌, ◌*◌, ◌<◌, ◌≤◌, List, [], ◌∷◌, length, sum, ap, ◌∙◌, inl, inr, arith}, lemmas.Bool.cases_lt, lemmas.List.Sums.sum_by-cons}
use Rattle.std.specs.{Int.div_ceil, Prelude.min}
use Rattle.shard_plan.specs.Building.{leaves_for, levels_over, cells_for, levels_for, parent_nodes}

-- the laws of levels
abbrev pub levels_from : ℕ → List ℕ
levels_from n = levels_over n n

abbrev pub RootLaw : Type 0
RootLaw = (n : ℕ) → n ≤ 1 → levels_over n n ≡ n ∷ []

abbrev pub ParentsLaw : Type 0
ParentsLaw = (n : ℕ) → 1 < n → levels_over n n ≡ n ∷ levels_over (div_ceil n parent_nodes) (div_ceil n parent_nodes)

module _ (root : RootLaw) (parents : ParentsLaw) where
  cells-one : (n : ℕ) → n ≤ 1 → sum (levels_from n) ≡ n
  cells-one n one = ap sum (root n one) ∙ omega arith

  cells-many : (n : ℕ) → 1 < n → sum (levels_from n) ≡ n + sum (levels_from (div_ceil n parent_nodes))
  cells-many n many = ap sum (parents n many) ∙ sum_by-cons (λ x. x) n (levels_from (div_ceil n parent_nodes))

  count-one : (n : ℕ) → n ≤ 1 → length (levels_from n) ≡ 1
  count-one n one = ap length (root n one) ∙ omega arith

  count-many : (n : ℕ) → 1 < n → length (levels_from n) ≡ length (levels_from (div_ceil n parent_nodes)) + 1
  count-many n many = ap length (parents n many) ∙ omega arith

  cells-some : (n : ℕ) → n ≤ sum (levels_from n)
  cells-some n = elim (cases_lt 1 n) [ inl many ↦ omega (arith, cells-many n many) | inr one ↦ omega (arith, cells-one n one) ]

  count-some : (n : ℕ) → 1 ≤ length (levels_from n)
  count-some n = elim (cases_lt 1 n) [ inl many ↦ omega (arith, count-many n many) | inr one ↦ omega (arith, count-one n one) ]

  -- there are no more leaves than blocks
  pub leaves-few : (n : ℕ) → leaves_for n ≤ cells_for n
  leaves-few n = cells-some (leaves_for n)

  -- the leaves are the first level
  pub cells-first : (blocks n : ℕ) → blocks ≡ leaves_for n → (blocks + sum (levels_from (blocks - 0)) ≡ cells_for n + (blocks - 0)) × (1 + length (levels_from (blocks - 0)) ≡ levels_for n + 1)
  cells-first blocks n is =
      let e : blocks - 0 ≡ leaves_for n = omega arith in
      let s = ap (λ x. sum (levels_from x)) e in
      let l = ap (λ x. length (levels_from x)) e in
      (omega arith, omega arith)

  -- a level of one block is the last one
  pub many : (level k n : ℕ) → k + length (levels_from level) ≡ levels_for n + 1 → k < levels_for n → 1 < level
  many level k n levels lt = elim (cases_lt 1 level) [ inl m ↦ m | inr one ↦ absurd (omega (arith, count-one level one)) ]

  -- the next level's blocks
  pub parents-count : (blocks from made : ℕ) → from < blocks → blocks ≡ min (from + parent_nodes * made) blocks → from + parent_nodes * made < blocks + parent_nodes
      → made ≡ div_ceil (blocks - from) parent_nodes
  parents-count blocks from made lt place last = omega arith

  pub cells-next : (blocks from made k n now : ℕ) → from < blocks → blocks ≡ min (from + parent_nodes * made) blocks → from + parent_nodes * made < blocks + parent_nodes
      → blocks + sum (levels_from (blocks - from)) ≡ cells_for n + (blocks - from) → k + length (levels_from (blocks - from)) ≡ levels_for n + 1 → k < levels_for n
      → now ≡ blocks + made
      → (now + sum (levels_from (now - blocks)) ≡ cells_for n + (now - blocks)) × ((k + 1) + length (levels_from (now - blocks)) ≡ levels_for n + 1)
  cells-next blocks from made k n now lt place last cells levels more is =
      let m = many (blocks - from) k n levels more in
      let e : now - blocks ≡ div_ceil (blocks - from) parent_nodes = (let c = parents-count blocks from made lt place last in omega arith) in
      let s = ap (λ x. sum (levels_from x)) e in
      let l = ap (λ x. length (levels_from x)) e in
      (omega (arith, cells-many (blocks - from) m), omega (arith, count-many (blocks - from) m))

  -- all levels are there
  pub cells-all : (blocks from k n : ℕ) → from < blocks → blocks + sum (levels_from (blocks - from)) ≡ cells_for n + (blocks - from)
      → k + length (levels_from (blocks - from)) ≡ levels_for n + 1 → levels_for n ≤ k → (blocks ≡ cells_for n) × (blocks ≡ from + 1) × (k ≡ levels_for n)
  cells-all blocks from k n lt cells levels all =
      elim (cases_lt 1 (blocks - from)) [
        | inl m ↦ absurd (omega (arith, count-many (blocks - from) m, count-some (div_ceil (blocks - from) parent_nodes)))
        | inr one ↦ (omega (arith, cells-one (blocks - from) one), omega arith, omega (arith, count-one (blocks - from) one))
      ]
