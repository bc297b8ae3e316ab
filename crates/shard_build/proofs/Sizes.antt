-- How many items the blocks have, one by one and level by level
use Rattle.std.proofs.{Common.{◌≡◌, ℕ, zero, suc, ◌-◌, ◌*◌, ◌<◌, ◌≤◌, List, [], ◌∷◌, ◌++◌, length, refl, sym, ap, ◌∙◌, arith, length-append}, Math.Nat.mul-suc, lemmas.Bool.{le-leb, lt-leb}, lemmas.List.{append-nil, append_assoc, map-append}}
use Rattle.std.specs.{Int.div_ceil, List.flat_map, Prelude.min}
use Rattle.dc_node.specs.Block.{size}
use Rattle.tree_shape.specs.link_descent.specs.declared.entered.Fresh.{Fresh}
use Rattle.shard_plan.specs.Building.{leaf_rows, leaves_for, parent_nodes}
use Rattle.shard_build.specs.Sizes.{built_sizes, parent_sizes, put_by, sizes_of}
use Rattle.shard_build.proofs.Counts.{ParentsLaw, RootLaw, levels_from}

-- one block more takes of what the others left
put-more : (k blocks n : ℕ) → put_by k (suc blocks) n ≡ put_by k blocks n ++ min k (n - k * blocks) ∷ []
put-more k zero n =
    let e : n ≡ n - k * zero = omega arith in
    ap (λ (m : ℕ). min k m ∷ []) e
put-more k (suc blocks) n =
    let e : n - k - k * blocks ≡ n - k * suc blocks = omega (arith, mul-suc k blocks) in
    ap (λ (rest : List ℕ). min k n ∷ rest) (put-more k blocks (n - k) ∙ ap (λ (m : ℕ). put_by k blocks (n - k) ++ min k m ∷ []) e)

pub sizes-more : (k n : ℕ) (blocks : List Fresh) (f : Fresh) → sizes_of blocks ≡ put_by k (length blocks) n → size f.block.body ≡ min k (n - k * length blocks)
    → sizes_of (blocks ++ f ∷ []) ≡ put_by k (length (blocks ++ f ∷ [])) n
sizes-more k n blocks f before is =
    let more : suc (length blocks) ≡ length (blocks ++ f ∷ []) = omega (arith, length-append blocks (f ∷ [])) in
    map-append (λ (g : Fresh). size g.block.body) blocks (f ∷ [])
    ∙ ap (λ (xs : List ℕ). xs ++ size f.block.body ∷ []) before
    ∙ ap (λ (s : ℕ). put_by k (length blocks) n ++ s ∷ []) is
    ∙ sym (put-more k (length blocks) n)
    ∙ ap (λ (b : ℕ). put_by k b n) more

-- Levels.

no-parents : (n : ℕ) → n ≤ 1 → parent_sizes n ≡ []
no-parents n one = rw (le-leb n 1 one) refl

some-parents : (n : ℕ) → 1 < n → parent_sizes n ≡ put_by parent_nodes (div_ceil n parent_nodes) n
some-parents n many = rw (lt-leb n 1 many) refl

-- the sizes of the parents over a level of n, and of all above
abbrev pub sizes_over : ℕ → List ℕ
sizes_over n = flat_map parent_sizes (levels_from n)

module _ (root : RootLaw) (parents : ParentsLaw) where
  over-one : (n : ℕ) → n ≤ 1 → sizes_over n ≡ []
  over-one n one = ap (flat_map parent_sizes) (root n one) ∙ ap (λ (xs : List ℕ). xs ++ []) (no-parents n one)

  over-many : (n made : ℕ) → 1 < n → made ≡ div_ceil n parent_nodes → sizes_over n ≡ put_by parent_nodes made n ++ sizes_over made
  over-many n made many is =
      ap (flat_map parent_sizes) (parents n many)
      ∙ ap (λ (xs : List ℕ). xs ++ sizes_over (div_ceil n parent_nodes)) (some-parents n many)
      ∙ ap (λ (b : ℕ). put_by parent_nodes b n ++ sizes_over b) (sym is)

  -- the leaves are the first level
  pub sizes-first : (blocks : List Fresh) (n : ℕ) → length blocks ≡ leaves_for n → sizes_of blocks ≡ put_by leaf_rows (length blocks) n
      → sizes_of blocks ++ sizes_over (length blocks - 0) ≡ built_sizes n
  sizes-first blocks n is sizes =
      let e : length blocks - 0 ≡ leaves_for n = omega arith in
      ap (λ (xs : List ℕ). xs ++ sizes_over (length blocks - 0)) (sizes ∙ ap (λ (b : ℕ). put_by leaf_rows b n) is)
      ∙ ap (λ (b : ℕ). put_by leaf_rows (leaves_for n) n ++ sizes_over b) e

  -- the parents of a level are the next one
  pub sizes-next : (blocks made now : List Fresh) (level n : ℕ) → 1 < level → length made ≡ div_ceil level parent_nodes → sizes_of made ≡ put_by parent_nodes (length made) level
      → sizes_of blocks ++ sizes_over level ≡ built_sizes n → now ≡ blocks ++ made → sizes_of now ++ sizes_over (length now - length blocks) ≡ built_sizes n
  sizes-next blocks made now level n many count sizes before is =
      let e : length now - length blocks ≡ length made = omega (arith, ap length is, length-append blocks made) in
      ap (λ (m : ℕ). sizes_of now ++ sizes_over m) e
      ∙ ap (λ (xs : List Fresh). sizes_of xs ++ sizes_over (length made)) is
      ∙ ap (λ (xs : List ℕ). xs ++ sizes_over (length made)) (map-append (λ (g : Fresh). size g.block.body) blocks made)
      ∙ append_assoc (sizes_of blocks) (sizes_of made) (sizes_over (length made))
      ∙ ap (λ (xs : List ℕ). sizes_of blocks ++ (xs ++ sizes_over (length made))) sizes
      ∙ ap (λ (xs : List ℕ). sizes_of blocks ++ xs) (sym (over-many level (length made) many count))
      ∙ before

  -- there is no level over the root
  pub sizes-all : (blocks : List Fresh) (level n : ℕ) → level ≤ 1 → sizes_of blocks ++ sizes_over level ≡ built_sizes n → sizes_of blocks ≡ built_sizes n
  sizes-all blocks level n one before = sym (append-nil (sizes_of blocks)) ∙ ap (λ (xs : List ℕ). sizes_of blocks ++ xs) (sym (over-one level one)) ∙ before
