-- The blocks of a walk by their cells.
use Rattle.std.proofs.{Common.{ℕ, zero, suc, ◌≡◌, ◌≢◌, ◌<◌, Some, None, List, [], ◌∷◌, length, map, refl, sym, ap, ◌∙◌, arith}, lemmas.Bool.{eq-eqb, ne_eqb}}
use Rattle.list_words.specs.Counts.{Each}
use Rattle.core_image.specs.tree_shape.specs.{PageLines.{linked, block_after, walk, CellBlocks}, Shape.{Node, node_of}, Walks.IsTail}
use Rattle.core_pages.proofs.Walks.{walk-none}

-- a tree sees the block that is in the cell
pub record IsSeen (blocks : CellBlocks) (look : ℕ → Node) (y : ℕ) : Type 0 where
  pub is : look y ≡ node_of (blocks.block y)
  pub within : y < blocks.count

module _ (blocks : CellBlocks) (look : ℕ → Node) (stamp : ℕ) where
  after-last : (y : ℕ) → IsSeen blocks look y → (look y).stamp ≡ stamp → block_after blocks stamp (blocks.block y) ≡ None
  after-last y s e =
      let t : (blocks.block y).stamp ≡ stamp = sym (ap (λ (n : Node). n.stamp) s.is) ∙ e in
      rw (eq-eqb _ _ t) refl

  after-link : (y z : ℕ) → IsSeen blocks look y → (look y).stamp ≢ stamp → (look y).right ≡ Some z → block_after blocks stamp (blocks.block y) ≡ Some (blocks.block z)
  after-link y z s ne e =
      let t : (blocks.block y).stamp ≢ stamp = λ q. ne (ap (λ (n : Node). n.stamp) s.is ∙ q) in
      let r : (blocks.block y).right ≡ Some z = sym (ap (λ (n : Node). n.right) s.is) ∙ e in
      rw (ne_eqb _ _ t) (ap (linked blocks) r)

  -- the walk from a cell to the stamp
  pub walk-cells : (n y : ℕ) (zs : List ℕ) → Each (IsSeen blocks look) (y ∷ zs) → IsTail look stamp y zs → length zs < n
      → walk blocks stamp n (Some (blocks.block y)) ≡ map (blocks.block) (y ∷ zs)
  walk-cells zero y zs s t h = absurd (omega arith)
  walk-cells (suc n) y [] s t h =
      ap (λ o. blocks.block y ∷ walk blocks stamp n o) (after-last y s.0 t)
      ∙ ap (λ bs. blocks.block y ∷ bs) (walk-none blocks stamp n)
  walk-cells (suc n) y (z ∷ zs) s t h =
      ap (λ o. blocks.block y ∷ walk blocks stamp n o) (after-link y z s.0 t.0 t.1)
      ∙ ap (λ bs. blocks.block y ∷ bs) (walk-cells n z zs s.1 t.2 (omega arith))
