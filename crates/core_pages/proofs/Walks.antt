-- The steps of a walk from block to block.
use Rattle.std.proofs.{Common.{ℕ, zero, suc, ◌≡◌, ◌+◌, Option, Some, None, List, [], ◌∷◌, ◌++◌, refl, sym, ap, ◌∙◌, append_assoc, arith, false, eqb, ◌-◌, Bool, true, cond}, Math.Dec.eqb-suc-zero}
use Rattle.std.specs.List.{flat_map}
use Rattle.dc_node.specs.{declared.block.Block.Block, declared.entry.Entry.Entry}
use Rattle.row_ledger.specs.declared.page.NodeLine.{NodeLine}
use Rattle.core_image.specs.tree_shape.specs.PageLines.{CellBlocks, block_after, walk, group_line, lines, group, group_entries, linked}
use Rattle.core_pages.specs.Blocks.{next_of}

pub walk-none : (blocks : CellBlocks) (stamp n : ℕ) → walk blocks stamp n None ≡ []
walk-none blocks stamp zero = refl
walk-none blocks stamp (suc n) = refl

-- one block, and those behind it
pub walk-on : (blocks : CellBlocks) (stamp n m : ℕ) (block : Block) (next following : Option Block) → n ≡ m + 1 → next ≡ Some block → following ≡ block_after blocks stamp block
    → walk blocks stamp n next ≡ block ∷ walk blocks stamp m following
walk-on blocks stamp zero m block next following h is behind = absurd (omega arith)
walk-on blocks stamp (suc n) m block next following h is behind =
    let e : n ≡ m = omega arith in
    ap (walk blocks stamp (suc n)) is ∙ ap (λ k. block ∷ walk blocks stamp k (block_after blocks stamp block)) e ∙ ap (λ o. block ∷ walk blocks stamp m o) (sym behind)

-- what is made of one element is added, and that of those behind it is left
pub added-on : {A B : Type 0} (f : A → List B) (old new all : List B) (x : A) (left rest : List A) → left ≡ x ∷ rest → new ≡ old ++ f x → old ++ flat_map f left ≡ all → new ++ flat_map f rest ≡ all
added-on f old new all x left rest is added before =
    ap (λ ys. ys ++ flat_map f rest) added ∙ append_assoc old (f x) (flat_map f rest) ∙ ap (λ xs. old ++ flat_map f xs) (sym is) ∙ before

linked-cond : (blocks : CellBlocks) (b : Bool) (right : Option ℕ) → linked blocks (cond b None right) ≡ cond b None (linked blocks right)
linked-cond blocks true right = refl
linked-cond blocks false right = refl

-- the block that follows, by what is kept of one
pub follows : (blocks : CellBlocks) (stamp : ℕ) (block : Block) (next : Option ℕ) → next ≡ next_of stamp block → linked blocks next ≡ block_after blocks stamp block
follows blocks stamp block next e = ap (linked blocks) e ∙ linked-cond blocks (eqb block.stamp stamp) block.right

-- what is left of a group's blocks after so many looks
abbrev pub left_of : CellBlocks → Entry → ℕ → Option ℕ → List Block
left_of blocks entry looks next = walk blocks entry.stamp (blocks.count - looks) (linked blocks next)

-- the line of a group, and then those beneath it
pub lines-deeper : (blocks : CellBlocks) (level m depth : ℕ) (entry : Entry) (nodes pushed all : List NodeLine) → level ≡ suc m
    → pushed ≡ nodes ++ group_line (eqb level 0) depth (group blocks entry) entry ∷ []
    → all ≡ pushed ++ flat_map (λ e. lines blocks m (depth + 1) e) (group_entries blocks entry)
    → all ≡ nodes ++ lines blocks level depth entry
lines-deeper blocks level m depth entry nodes pushed all is p a =
    let more = flat_map (λ e. lines blocks m (depth + 1) e) (group_entries blocks entry) in
    a
    ∙ ap (λ l. l ++ more) (p ∙ ap (λ k. nodes ++ group_line (eqb k 0) depth (group blocks entry) entry ∷ []) is ∙ ap (λ b. nodes ++ group_line b depth (group blocks entry) entry ∷ []) (eqb-suc-zero m))
    ∙ append_assoc nodes (group_line false depth (group blocks entry) entry ∷ []) more
    ∙ ap (λ k. nodes ++ lines blocks k depth entry) (sym is)
