-- The blocks behind a head that are held, and the cells for new blocks.
use Rattle.std.specs.Option.{option_map, is_some}
use Rattle.std.proofs.Common.{◌≡◌, ℕ, ◌≤◌, Bool, true, false, List, [], ◌∷◌, ◌++◌, length, Option, Some, None, refl, sym, ap, ◌∙◌, subst, ◌⊎◌, inl, inr, arith}
use Rattle.dim_hierarchy.specs.{Dimension.Dimension, declared.row.Row.Row}
use Rattle.dc_node.specs.{Block.is_full, declared.block.Block.Block}
use Rattle.cell_stock.specs.{Stock.PurseValue, declared.purse.Spare.Spare}
use Rattle.volap_cell.specs.link_descent.specs.{Descend.StepsDown, declared.entered.Entered.Entered, declared.entered.Fresh.Fresh}
use Rattle.list_words.specs.Counts.{Each}
use Rattle.volap_cell.specs.{Cells.{CellValue, BlockCell, block_in}, NewBlocks.HaveNew, TreeKinds.{AreFilled, AreBehind, IsTailIf, IsTailOf, blocks_of, most_behind}, World.{Change, change_if, held_if}}
use Rattle.core_tree.specs.Descent.{AreForNew, AreLast, block_if, blocks_if, two_if}

-- Behind a head.

abbrev pub AreBlocks : List Change → Type 0
AreBlocks cs = Each (λ c. c.before ≡ BlockCell (block_in c.before)) cs

behind-are : (expected most : ℕ) (block : Block) (cs : List Change) → AreBehind expected most block cs → AreBlocks cs × (length cs ≤ most)
behind-are expected most block [] b = (tt, omega arith)
behind-are expected most block (c ∷ cs) b =
    let (left, more, off, right, read, behind) = b in
    let ih = behind-are expected left (block_in c.before) cs behind in
    ((read.was, ih.0), (let n = ih.1 in omega arith))

tail-if-are : (full : Bool) (expected : ℕ) (head : Block) (cs : List Change) → IsTailIf full expected head cs → AreBlocks cs × (length cs ≤ 2)
tail-if-are true expected head cs t = behind-are expected most_behind head cs t
tail-if-are false expected head cs t = subst (λ (xs : List Change). AreBlocks xs × (length xs ≤ 2)) (sym t) (tt, omega arith)

pub tail-are : (expected : ℕ) (head : Block) (cs : List Change) → IsTailOf expected head cs → AreBlocks cs × (length cs ≤ 2)
tail-are expected head cs t = tail-if-are (is_full head.body) expected head cs t

block-held : (x : CellValue) → x ≡ BlockCell (block_in x) → block_if (Some x) ≡ block_in x ∷ []
block-held x is = ap (λ (z : CellValue). block_if (Some z)) is

-- the blocks that are lent are those of the cells
pub held-blocks : (first_at : ℕ) (first : Option CellValue) (second_at : ℕ) (second : Option CellValue) → AreBlocks (two_if first_at first second_at second) → blocks_if first second ≡ blocks_of (two_if first_at first second_at second)
held-blocks first_at None second_at None a = refl
held-blocks first_at None second_at (Some y) a = block-held y a.0
held-blocks first_at (Some x) second_at None a = ap (λ (bs : List Block). bs ++ []) (block-held x a.0)
held-blocks first_at (Some x) second_at (Some y) a = (λ k. (block-held x a.0) k ++ (block-held y a.1.0) k)

-- For new blocks.

pub last-same : {A : Type 0} (xs ys : List A) (x y : A) → xs ++ x ∷ [] ≡ ys ++ y ∷ [] → (xs ≡ ys) × (x ≡ y)
last-same [] [] x y e = (refl, cc)
last-same [] (b ∷ []) x y e = cc
last-same [] (b ∷ c ∷ ys) x y e = cc
last-same (a ∷ []) [] x y e = cc
last-same (a ∷ c ∷ xs) [] x y e = cc
last-same (a ∷ xs) (b ∷ ys) x y e =
    let tails : xs ++ x ∷ [] ≡ ys ++ y ∷ [] = cc in
    let heads : a ≡ b = cc in
    let ih = last-same xs ys x y tails in
    ((λ k. heads k ∷ ih.0 k), ih.1)

-- a step down with room at the child makes no block, and else it makes one in the cell of the last spare
pub record MakesOne (purse purse2 : List Spare) (items : List Fresh) : Type 0 where
  pub spare : Spare
  pub new : Fresh
  pub items_are : items ≡ new ∷ []
  pub cell : new.cell ≡ spare.cell
  pub purse_is : purse ≡ purse2 ++ spare ∷ []

pub new-down : (h : List Dimension) (row : Row) (place : ℕ) (tail : List Block) (parent parent_now head head_now : Block) (purse purse_now : PurseValue) (entered : Entered)
    → StepsDown h row place tail parent parent_now head head_now purse purse_now entered → ((is_full head.body ≡ false) × (entered.fresh.items ≡ [])) ⊎ ((is_full head.body ≡ true) × MakesOne purse.spares purse_now.spares entered.fresh.items)
new-down h row place tail parent parent_now head head_now purse purse_now entered step = elim step.step [
  | inl w ↦ inl (w.2.room, w.2.fresh)
  | inr more ↦ elim more [
    | inl w ↦ inr (w.2.full, record { spare = w.2.spare; new = record { cell = w.2.spare.cell; block = w.2.new }; items_are = w.2.fresh; cell = refl; purse_is = w.2.purse_is })
    | inr w ↦ inr (w.cuts.full, record { spare = w.spare; new = record { cell = w.spare.cell; block = w.new }; items_are = w.fresh; cell = refl; purse_is = w.cuts.purse_is })
  ]
]

none-held : (at : ℕ) (x : Option CellValue) → held_if at x ≡ [] → x ≡ None
none-held at None e = refl
none-held at (Some y) e = cc

-- the cell that is held has the new block
filled-none : (at : ℕ) (x y : Option CellValue) → x ≡ None → y ∷ [] ≡ x ∷ [] → AreFilled [] (change_if at x y)
filled-none at None None e s = tt
filled-none at None (Some y) e s = cc
filled-none at (Some x) y e s = cc

filled-one : (at : ℕ) (x y : Option CellValue) (purse purse2 : List Spare) (items : List Fresh) (m : MakesOne purse purse2 items) → length (held_if at x) ≡ 1 → AreLast purse (held_if at x) → y ≡ Some (BlockCell m.new.block) → AreFilled (m.new ∷ []) (change_if at x y)
filled-one at None y purse purse2 items m one last is = absurd (omega arith)
filled-one at (Some x) None purse purse2 items m one last is = cc
filled-one at (Some x) (Some y) purse purse2 items m one last is =
    let (front, spare, purse_is, number, rest) = last in
    let same = last-same front purse2 spare m.spare (sym purse_is ∙ m.purse_is) in
    (number ∙ ap (λ (z : Spare). z.cell) same.1 ∙ sym m.cell, (let k : y ≡ BlockCell m.new.block = cc in k), tt)

pub filled-down : (full : Bool) (at : ℕ) (x y : Option CellValue) (purse purse2 : List Spare) (items : List Fresh) → ((full ≡ false) × (items ≡ [])) ⊎ ((full ≡ true) × MakesOne purse purse2 items)
    → AreForNew full 1 purse (held_if at x) → HaveNew items (x ∷ []) (y ∷ []) → AreFilled items (change_if at x y)
filled-down full at x y purse purse2 items made for_new have = elim made [
  | inl none ↦ subst (λ (fs : List Fresh). AreFilled fs (change_if at x y)) (sym none.1)
      (filled-none at x y (none-held at x (subst (λ (b : Bool). AreForNew b 1 purse (held_if at x)) none.0 for_new)) (subst (λ (fs : List Fresh). HaveNew fs (x ∷ []) (y ∷ [])) none.1 have))
  | inr one ↦
      let m = one.1 in
      let asked = subst (λ (b : Bool). AreForNew b 1 purse (held_if at x)) one.0 for_new in
      subst (λ (fs : List Fresh). AreFilled fs (change_if at x y)) (sym m.items_are) (filled-one at x y purse purse2 items m asked.0 asked.1 (subst (λ (fs : List Fresh). HaveNew fs (x ∷ []) (y ∷ [])) m.items_are have).0)
]

-- which cells are there stays

pub some-mapped : {A B : Type 0} (f : A → B) (o : Option A) → is_some (option_map f o) ≡ is_some o
some-mapped f None = refl
some-mapped f (Some x) = refl

one-there : (items : List Fresh) (x : CellValue) (y : Option CellValue) → HaveNew items (Some x ∷ []) (y ∷ []) → is_some y ≡ true
one-there [] x y have = (let same : y ≡ Some x = cc in ap is_some same)
one-there (f ∷ []) x y have = ap is_some have.0
one-there (f ∷ f2 ∷ items) x y have = absurd have.1

pub held-down : (at : ℕ) (purse purse2 : List Spare) (items : List Fresh) (full : Bool) (x y : Option CellValue) → ((full ≡ false) × (items ≡ [])) ⊎ ((full ≡ true) × MakesOne purse purse2 items) → AreForNew full 1 purse (held_if at x)
    → HaveNew items (x ∷ []) (y ∷ []) → is_some y ≡ is_some x
held-down at purse purse2 items full (Some x) y made asked have = one-there items x y have
held-down at purse purse2 items true None y made asked have = absurd (let one = asked.0 in omega arith)
held-down at purse purse2 items false None y made asked have = elim made [
  | inl none ↦ (let same : y ∷ [] ≡ None ∷ [] = subst (λ (fs : List Fresh). HaveNew fs (None ∷ []) (y ∷ [])) none.1 have in let is : y ≡ None = cc in ap is_some is)
  | inr one ↦ (let no : false ≡ true = one.0 in cc)
]

pub filled-length : (items : List Fresh) (cs : List Change) → AreFilled items cs → length cs ≡ length items
filled-length [] [] f = refl
filled-length [] (c ∷ cs) f = absurd f
filled-length (x ∷ items) [] f = absurd f
filled-length (x ∷ items) (c ∷ cs) f = (let ih = filled-length items cs f.2 in omega arith)
