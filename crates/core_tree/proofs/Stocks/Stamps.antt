-- The stamps of blocks after a step in a tree: they stay, or a division gives the head of a group the stamp of a spare and the new
-- block the stamp that the head had, and a new root takes the stamp of a spare of its own. So no two blocks have one stamp.
use Rattle.std.proofs.{Common.{◌≡◌, ◌≢◌, ◌∙◌, ℕ, ◌⊎◌, inl, inr, Bool, true, eqb, List, [], ◌∷◌, refl, sym, ap, subst}, lemmas.Bool.{eqb-true, eqb-false}}
use Rattle.cell_stock.specs.{Stock.PurseValue, declared.purse.Spare.Spare}
use Rattle.dc_node.specs.{declared.block.Block.Block, declared.entry.Entry.Entry}
use Rattle.dim_hierarchy.specs.Dimension.{Dimension}
use Rattle.volap_cell.specs.link_descent.specs.{Descend.Cuts, declared.entered.Fresh.Fresh}
use Rattle.list_words.specs.Counts.{Among, Each}
use Rattle.list_words.proofs.{Each.each-among, Truth.on_bool}
use Rattle.volap_cell.specs.tree_shape.specs.Steps.{AreApart}
use Rattle.volap_cell.specs.Stocking.{LeavesStamp}
use Rattle.core_tree.proofs.Stocks.Spares.{AreDistinct}

-- of distinct spares two in different cells have different stamps
pub distinct-stamps : (xs : List Spare) (x z : Spare) → AreDistinct xs → Among x xs → Among z xs → x.cell ≢ z.cell → x.stamp ≢ z.stamp
distinct-stamps [] x z d mx mz ne e = absurd mx
distinct-stamps (y ∷ ys) x z d mx mz ne e = elim mx [
  | inl ix ↦ elim mz [
    | inl iz ↦ absurd (ne (ap (λ (s : Spare). s.cell) (ix ∙ sym iz)))
    | inr more ↦ absurd ((each-among (AreApart y) z ys d.0 more).1 (ap (λ (s : Spare). s.stamp) (sym ix) ∙ e))
  ]
  | inr more ↦ elim mz [
    | inl iz ↦ absurd ((each-among (AreApart y) x ys d.0 more).1 (ap (λ (s : Spare). s.stamp) (sym iz) ∙ sym e))
    | inr rest ↦ distinct-stamps ys x z d.1 more rest ne e
  ]
]

-- a cell is that of a spare, or of none
spare-at : (y : ℕ) (xs : List Spare) → ((x : Spare) × Among x xs × (y ≡ x.cell)) ⊎ Each (λ x. y ≢ x.cell) xs
spare-at y [] = inr tt
spare-at y (x ∷ xs) = on_bool (eqb y x.cell)
    (λ q. inl (x, inl refl, eqb-true y x.cell q))
    (λ q. elim (spare-at y xs) [ inl found ↦ inl (found.0, inr found.1, found.2) | inr off ↦ inr (eqb-false y x.cell q, off) ])

-- no two blocks have one stamp
abbrev pub AreStampsApart : (made : ℕ → Bool) (blocks : ℕ → Block) → Type 0
AreStampsApart made blocks = (y z : ℕ) → y ≢ z → made y ≡ true → made z ≡ true → (blocks y).stamp ≢ (blocks z).stamp

-- the block stood before, with that stamp
pub record KeepsStamp (made : ℕ → Bool) (blocks now : ℕ → Block) (y : ℕ) : Type 0 where
  pub made_before : made y ≡ true
  pub same : (now y).stamp ≡ (blocks y).stamp

-- a used spare is that of the division, or a block in its cell has its stamp
abbrev pub IsPlaced : (now : ℕ → Block) → Spare → Spare → Type 0
IsPlaced now spare x = (x ≡ spare) ⊎ (AreApart x spare × ((now x.cell).stamp ≡ x.stamp))

-- the head was divided with a spare
pub record Divides (inside made made_now : ℕ → Bool) (blocks now : ℕ → Block) (used : List Spare) : Type 0 where
  pub head : ℕ
  pub spare : Spare
  pub head_inside : inside head ≡ true
  pub head_made : made head ≡ true
  pub off : Each (λ x. head ≢ x.cell) used
  pub among : Among spare used
  pub head_now : (now head).stamp ≡ spare.stamp
  pub new_now : (now spare.cell).stamp ≡ (blocks head).stamp
  pub placed : Each (IsPlaced now spare) used
  pub others : (y : ℕ) → y ≢ head → Each (λ x. y ≢ x.cell) used → made_now y ≡ true → KeepsStamp made blocks now y

abbrev pub Restamps : (inside made made_now : ℕ → Bool) (blocks now : ℕ → Block) (used : List Spare) → Type 0
Restamps inside made made_now blocks now used = ((y : ℕ) → made_now y ≡ true → KeepsStamp made blocks now y) ⊎ Divides inside made made_now blocks now used

-- where the stamp of a block comes from then
data From (made : ℕ → Bool) (blocks now : ℕ → Block) (used : List Spare) (head : ℕ) (spare : Spare) (y : ℕ) : Type 0 where
  IsOld : y ≢ head → Each (λ x. y ≢ x.cell) used → KeepsStamp made blocks now y → From made blocks now used head spare y
  IsHead : y ≡ head → (now y).stamp ≡ spare.stamp → From made blocks now used head spare y
  IsNew : y ≡ spare.cell → (now y).stamp ≡ (blocks head).stamp → From made blocks now used head spare y
  IsTop : (x : Spare) → Among x used → y ≡ x.cell → AreApart x spare → (now y).stamp ≡ x.stamp → From made blocks now used head spare y

module _ (inside made made_now : ℕ → Bool) (blocks now : ℕ → Block) (used : List Spare) where
  from : (d : Divides inside made made_now blocks now used) (y : ℕ) → made_now y ≡ true → From made blocks now used d.head d.spare y
  from d y is = on_bool (eqb y d.head)
      (λ q. let e = eqb-true y d.head q in IsHead e (ap (λ (z : ℕ). (now z).stamp) e ∙ d.head_now))
      (λ q. elim (spare-at y used) [
        | inl found ↦ elim (each-among (IsPlaced now d.spare) found.0 used d.placed found.1) [
          | inl same ↦ (let e : y ≡ d.spare.cell = found.2 ∙ ap (λ (x : Spare). x.cell) same in IsNew e (ap (λ (z : ℕ). (now z).stamp) e ∙ d.new_now))
          | inr top ↦ IsTop found.0 found.1 found.2 top.0 (ap (λ (z : ℕ). (now z).stamp) found.2 ∙ top.1)
        ]
        | inr off ↦ (let ne = eqb-false y d.head q in IsOld ne off (d.others y ne off is))
      ])

  -- What is so of each stamp where it was, of the head's stamp in another cell, and of the stamps of used spares in any, is so now.
  pub restamped-each : (R : ℕ → ℕ → Type 0) → Restamps inside made made_now blocks now used → ((y : ℕ) → made y ≡ true → R y (blocks y).stamp) → ((head y stamp : ℕ) → inside head ≡ true → R head stamp → R y stamp)
      → Each (λ x. (y : ℕ) → R y x.stamp) used → (y : ℕ) → made_now y ≡ true → R y (now y).stamp
  restamped-each R stamps old moved spares y is = elim stamps [
    | inl keeps ↦ (let k = keeps y is in subst (R y) (sym k.same) (old y k.made_before))
    | inr d ↦ elim (from d y is) [
      | IsOld ne off k ↦ subst (R y) (sym k.same) (old y k.made_before)
      | IsHead at e ↦ subst (R y) (sym e) (each-among (λ (x : Spare). (y : ℕ) → R y x.stamp) d.spare used spares d.among y)
      | IsNew at e ↦ subst (R y) (sym e) (moved d.head y (blocks d.head).stamp d.head_inside (old d.head d.head_made))
      | IsTop x among at apart e ↦ subst (R y) (sym e) (each-among (λ (x : Spare). (y : ℕ) → R y x.stamp) x used spares among y)
    ]
  ]

  module _ (apart : AreStampsApart made blocks) (free : (y : ℕ) → made y ≡ true → Each (LeavesStamp y (blocks y).stamp) used) (distinct : AreDistinct used) where
    -- a block that stood before has the stamp of no used spare
    old-free : (y : ℕ) (x : Spare) → made y ≡ true → Each (λ x. y ≢ x.cell) used → Among x used → (blocks y).stamp ≢ x.stamp
    old-free y x is off among = each-among (LeavesStamp y (blocks y).stamp) x used (free y is) among (each-among (λ (x : Spare). y ≢ x.cell) x used off among)

    pub restamped-apart : Restamps inside made made_now blocks now used → AreStampsApart made_now now
    restamped-apart stamps y z ne my mz e = elim stamps [
      | inl keeps ↦ (let a = keeps y my in let b = keeps z mz in apart y z ne a.made_before b.made_before (sym a.same ∙ e ∙ b.same))
      | inr d ↦ elim (from d y my) [
        | IsOld ny oy a ↦ elim (from d z mz) [
          | IsOld nz oz b ↦ apart y z ne a.made_before b.made_before (sym a.same ∙ e ∙ b.same)
          | IsHead at is ↦ old-free y d.spare a.made_before oy d.among (sym a.same ∙ e ∙ is)
          | IsNew at is ↦ apart y d.head ny a.made_before d.head_made (sym a.same ∙ e ∙ is)
          | IsTop x among at off is ↦ old-free y x a.made_before oy among (sym a.same ∙ e ∙ is)
        ]
        | IsHead at is ↦ elim (from d z mz) [
          | IsOld nz oz b ↦ old-free z d.spare b.made_before oz d.among (sym b.same ∙ sym e ∙ is)
          | IsHead at2 is2 ↦ ne (at ∙ sym at2)
          | IsNew at2 is2 ↦ old-free d.head d.spare d.head_made d.off d.among (sym is2 ∙ sym e ∙ is)
          | IsTop x among at2 off is2 ↦ off.1 (sym is2 ∙ sym e ∙ is)
        ]
        | IsNew at is ↦ elim (from d z mz) [
          | IsOld nz oz b ↦ apart z d.head nz b.made_before d.head_made (sym b.same ∙ sym e ∙ is)
          | IsHead at2 is2 ↦ old-free d.head d.spare d.head_made d.off d.among (sym is ∙ e ∙ is2)
          | IsNew at2 is2 ↦ ne (at ∙ sym at2)
          | IsTop x among at2 off is2 ↦ old-free d.head x d.head_made d.off among (sym is ∙ e ∙ is2)
        ]
        | IsTop x among at off is ↦ elim (from d z mz) [
          | IsOld nz oz b ↦ old-free z x b.made_before oz among (sym b.same ∙ sym e ∙ is)
          | IsHead at2 is2 ↦ off.1 (sym is ∙ e ∙ is2)
          | IsNew at2 is2 ↦ old-free d.head x d.head_made d.off among (sym is2 ∙ sym e ∙ is)
          | IsTop x2 among2 at2 off2 is2 ↦ distinct-stamps used x x2 distinct among among2 (λ same. ne (at ∙ same ∙ sym at2)) (sym is ∙ e ∙ is2)
        ]
      ]
    ]

-- What a step onto a head says of stamps: the head keeps its own and no spare is used, or it is divided with one.

pub record DividesWith (used : List Spare) (items : List Fresh) (head head_now : Block) : Type 0 where
  pub spare : Spare
  pub among : Among spare used
  pub head_is : head_now.stamp ≡ spare.stamp
  pub placed : (now : ℕ → Block) → AreDistinct used → Each (λ f. now f.cell ≡ f.block) items → ((now spare.cell).stamp ≡ head.stamp) × Each (IsPlaced now spare) used

abbrev pub StampsWith : (used : List Spare) (items : List Fresh) (head head_now : Block) → Type 0
StampsWith used items head head_now = ((used ≡ []) × (head_now.stamp ≡ head.stamp)) ⊎ DividesWith used items head head_now

pub divides-once : (spare : Spare) (items : List Fresh) (head head_now new : Block) → items ≡ record { cell = spare.cell; block = new } ∷ [] → head_now.stamp ≡ spare.stamp → new.stamp ≡ head.stamp → DividesWith (spare ∷ []) items head head_now
divides-once spare items head head_now new fresh head_is new_is = record {
  spare = spare;
  among = inl refl;
  head_is = head_is;
  placed = λ now distinct filled. let there = subst (Each (λ (f : Fresh). now f.cell ≡ f.block)) fresh filled in (ap (λ (x : Block). x.stamp) there.0 ∙ new_is, (inl refl, tt));
}

-- whichever cut it is
pub cuts-stamps : (h : List Dimension) (tail : List Block) (entry left right : Entry) (head head_now : Block) (purse purse_now : PurseValue) (spare : Spare) (new : Block) → Cuts h tail entry left right head head_now purse purse_now spare new
    → (head_now.stamp ≡ spare.stamp) × (new.stamp ≡ head.stamp)
cuts-stamps h tail entry left right head head_now purse purse_now spare new c = elim c.cut [
  | inl k ↦ (ap (λ (x : Block). x.stamp) k.1.head_is, ap (λ (x : Block). x.stamp) k.1.new_is)
  | inr k ↦ (ap (λ (x : Block). x.stamp) k.2.head_is, ap (λ (x : Block). x.stamp) k.2.new_is)
]

-- new blocks are in their cells, and blocks elsewhere keep their stamps
pub restamps : (inside made made_now : ℕ → Bool) (blocks now : ℕ → Block) (used : List Spare) (items : List Fresh) (head : ℕ) → StampsWith used items (blocks head) (now head) → inside head ≡ true → made head ≡ true
    → Each (λ x. head ≢ x.cell) used → AreDistinct used → Each (λ f. now f.cell ≡ f.block) items → ((y : ℕ) → y ≢ head → Each (λ x. y ≢ x.cell) used → made_now y ≡ true → KeepsStamp made blocks now y)
    → Restamps inside made made_now blocks now used
restamps inside made made_now blocks now used items head stamps there stood off distinct filled others = elim stamps [
  | inl none ↦ inl (λ y is. on_bool (eqb y head)
      (λ q. let e = eqb-true y head q in record { made_before = ap made e ∙ stood; same = ap (λ (z : ℕ). (now z).stamp) e ∙ none.1 ∙ ap (λ (z : ℕ). (blocks z).stamp) (sym e) })
      (λ q. others y (eqb-false y head q) (subst (Each (λ (x : Spare). y ≢ x.cell)) (sym none.0) tt) is))
  | inr d ↦ (let places = d.placed now distinct filled in inr (record {
    head = head;
    spare = d.spare;
    head_inside = there;
    head_made = stood;
    off = off;
    among = d.among;
    head_now = d.head_is;
    new_now = places.0;
    placed = places.1;
    others = others;
  }))
]
