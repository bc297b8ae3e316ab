-- New blocks in the cells of spares that a step used.
use Rattle.std.proofs.{Common.{◌≡◌, ◌≢◌, ℕ, Bool, true, cond, eqb, List, [], ◌∷◌, ◌++◌, length, refl, sym, ap, ◌∙◌, subst, ◌⊎◌, inl, inr, arith}, lemmas.Bool.{eqb-true, ne_eqb}}
use Rattle.cell_stock.specs.declared.purse.Spare.{Spare}
use Rattle.volap_cell.specs.link_descent.specs.declared.entered.Fresh.{Fresh}
use Rattle.list_words.specs.Counts.{Each}
use Rattle.list_words.proofs.{Each.{each-map, each-both}, Truth.on_bool}
use Rattle.volap_cell.specs.tree_shape.specs.Steps.{AreApart}
use Rattle.volap_cell.specs.{Cells.{CellValue, BlockCell, has_block}, TreeKinds.AreFilled, World.{Change, put}}
use Rattle.volap_cell.proofs.Views.Frames.{AreAt, first}
use Rattle.core_tree.proofs.Stocks.Spares.{AreDistinct}

-- each new block has the cell of one of the spares
abbrev pub AreIn : List Spare → List Fresh → Type 0
AreIn [] [] = Unit {0}
AreIn (s ∷ ss) (f ∷ fs) = (f.cell ≡ s.cell) × AreIn ss fs
AreIn _ _ = ⊥

pub count-filled : (ss : List Spare) (fs : List Fresh) (cs : List Change) → AreIn ss fs → AreFilled fs cs → length cs ≡ length ss
count-filled [] [] [] i f = refl
count-filled [] [] (c ∷ cs) i f = absurd f
count-filled [] (x ∷ fs) cs i f = absurd i
count-filled (s ∷ ss) [] cs i f = absurd i
count-filled (s ∷ ss) (x ∷ fs) [] i f = absurd f
count-filled (s ∷ ss) (x ∷ fs) (c ∷ cs) i f = (let k = count-filled ss fs cs i.1 f.2 in omega arith)

-- what holds of the spares' cells holds of the changed ones
pub filled-each : (P : ℕ → Type 0) (ss : List Spare) (fs : List Fresh) (cs : List Change) → AreIn ss fs → AreFilled fs cs → Each (λ s. P s.cell) ss → Each (λ c. P c.number) cs
filled-each P [] [] [] i f e = tt
filled-each P [] [] (c ∷ cs) i f e = absurd f
filled-each P [] (x ∷ fs) cs i f e = absurd i
filled-each P (s ∷ ss) [] cs i f e = absurd i
filled-each P (s ∷ ss) (x ∷ fs) [] i f e = absurd f
filled-each P (s ∷ ss) (x ∷ fs) (c ∷ cs) i f e = (subst P (sym (f.0 ∙ i.0)) e.0, filled-each P ss fs cs i.1 f.2 e.1)

pub filled-made : (fs : List Fresh) (cs : List Change) → AreFilled fs cs → Each (λ c. has_block c.now ≡ true) cs
filled-made [] [] f = tt
filled-made [] (c ∷ cs) f = absurd f
filled-made (x ∷ fs) [] f = absurd f
filled-made (x ∷ fs) (c ∷ cs) f = (ap has_block f.1, filled-made fs cs f.2)

-- a cell that no new block has isn't changed by them
pub filled-off : (y : ℕ) (fs : List Fresh) (cs : List Change) → AreFilled fs cs → Each (λ x. y ≢ x.cell) fs → Each (λ c. y ≢ c.number) cs
filled-off y [] [] f e = tt
filled-off y [] (c ∷ cs) f e = absurd f
filled-off y (x ∷ fs) [] f e = absurd f
filled-off y (x ∷ fs) (c ∷ cs) f e = ((λ z. e.0 (z ∙ f.0)), filled-off y fs cs f.2 e.1)

-- the same of spares and their blocks, both ways

pub in-fresh : (P : ℕ → Type 0) (ss : List Spare) (fs : List Fresh) → AreIn ss fs → Each (λ s. P s.cell) ss → Each (λ x. P x.cell) fs
in-fresh P [] [] i e = tt
in-fresh P [] (x ∷ fs) i e = absurd i
in-fresh P (s ∷ ss) [] i e = absurd i
in-fresh P (s ∷ ss) (x ∷ fs) i e = (subst P (sym i.0) e.0, in-fresh P ss fs i.1 e.1)

pub in-spares : (P : ℕ → Type 0) (ss : List Spare) (fs : List Fresh) → AreIn ss fs → Each (λ x. P x.cell) fs → Each (λ s. P s.cell) ss
in-spares P [] [] i e = tt
in-spares P [] (x ∷ fs) i e = absurd i
in-spares P (s ∷ ss) [] i e = absurd i
in-spares P (s ∷ ss) (x ∷ fs) i e = (subst P i.0 e.0, in-spares P ss fs i.1 e.1)

-- Cells in a row of changes.

pub put-skip : (x : Change) (cs : List Change) (cells : ℕ → CellValue) (y : ℕ) → y ≢ x.number → put (x ∷ cs) cells y ≡ put cs cells y
put-skip x cs cells y ne = rw (ne_eqb y x.number ne) refl

pub put-behind : (xs cs : List Change) (cells : ℕ → CellValue) (y : ℕ) → Each (λ x. y ≢ x.number) xs → put (xs ++ cs) cells y ≡ put cs cells y
put-behind [] cs cells y e = refl
put-behind (x ∷ xs) cs cells y e = put-skip x (xs ++ cs) cells y e.0 ∙ put-behind xs cs cells y e.1

-- a cell that isn't changed, or of which what is seen stays
pub seen-stays : {A : Type 0} (f : CellValue → A) (cs : List Change) (cells : ℕ → CellValue) (y : ℕ) → AreAt cells cs → Each (λ x. (y ≢ x.number) ⊎ (f x.now ≡ f x.before)) cs → f (put cs cells y) ≡ f (cells y)
seen-stays f [] cells y at e = refl
seen-stays f (x ∷ cs) cells y at e =
    let ih = seen-stays f cs cells y at.1 e.1 in
    on_bool (eqb y x.number)
    (λ q. elim e.0 [
      | inl ne ↦ absurd (ne (eqb-true _ _ q))
      | inr same ↦ (let is = eqb-true _ _ q in ap (λ (b : Bool). f (cond b x.now (put cs cells y))) q ∙ same ∙ ap f (sym at.0) ∙ ap (λ (z : ℕ). f (cells z)) (sym is))
    ])
    (λ q. ap (λ (b : Bool). f (cond b x.now (put cs cells y))) q ∙ ih)

-- each new block stands in its cell
pub filled-at : (cells : ℕ → CellValue) (ss : List Spare) (fs : List Fresh) (cs : List Change) → AreIn ss fs → AreFilled fs cs → AreDistinct ss → Each (λ x. put cs cells x.cell ≡ BlockCell x.block) fs
filled-at cells [] [] [] i f d = tt
filled-at cells [] [] (c ∷ cs) i f d = absurd f
filled-at cells [] (x ∷ fs) cs i f d = absurd i
filled-at cells (s ∷ ss) [] cs i f d = absurd i
filled-at cells (s ∷ ss) (x ∷ fs) [] i f d = absurd f
filled-at cells (s ∷ ss) (x ∷ fs) (c ∷ cs) i f d = (
  at-first c cs x f.0 f.1,
  each-both (λ (z : Fresh). s.cell ≢ z.cell) (λ (z : Fresh). put cs cells z.cell ≡ BlockCell z.block) (λ (z : Fresh). put (c ∷ cs) cells z.cell ≡ BlockCell z.block) fs
      (λ z ne e. put-skip c cs cells z.cell (λ q. ne (sym i.0 ∙ sym f.0 ∙ sym q)) ∙ e)
      (in-fresh (λ y. s.cell ≢ y) ss fs i.1 (each-map (AreApart s) (λ (z : Spare). s.cell ≢ z.cell) ss (λ z a. a.0) d.0)) (filled-at cells ss fs cs i.1 f.2 d.1),
)
  where
    at-first : (c : Change) (cs : List Change) (x : Fresh) → c.number ≡ x.cell → c.now ≡ BlockCell x.block → put (c ∷ cs) cells x.cell ≡ BlockCell x.block
    at-first c cs x n is = subst (λ y. put (c ∷ cs) cells y ≡ BlockCell x.block) n (first c cs cells ∙ is)
