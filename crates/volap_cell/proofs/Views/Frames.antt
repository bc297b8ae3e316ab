-- What a commit leaves: one lemma for any number of cells, any projection of a cell, and any projection of an actor.
use Rattle.std.proofs.{Common.{◌≡◌, ◌≢◌, ℕ, Bool, true, cond, eqb, List, [], ◌∷◌, refl, sym, ap, ◌∙◌, subst, ◌⊎◌, inl, inr}, lemmas.Bool.{eqb-true, ne_eqb}}
use mathlib.Core.Path.{fun_ext}
use Rattle.list_words.specs.Counts.{Each, Among}
use Rattle.list_words.proofs.{Each.each-among, Truth.{on_bool, eqb-self}}
use Rattle.volap_cell.specs.{Cells.CellValue, Values.ActorValue, World.{Change, put}}

-- the changed cells are those of the state
abbrev pub AreAt : (ℕ → CellValue) → List Change → Type 0
AreAt cells cs = Each (λ c. cells c.number ≡ c.before) cs

-- f says the same of each changed cell
abbrev pub Same : {A : Type 0} → (CellValue → A) → List Change → Type 0
Same f cs = Each (λ c. f c.now ≡ f c.before) cs

-- a changed cell that is seen as before
at-change : {A : Type 0} (f : CellValue → A) (c : Change) (cs : List Change) (cells : ℕ → CellValue) → cells c.number ≡ c.before → f c.now ≡ f c.before → (y : ℕ) → eqb y c.number ≡ true → f (put (c ∷ cs) cells y) ≡ f (cells y)
at-change f c cs cells at same y q =
    let e = eqb-true _ _ q in
    ap (λ (b : Bool). f (cond b c.now (put cs cells y))) q ∙ same ∙ ap f (sym at) ∙ ap (λ (z : ℕ). f (cells z)) (sym e)

-- a projection that each change leaves, at one place and everywhere

pub kept-one : {A : Type 0} (f : CellValue → A) (cs : List Change) (cells : ℕ → CellValue) → AreAt cells cs → Same f cs → (y : ℕ) → f (put cs cells y) ≡ f (cells y)
kept-one f [] cells at same y = refl
kept-one f (c ∷ cs) cells at same y =
    let ih = kept-one f cs cells at.1 same.1 y in
    on_bool (eqb y c.number)
    (at-change f c cs cells at.0 same.0 y)
    (λ q. ap (λ (b : Bool). f (cond b c.now (put cs cells y))) q ∙ ih)

-- a projection that only one cell changes
pub kept-but : {A : Type 0} (f : CellValue → A) (i : ℕ) (cs : List Change) (cells : ℕ → CellValue) → AreAt cells cs → Each (λ c. (c.number ≡ i) ⊎ (f c.now ≡ f c.before)) cs → (y : ℕ) → y ≢ i → f (put cs cells y) ≡ f (cells y)
kept-but f i [] cells at same y ne = refl
kept-but f i (c ∷ cs) cells at same y ne =
    let ih = kept-but f i cs cells at.1 same.1 y ne in
    on_bool (eqb y c.number)
    (λ q. elim same.0 [
      | inl is ↦ absurd (ne (eqb-true _ _ q ∙ is))
      | inr s ↦ at-change f c cs cells at.0 s y q
    ])
    (λ q. ap (λ (b : Bool). f (cond b c.now (put cs cells y))) q ∙ ih)

-- what holds of each changed cell afterwards, and held of a cell before, still holds
pub holds-still : (P : CellValue → Type 0) (cs : List Change) (cells : ℕ → CellValue) → Each (λ c. P c.now) cs → (y : ℕ) → P (cells y) → P (put cs cells y)
holds-still P [] cells now y p = p
holds-still P (c ∷ cs) cells now y p =
    let ih = holds-still P cs cells now.1 y p in
    on_bool (eqb y c.number)
    (λ q. subst (λ (b : Bool). P (cond b c.now (put cs cells y))) (sym q) now.0)
    (λ q. subst (λ (b : Bool). P (cond b c.now (put cs cells y))) (sym q) ih)

-- Actors, one of which changed.

pub unmoved-one : {A : Type 0} (f : ActorValue → A) (actors : ℕ → ActorValue) (n : ℕ) (now : ActorValue) → f now ≡ f (actors n) → (a : ℕ) → f (cond (eqb a n) now (actors a)) ≡ f (actors a)
unmoved-one f actors n now same a = on_bool (eqb a n)
    (λ q. let e = eqb-true _ _ q in ap (λ (b : Bool). f (cond b now (actors a))) q ∙ same ∙ ap (λ (z : ℕ). f (actors z)) (sym e))
    (λ q. ap (λ (b : Bool). f (cond b now (actors a))) q)

pub unmoved : {A : Type 0} (f : ActorValue → A) (actors : ℕ → ActorValue) (n : ℕ) (now : ActorValue) → f now ≡ f (actors n) → ◌≡◌ {A = ℕ → A} (λ a. f (cond (eqb a n) now (actors a))) (λ a. f (actors a))
unmoved f actors n now same = fun_ext (unmoved-one f actors n now same)

-- the actor that changed, and another one

pub actor-at : (actors : ℕ → ActorValue) (n : ℕ) (now : ActorValue) → cond (eqb n n) now (actors n) ≡ now
actor-at actors n now = rw (eqb-self n) refl

pub actor-off : (actors : ℕ → ActorValue) (n : ℕ) (now : ActorValue) (a : ℕ) → a ≢ n → cond (eqb a n) now (actors a) ≡ actors a
actor-off actors n now a off = rw (ne_eqb a n off) refl

-- Cells.

-- a cell that isn't changed
pub elsewhere : (cs : List Change) (cells : ℕ → CellValue) (y : ℕ) → Each (λ c. y ≢ c.number) cs → put cs cells y ≡ cells y
elsewhere [] cells y off = refl
elsewhere (c ∷ cs) cells y off = rw (ne_eqb y c.number off.0) (elsewhere cs cells y off.1)

-- the first cell that is changed, the second and the third

pub first : (c : Change) (cs : List Change) (cells : ℕ → CellValue) → put (c ∷ cs) cells c.number ≡ c.now
first c cs cells = rw (eqb-self c.number) refl

pub second : (c d : Change) (cs : List Change) (cells : ℕ → CellValue) → d.number ≢ c.number → put (c ∷ d ∷ cs) cells d.number ≡ d.now
second c d cs cells off = rw (ne_eqb d.number c.number off, eqb-self d.number) refl

pub third : (c d e : Change) (cs : List Change) (cells : ℕ → CellValue) → e.number ≢ c.number → e.number ≢ d.number → put (c ∷ d ∷ e ∷ cs) cells e.number ≡ e.now
third c d e cs cells off off2 = rw (ne_eqb e.number c.number off, ne_eqb e.number d.number off2, eqb-self e.number) refl

-- for more than three cells: the numbers differ, and a changed cell has its new value
abbrev pub AreApartCells : List Change → Type 0
AreApartCells [] = Unit {0}
AreApartCells (c ∷ cs) = Each (λ d. d.number ≢ c.number) cs × AreApartCells cs

pub put-at : (cs : List Change) (cells : ℕ → CellValue) (c : Change) → AreApartCells cs → Among c cs → put cs cells c.number ≡ c.now
put-at [] cells c a m = absurd m
put-at (d ∷ cs) cells c a m = elim m [
  | inl is ↦ subst (λ (x : Change). put (d ∷ cs) cells x.number ≡ x.now) (sym is) (first d cs cells)
  | inr more ↦ (let ne = each-among (λ (x : Change). x.number ≢ d.number) c cs a.0 more in rw (ne_eqb c.number d.number ne) (put-at cs cells c a.1 more))
]

-- cells that differ in what is seen of them are two
pub differ : {A : Type 0} (f : CellValue → A) (cells : ℕ → CellValue) (c d : Change) → cells c.number ≡ c.before → cells d.number ≡ d.before → f c.before ≢ f d.before → c.number ≢ d.number
differ f cells c d ac ad ne e = ne (ap f (sym ac) ∙ ap (λ (y : ℕ). f (cells y)) e ∙ ap f ad)
