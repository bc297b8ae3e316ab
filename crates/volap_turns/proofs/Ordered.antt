-- Cells that were changed at their places, and stand again in the order in which they were held.
use Rattle.std.proofs.{Common.{◌≡◌, ◌≢◌, ◌∙◌, ℕ, List, [], ◌∷◌, ◌++◌, Bool, true, false, get_or, is_some, length, map, Option, Some, None, Result, refl, sym, ap, subst, arith}, lemmas.List.Elements.{All-cons, All-nil}, lemmas.List.Kept.{AllPairs-cons}}
use Rattle.std.specs.{List.AllPairs, Prelude.{All, IsOk, OnErr, OnOk}}
use mathlib.Core.Logic.{dite}
use mathlib.Core.Option.{none, some, some-ne-none}
use native.Mathlib.Decide.{ℕ_discrete}
use Rattle.core_steps.specs.{Places.{Fill, held, no_others, numbers, one_at, row_of, things, three_at, two_at, values}, Steps.Went, declared.step.{Others.Others, Places.Places}}
use Rattle.core_steps.specs.declared.step.Places.TheVariants as places
use Rattle.dim_hierarchy.specs.Dimension.{Dimension}
use Rattle.list_words.specs.Counts.{Each}
use Rattle.core_steps.proofs.Filling.{by-places}
use Rattle.turn_table.specs.{Held.AreNumbersOf, Numbered.{HaveOwnNumbers, numbers_of, value_of}}
use Rattle.turn_table.proofs.Numbered.{find_else, find_here, find_same}
use Rattle.core_told.specs.volap_cell.specs.{Cells.CellValue, Setting.Setting, State.{AreDifferent, cell_if}, Values.ActorValue, World.World, declared.cell.Cell.Cell, declared.kind.Kind.Kind}
use Rattle.core_told.specs.volap_cell.proofs.Outcomes.{on-err}
use Rattle.volap_turns.specs.{Made.IsMadeOver, Rows.{AreAt, IsThere, cells_for}}
use Rattle.volap_turns.proofs.Placed.{at-places, length-numbers}

-- The numbers of a list of cells.

module _ {A : Type 0} where
  numbers-found : (ps all : List (ℕ × A)) → ((k : ℕ) (x : A) → value_of ps k ≡ some x → (y : A) × (value_of all k ≡ some y)) → All (λ n. (y : A) × (value_of all n ≡ some y)) (numbers_of ps)
  numbers-found [] all f = All-nil (λ n. (y : A) × (value_of all n ≡ some y))
  numbers-found (p ∷ ps) all f = All-cons (λ n. (y : A) × (value_of all n ≡ some y)) p.0 (numbers_of ps) (f p.0 p.1 (find_here ps p.0 p.1)) (numbers-found ps all (λ k x e. dite (ℕ_discrete p.0 k)
      (λ (same : p.0 ≡ k). f k p.1 (ap (value_of (p ∷ ps)) (sym same) ∙ find_here ps p.0 p.1))
      (λ (ne : p.0 ≢ k). f k x (find_else ps p.0 k p.1 ne ∙ e))))

  not-among : (ps : List (ℕ × A)) (k : ℕ) → value_of ps k ≡ none → All (λ n. k ≢ n) (numbers_of ps)
  not-among [] k e = All-nil (λ n. k ≢ n)
  not-among (p ∷ ps) k e =
      let ne : k ≢ p.0 = λ q. some-ne-none p.1 (sym (find_here ps p.0 p.1) ∙ ap (value_of (p ∷ ps)) (sym q) ∙ e) in
      All-cons (λ n. k ≢ n) p.0 (numbers_of ps) ne (not-among ps k (sym (find_else ps p.0 k p.1 (λ q. ne (sym q))) ∙ e))

  all-apart : (ps : List (ℕ × A)) → HaveOwnNumbers ps → AllPairs (λ n k. n ≢ k) (numbers_of ps)
  all-apart [] own = λ i j d lt within. absurd (omega arith)
  all-apart (p ∷ ps) own = AllPairs-cons (λ n k. n ≢ k) p.0 (numbers_of ps) (not-among ps p.0 own.0) (all-apart ps own.1)

numbers-things : (row : List (Option ℕ)) (cells : List (Option Cell)) → Fill row cells → numbers_of (things row cells) ≡ numbers row
numbers-things = by-places (λ row cells. numbers_of (things row cells) ≡ numbers row) refl (λ row cells rest. rest) (λ y c row cells fill rest k. y ∷ rest k)

-- what is at the places is what was held
pub record IsOver (row : List (Option ℕ)) (cells : List (ℕ × Cell)) (was : List (Option Cell)) : Type 0 where
  pub fill : Fill row was
  pub is : was ≡ cells_for cells row
  pub same : (k : ℕ) → value_of cells k ≡ value_of (things row was) k

pub over-as : (row row2 : List (Option ℕ)) (cells cells2 : List (ℕ × Cell)) (was : List (Option Cell)) → row ≡ row2 → cells ≡ cells2 → IsOver row cells was → IsOver row2 cells2 was
over-as row row2 cells cells2 was r e over = subst (λ (x : List (Option ℕ) × List (ℕ × Cell)). IsOver x.0 x.1 was) (λ i. (r i, e i)) over

module _ {row : List (Option ℕ)} {cells : List (ℕ × Cell)} {was : List (Option Cell)} (over : IsOver row cells was) (are : AreAt row cells) (own : HaveOwnNumbers cells)
    (now : List (Option Cell)) (filled : Fill row now) (gathered : List (ℕ × Cell)) (gathers : gathered ≡ things row now) (order : List ℕ) (ordered : order ≡ numbers_of cells) where
  same-numbers : numbers_of (things row was) ≡ numbers_of (things row now)
  same-numbers = numbers-things row was over.fill ∙ sym (numbers-things row now filled)

  are-numbers : AreNumbersOf (numbers_of cells) (things row now)
  are-numbers = record {
    count = length-numbers cells ∙ are.count ∙ ap (λ (l : List ℕ). length l) (sym (numbers-things row now filled)) ∙ length-numbers (things row now);
    there = numbers-found cells (things row now) (λ k x e. find_same (things row was) (things row now) k x same-numbers (sym (over.same k) ∙ e));
    apart = all-apart cells own;
  }

  -- they can stand in the order in which they were held
  pub are-ordered : AreNumbersOf order gathered
  are-ordered = subst (λ (x : List ℕ × List (ℕ × Cell)). AreNumbersOf x.0 x.1) (λ i. (sym ordered i, sym gathers i)) are-numbers

  -- and then each is what its place has now
  pub now-at : (new : List (ℕ × Cell)) → ((k : ℕ) → value_of new k ≡ value_of gathered k) → now ≡ cells_for new row
  now-at new same = at-places row now new filled are.apart (λ k. same k ∙ ap (λ (l : List (ℕ × Cell)). value_of l k) gathers)

  pub each-at : (new : List (ℕ × Cell)) → ((k : ℕ) → value_of new k ≡ value_of gathered k) → (k : ℕ) → value_of new k ≡ value_of (things row (cells_for new row)) k
  each-at new same k = same k ∙ ap (λ (l : List (ℕ × Cell)). value_of l k) gathers ∙ ap (λ (l : List (Option Cell)). value_of (things row l) k) (now-at new same)

  -- where nothing changed, they are as they were
  pub as-held : (new : List (ℕ × Cell)) → ((all : List (ℕ × Cell)) → numbers_of all ≡ order → ((k : ℕ) → value_of all k ≡ value_of gathered k) → new ≡ all) → now ≡ was → new ≡ cells
  as-held new one same = one cells (sym ordered) (λ k. over.same k ∙ ap (λ (l : List (Option Cell)). value_of (things row l) k) (sym same) ∙ ap (λ (l : List (ℕ × Cell)). value_of l k) (sym gathers))

-- What becomes of the cells, from what is so of those at the places.

module _ {T E : Type 0} {h : List Dimension} {kind : Kind} {Sees : Setting → World → ℕ → Type 0} {Tells : ActorValue → (was now : List (Option CellValue)) → Type 0} {may_fail : Bool} {HasRoom : Type 0} {row : List (Option ℕ)} {r : Result T E} {a b : ActorValue}
    (was now : List (Option Cell)) (went : OnOk r (Went h kind Sees row was now a b)) (told : OnOk r (Tells a (values was) (values now))) (sure : may_fail ≡ false → IsOk r) (room : HasRoom → IsOk r) (refused : OnErr r ((now ≡ was) × (b ≡ a))) where
  pub made-as : (cells new : List (ℕ × Cell)) → was ≡ cells_for cells row → now ≡ cells_for new row → numbers_of new ≡ numbers_of cells → ((k : ℕ) → value_of new k ≡ value_of (things row (cells_for new row)) k) → (now ≡ was → new ≡ cells)
      → IsMadeOver h kind Sees Tells may_fail HasRoom row r cells new a b
  made-as cells new was_is now_is alike each back = record {
    numbers = alike;
    each = each;
    went = subst (λ (x : List (Option Cell) × List (Option Cell)). OnOk r (Went h kind Sees row x.0 x.1 a b)) (λ i. (was_is i, now_is i)) went;
    told = subst (λ (x : List (Option Cell) × List (Option Cell)). OnOk r (Tells a (values x.0) (values x.1))) (λ i. (was_is i, now_is i)) told;
    sure = sure;
    room = room;
    refused = on-err r refused (λ k. (back k.0, k.1));
  }

  -- of cells that stand in the order of the places
  pub made-in-order : (cells new : List (ℕ × Cell)) → AreDifferent (numbers row) → Fill row was → Fill row now → cells ≡ things row was → new ≡ things row now → IsMadeOver h kind Sees Tells may_fail HasRoom row r cells new a b
  made-in-order cells new apart fill filled cells_are new_is =
      let now_is = at-places row now new filled apart (λ k. ap (λ (l : List (ℕ × Cell)). value_of l k) new_is) in
      made-as cells new (at-places row was cells fill apart (λ k. ap (λ (l : List (ℕ × Cell)). value_of l k) cells_are)) now_is
      (ap (λ (l : List (ℕ × Cell)). numbers_of l) new_is ∙ numbers-things row now filled ∙ sym (numbers-things row was fill) ∙ ap (λ (l : List (ℕ × Cell)). numbers_of l) (sym cells_are))
      (λ k. ap (λ (l : List (ℕ × Cell)). value_of l k) new_is ∙ ap (λ (l : List (Option Cell)). value_of (things row l) k) now_is)
      (λ same. new_is ∙ ap (λ (l : List (Option Cell)). things row l) same ∙ sym cells_are)

-- what is so of cells is so of those that they are
pub over-held : {T E : Type 0} {h : List Dimension} {kind : Kind} {Sees : Setting → World → ℕ → Type 0} {Tells : ActorValue → (was now : List (Option CellValue)) → Type 0} {may_fail : Bool} {HasRoom : Type 0} {row : List (Option ℕ)} {r : Result T E} {cells all new : List (ℕ × Cell)} {a b : ActorValue}
    → cells ≡ all → IsMadeOver h kind Sees Tells may_fail HasRoom row r cells new a b → IsMadeOver h kind Sees Tells may_fail HasRoom row r all new a b
over-held {T} {E} {h} {kind} {Sees} {Tells} {may_fail} {HasRoom} {row} {r} {cells} {all} {new} {a} {b} e over = subst (λ (l : List (ℕ × Cell)). IsMadeOver h kind Sees Tells may_fail HasRoom row r l new a b) e over

-- and what is so of what becomes of them is so of what that is
pub made-of : {T E : Type 0} {h : List Dimension} {kind : Kind} {Sees : Setting → World → ℕ → Type 0} {Tells : ActorValue → (was now : List (Option CellValue)) → Type 0} {may_fail : Bool} {HasRoom : Type 0} {row : List (Option ℕ)} {r : Result T E} {cells new all : List (ℕ × Cell)} {a b : ActorValue}
    → new ≡ all → IsMadeOver h kind Sees Tells may_fail HasRoom row r cells new a b → IsMadeOver h kind Sees Tells may_fail HasRoom row r cells all a b
made-of {T} {E} {h} {kind} {Sees} {Tells} {may_fail} {HasRoom} {row} {r} {cells} {new} {all} {a} {b} e over = subst (λ (l : List (ℕ × Cell)). IsMadeOver h kind Sees Tells may_fail HasRoom row r cells l a b) e over

pub as-many : (new cells : List (ℕ × Cell)) → numbers_of new ≡ numbers_of cells → length new ≡ length cells
as-many new cells e = sym (length-numbers new) ∙ ap (λ (l : List ℕ). length l) e ∙ length-numbers cells

-- One cell, two and three.

one-number : (row : List (Option ℕ)) (at : ℕ) (cells : List (ℕ × Cell)) (p : ℕ × Cell) → row ≡ one_at at → AreAt row cells → cells ≡ p ∷ [] → p.0 ≡ at
one-number row at cells p named are is =
    let there : Each (IsThere cells) (at ∷ []) = subst (λ (l : List (Option ℕ)). Each (IsThere cells) (numbers l)) named are.there in
    dite (ℕ_discrete p.0 at) (λ (e : p.0 ≡ at). e) (λ (ne : p.0 ≢ at). absurd (some-ne-none there.0.0 (sym there.0.1 ∙ ap (λ (l : List (ℕ × Cell)). value_of l at) is ∙ find_else [] p.0 at p.1 ne)))

-- one cell is at the first place
pub one-placed : (row : List (Option ℕ)) (p : Places) (cells : List (ℕ × Cell)) (c : ℕ × Cell) → row_of p ≡ row → AreAt row cells → cells ≡ c ∷ [] → row ≡ one_at c.0
one-placed row (places.One at) cells c e are is = sym e ∙ ap one_at (sym (one-number row at cells c (sym e) are is))
one-placed row (places.Two a b) cells c e are is =
    absurd (let n : 1 ≡ length (numbers (two_at a b)) = ap (λ (l : List (ℕ × Cell)). length l) (sym is) ∙ are.count ∙ ap (λ (l : List (Option ℕ)). length (numbers l)) (sym e) in omega arith)
one-placed row (places.Many a b others) cells c e are is =
    absurd (let n : 1 ≡ length (a ∷ b ∷ numbers others) = ap (λ (l : List (ℕ × Cell)). length l) (sym is) ∙ are.count ∙ ap (λ (l : List (Option ℕ)). length (numbers l)) (sym e) in omega arith)

-- two cells of which the first is at the first place are at their places
pub two-named : (row : List (Option ℕ)) (at to : ℕ) (cells : List (ℕ × Cell)) (p q : ℕ × Cell) → row ≡ two_at at to → AreAt row cells → cells ≡ p ∷ q ∷ [] → p.0 ≡ at → row ≡ two_at p.0 q.0
two-named row at to cells p q named are is first =
    let there : Each (IsThere cells) (at ∷ to ∷ []) = subst (λ (l : List (Option ℕ)). Each (IsThere cells) (numbers l)) named are.there in
    let apart : AreDifferent (at ∷ to ∷ []) = subst (λ (l : List (Option ℕ)). AreDifferent (numbers l)) named are.apart in
    let ne : p.0 ≢ to = λ e. apart.0.0 (sym e ∙ first) in
    let found : value_of (q ∷ []) to ≡ some there.1.0.0 = sym (find_else (q ∷ []) p.0 to p.1 ne) ∙ ap (λ (l : List (ℕ × Cell)). value_of l to) (sym is) ∙ there.1.0.1 in
    let second : q.0 ≡ to = dite (ℕ_discrete q.0 to) (λ (e : q.0 ≡ to). e) (λ (off : q.0 ≢ to). absurd (some-ne-none there.1.0.0 (sym found ∙ find_else [] q.0 to q.1 off))) in
    named ∙ (λ i. two_at (sym first i) (sym second i))

-- three cells of which the first two are at the first two places are at their places
pub three-named : (row : List (Option ℕ)) (p q r : ℕ × Cell) (at : ℕ) → row ≡ three_at p.0 q.0 at → AreAt row (p ∷ q ∷ r ∷ []) → row ≡ three_at p.0 q.0 r.0
three-named row p q r at named are =
    let cells : List (ℕ × Cell) = p ∷ q ∷ r ∷ [] in
    let there : Each (IsThere cells) (p.0 ∷ q.0 ∷ at ∷ []) = subst (λ (l : List (Option ℕ)). Each (IsThere cells) (numbers l)) named are.there in
    let apart : AreDifferent (p.0 ∷ q.0 ∷ at ∷ []) = subst (λ (l : List (Option ℕ)). AreDifferent (numbers l)) named are.apart in
    let found : value_of (r ∷ []) at ≡ some there.1.1.0.0 = sym (find_else (r ∷ []) q.0 at q.1 (λ e. apart.1.0.0 (sym e))) ∙ sym (find_else (q ∷ r ∷ []) p.0 at p.1 (λ e. apart.0.1.0 (sym e))) ∙ there.1.1.0.1 in
    let third : r.0 ≡ at = dite (ℕ_discrete r.0 at) (λ (e : r.0 ≡ at). e) (λ (off : r.0 ≢ at). absurd (some-ne-none there.1.1.0.0 (sym found ∙ find_else [] r.0 at r.1 off))) in
    named ∙ (λ i. three_at p.0 q.0 (sym third i))

pub things-one : (row : List (Option ℕ)) (at : ℕ) (first second : Option Cell) (others : Others) (c : Cell) → row ≡ one_at at → first ≡ Some c → (at, c) ∷ [] ≡ things row (held first second others)
things-one row at first second others c named e =
    subst (λ (l : List (Option ℕ)). (at, c) ∷ [] ≡ things l (held first second others)) (sym named) (ap (λ (o : Option Cell). cell_if at o ++ []) (sym e))

pub one-cells : (row : List (Option ℕ)) (at : ℕ) (cells : List (ℕ × Cell)) (p : ℕ × Cell) (second : Option Cell) (others : Others) → row ≡ one_at at → AreAt row cells → cells ≡ p ∷ [] → cells ≡ things row (held (Some p.1) second others)
one-cells row at cells p second others named are is = (let n = one-number row at cells p named are is in is ∙ (λ i. (n i, p.1) ∷ []) ∙ things-one row at (Some p.1) second others p.1 named refl)

pub things-two : (row : List (Option ℕ)) (at to : ℕ) (first second : Option Cell) (others : Others) (c d : Cell) → row ≡ two_at at to → first ≡ Some c → second ≡ Some d → (at, c) ∷ (to, d) ∷ [] ≡ things row (held first second others)
things-two row at to first second others c d named e f =
    subst (λ (l : List (Option ℕ)). (at, c) ∷ (to, d) ∷ [] ≡ things l (held first second others)) (sym named) (λ i. cell_if at (sym e i) ++ (cell_if to (sym f i) ++ []))

pub fill-one : (row : List (Option ℕ)) (at : ℕ) (c : Cell) (second : Option Cell) (others : Others) → row ≡ one_at at → second ≡ None → others ≡ no_others → Fill row (held (Some c) second others)
fill-one row at c second others named e f = subst (λ (l : List (Option ℕ)). Fill l (held (Some c) second others)) (sym named) (λ i. map is_some (held (Some c) (e i) (f i)))

pub fill-two : (row : List (Option ℕ)) (at to : ℕ) (c d : Cell) (others : Others) → row ≡ two_at at to → others ≡ no_others → Fill row (held (Some c) (Some d) others)
fill-two row at to c d others named f = subst (λ (l : List (Option ℕ)). Fill l (held (Some c) (Some d) others)) (sym named) (λ i. map is_some (held (Some c) (Some d) (f i)))

pub things-three : (row : List (Option ℕ)) (at to by : ℕ) (first second : Option Cell) (others : Others) (c d e : Cell) → row ≡ three_at at to by → first ≡ Some c → second ≡ Some d → others.third ≡ Some e → (at, c) ∷ (to, d) ∷ (by, e) ∷ [] ≡ things row (held first second others)
things-three row at to by first second others c d e named f g h =
    subst (λ (l : List (Option ℕ)). (at, c) ∷ (to, d) ∷ (by, e) ∷ [] ≡ things l (held first second others)) (sym named) (λ i. cell_if at (sym f i) ++ (cell_if to (sym g i) ++ (cell_if by (sym h i) ++ [])))

pub fill-three : (row : List (Option ℕ)) (at to by : ℕ) (c d e : Cell) → row ≡ three_at at to by → Fill row (held (Some c) (Some d) (record no_others { third = Some e }))
fill-three row at to by c d e named = subst (λ (l : List (Option ℕ)). Fill l (held (Some c) (Some d) (record no_others { third = Some e }))) (sym named) refl

-- where they are filled, there is a cell at each of the first three places
pub all-three : (row : List (Option ℕ)) (at to by : ℕ) (first second : Option Cell) (others : Others) → row ≡ three_at at to by → Fill row (held first second others) → (is_some first ≡ true) × (is_some second ≡ true) × (is_some others.third ≡ true)
all-three row at to by first second others named filled =
    let f : map is_some (held first second others) ≡ map is_some (three_at at to by) = subst (λ (l : List (Option ℕ)). Fill l (held first second others)) named filled in
    let place : ℕ → List Bool → Bool = λ n l. get_or l n false in
    (ap (place 0) f, ap (place 1) f, ap (place 2) f)
