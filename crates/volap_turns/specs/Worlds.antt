-- Cells and actors by number are a state: what stands in a list of them is what the state has.
use Rattle.std.proofs.{Common.{◌≡◌, ◌≢◌, ◌∙◌, ℕ, zero, suc, ◌<◌, ◌≤◌, eq-eqb, ne_eqb, List, [], ◌∷◌, length, set, slice_set, Some, None, get_or, inl, inr, refl, sym, ap, subst, arith}, lemmas.Bool.cases_lt}
use mathlib.Core.Logic.{dite}
use mathlib.Core.Option.{some, none, some-injective, some-ne-none}
use native.Mathlib.Decide.{ℕ_discrete}
use lib.ListN.{get_elem?}
use Rattle.atomic_table.proofs.Lists.{set_here, set_else}
use Rattle.turn_table.specs.Numbered.{value_of, write_all}
use Rattle.turn_table.proofs.Numbered.{below_length, find_else, find_here, some_or_none, there, write_all_else, write_all_here}
use Rattle.core_told.specs.volap_cell.specs.{Cells.{CellValue, FreeCell, cell_of}, Opening.IsFresh, State.{Exchange, IsWorldOf, cells_now, changes_of}, Values.{ActorValue, actor_of}, World.{World, after, put}, declared.actor.Actor.Actor, declared.cell.Cell.Cell}
use Rattle.core_told.specs.volap_cell.proofs.Cells.States.{is-some, of-it}
use Rattle.volap_turns.specs.Rule.{all_there}

-- The cells and actors by number are those of the state; past the last cell all are free, and past the last actor each has done nothing.
pub record IsWorld (cells : List Cell) (actors : List Actor) (w : World) : Type 0 where
  pub cell : (y : ℕ) (c : Cell) → get_elem? cells y ≡ some c → w.cells y ≡ cell_of c
  pub no_cell : (y : ℕ) → get_elem? cells y ≡ none → w.cells y ≡ FreeCell
  pub actor : (a : ℕ) (x : Actor) → get_elem? actors a ≡ some x → w.actors a ≡ actor_of x
  pub no_actor : (a : ℕ) → get_elem? actors a ≡ none → IsFresh (w.actors a).setting a (w.actors a)

-- Places.

module _ {A : Type 0} where
  pub past : (xs : List A) (k : ℕ) → length xs ≤ k → get_elem? xs k ≡ none
  past xs k le = elim (some_or_none (get_elem? xs k)) [
    | inl t ↦ absurd (let l = below_length xs k t.0 t.1 in omega arith)
    | inr n ↦ n
  ]

  not-there : (xs : List A) (k : ℕ) → get_elem? xs k ≡ none → length xs ≤ k
  not-there xs k e = elim (cases_lt k (length xs)) [
    | inl lt ↦ (let t = there xs k lt in absurd (some-ne-none t.0 (sym t.1 ∙ e)))
    | inr ge ↦ ge
  ]

  pub at-place : (xs : List A) (k : ℕ) (x : A) → get_elem? xs k ≡ some x → get_or (all_there xs) k None ≡ Some x
  at-place [] k x e = absurd (some-ne-none x (sym e))
  at-place (y ∷ ys) zero x e = ap (λ (z : A). Some z) (some-injective y x e)
  at-place (y ∷ ys) (suc k) x e = at-place ys k x e

  pub long : (xs : List A) → length (all_there xs) ≡ length xs
  long [] = refl
  long (x ∷ xs) = ap suc (long xs)

pub is-world : (cells : List Cell) (actors : List Actor) (w : World) → IsWorldOf (all_there cells) (all_there actors) w → IsWorld cells actors w
is-world cells actors w is =
    let wide = long cells in let many = long actors in record {
      cell = λ y c e. sym (let l = below_length cells y c e in of-it (get_or (all_there cells) y None) (λ d. cell_of d ≡ w.cells y) c (is.cell y (omega arith)) (at-place cells y c e));
      no_cell = λ y e. (let l = not-there cells y e in is.no_cell y (omega arith));
      actor = λ a x e. sym (let l = below_length actors a x e in of-it (get_or (all_there actors) a None) (λ z. actor_of z ≡ w.actors a) x (is.actor a (omega arith)) (at-place actors a x e));
      no_actor = λ a e. (let l = not-there actors a e in is.no_actor a (omega arith));
    }

pub world-of : (cells : List Cell) (actors : List Actor) (w : World) → IsWorld cells actors w → IsWorldOf (all_there cells) (all_there actors) w
world-of cells actors w is =
    let wide = long cells in let many = long actors in record {
      cell = λ y lt. (let t = there cells y (omega arith) in is-some (get_or (all_there cells) y None) (λ d. cell_of d ≡ w.cells y) t.0 (at-place cells y t.0 t.1) (sym (is.cell y t.0 t.1)));
      no_cell = λ y le. is.no_cell y (past cells y (omega arith));
      actor = λ a lt. (let t = there actors a (omega arith) in is-some (get_or (all_there actors) a None) (λ z. actor_of z ≡ w.actors a) t.0 (at-place actors a t.0 t.1) (sym (is.actor a t.0 t.1)));
      no_actor = λ a le. is.no_actor a (past actors a (omega arith));
    }

-- What is written, and what isn't.

put-there : (xs : List Exchange) (cells : ℕ → CellValue) (y : ℕ) (d : Cell) → value_of (cells_now xs) y ≡ some d → put (changes_of xs) cells y ≡ cell_of d
put-there [] cells y d e = absurd (some-ne-none d (sym e))
put-there (x ∷ xs) cells y d e = dite (ℕ_discrete x.number y)
    (λ (same : x.number ≡ y).
    let z : some x.now ≡ some d = sym (find_here (cells_now xs) x.number x.now) ∙ ap (value_of (cells_now (x ∷ xs))) same ∙ e in
    rw (eq-eqb y x.number (sym same)) (ap cell_of (some-injective x.now d z)))
    (λ (ne : x.number ≢ y). rw (ne_eqb y x.number (λ e. ne (sym e))) (put-there xs cells y d (sym (find_else (cells_now xs) x.number y x.now ne) ∙ e)))

put-else : (xs : List Exchange) (cells : ℕ → CellValue) (y : ℕ) → value_of (cells_now xs) y ≡ none → put (changes_of xs) cells y ≡ cells y
put-else [] cells y e = refl
put-else (x ∷ xs) cells y e = dite (ℕ_discrete x.number y)
    (λ (same : x.number ≡ y). absurd (some-ne-none x.now (sym (find_here (cells_now xs) x.number x.now) ∙ ap (value_of (cells_now (x ∷ xs))) same ∙ e)))
    (λ (ne : x.number ≢ y). rw (ne_eqb y x.number (λ e. ne (sym e))) (put-else xs cells y (sym (find_else (cells_now xs) x.number y x.now ne) ∙ e)))

-- the lists after an event are the state after it
pub world-written : (cells : List Cell) (actors : List Actor) (w : World) (xs : List Exchange) (new : List (ℕ × Cell)) (i : ℕ) (a b : Actor) → IsWorld cells actors w → ((k : ℕ) → value_of new k ≡ value_of (cells_now xs) k)
    → ((k : ℕ) (d : Cell) → value_of new k ≡ some d → k < length cells) → get_elem? actors i ≡ some a
    → IsWorld (write_all cells new) (slice_set actors i b) (after w (changes_of xs) i (actor_of b))
world-written cells actors w xs new i a b is same_as within here =
    let set_at = set_here actors i b (below_length actors i a here) in record {
      cell = λ y c e. elim (some_or_none (value_of new y)) [
        | inl t ↦ (let z : some t.0 ≡ some c = sym (write_all_here cells new y t.0 (within y t.0 t.1) t.1) ∙ e in put-there xs w.cells y t.0 (sym (same_as y) ∙ t.1) ∙ ap cell_of (some-injective t.0 c z))
        | inr n ↦ put-else xs w.cells y (sym (same_as y) ∙ n) ∙ is.cell y c (sym (write_all_else cells new y n) ∙ e)
      ];
      no_cell = λ y e. elim (some_or_none (value_of new y)) [
        | inl t ↦ absurd (some-ne-none t.0 (sym (write_all_here cells new y t.0 (within y t.0 t.1) t.1) ∙ e))
        | inr n ↦ put-else xs w.cells y (sym (same_as y) ∙ n) ∙ is.no_cell y (sym (write_all_else cells new y n) ∙ e)
      ];
      actor = λ j x e. dite (ℕ_discrete j i)
          (λ (same : j ≡ i). let z : some b ≡ some x = sym set_at ∙ ap (get_elem? (set actors i b)) (sym same) ∙ e in rw (eq-eqb j i same) (ap actor_of (some-injective b x z)))
          (λ (ne : j ≢ i). rw (ne_eqb j i ne) (is.actor j x (sym (set_else actors i j b ne) ∙ e)));
      no_actor = λ j e. dite (ℕ_discrete j i)
          (λ (same : j ≡ i). absurd (some-ne-none b (sym set_at ∙ ap (get_elem? (set actors i b)) (sym same) ∙ e)))
          (λ (ne : j ≢ i). subst (λ (x : ActorValue). IsFresh x.setting j x) (sym (rw (ne_eqb j i ne) refl)) (is.no_actor j (sym (set_else actors i j b ne) ∙ e)));
    }
