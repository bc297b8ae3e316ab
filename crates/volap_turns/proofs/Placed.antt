-- Held cells that are taken out at places one after the other, and what is at each place then.
use Rattle.std.proofs.{Common.{◌≡◌, ◌≢◌, ◌∙◌, ℕ, ◌+◌, List, [], ◌∷◌, ◌++◌, length, Option, Some, None, is_some, append-nil, append_assoc, length-append, refl, sym, ap, arith}}
use mathlib.Core.Option.{none, some, some-ne-none}
use Rattle.core_steps.specs.Places.{Fill, number_at, numbers, thing_at, things}
use Rattle.core_steps.proofs.Filling.{by-places}
use Rattle.list_words.specs.Counts.{Each}
use Rattle.list_words.proofs.Each.{each-both, each-left, each-map}
use Rattle.turn_table.specs.Numbered.{HaveOwnNumbers, numbers_of, value_of}
use Rattle.turn_table.proofs.{Numbered.{find_else, find_here}, Order.{behind_same, none_left}}
use Rattle.core_told.specs.volap_cell.specs.{State.AreDifferent, declared.cell.Cell.Cell}
use Rattle.volap_turns.specs.Rows.{AreAt, IsThere, cell_for, cells_for, maybe_cell}

pub length-numbers : {A : Type 0} (ps : List (ℕ × A)) → length (numbers_of ps) ≡ length ps
length-numbers [] = refl
length-numbers (p ∷ ps) = (let rest = length-numbers ps in omega arith)

-- Taking out.

-- these cells can be taken out
pub record CanSpread (row : List (Option ℕ)) (held : List (ℕ × Cell)) : Type 0 where
  pub there : Each (IsThere held) (numbers row)
  pub apart : AreDifferent (numbers row)

pub can-spread : (row : List (Option ℕ)) (held : List (ℕ × Cell)) → AreAt row held → CanSpread row held
can-spread row held are = record { there = are.there; apart = are.apart }

-- the next place's cell was taken out
pub record IsNext (p : Option ℕ) (c : Option Cell) (all mid : List (ℕ × Cell)) : Type 0 where
  pub fill : is_some c ≡ is_some p
  pub count : length all ≡ length (number_at p) + length mid
  pub same : (k : ℕ) → value_of all k ≡ value_of (thing_at p c ++ mid) k

-- it is there
pub can-here : (p : Option ℕ) (row : List (Option ℕ)) (all : List (ℕ × Cell)) → CanSpread (p ∷ row) all → Each (IsThere all) (number_at p)
can-here p row all can = each-left (IsThere all) (number_at p) (numbers row) can.there

-- and then the others are
pub can-more : (p : Option ℕ) (row : List (Option ℕ)) (c : Option Cell) (all mid : List (ℕ × Cell)) → IsNext p c all mid → CanSpread (p ∷ row) all → CanSpread row mid
can-more None row c all mid is can = record { there = each-map (IsThere all) (IsThere mid) (numbers row) (λ y t. (t.0, sym (is.same y) ∙ t.1)) can.there; apart = can.apart }
can-more (Some y) row None all mid is can = (let e = is.fill in absurd (cc))
can-more (Some y) row (Some c) all mid is can = record {
  there = each-both (IsThere all) (λ z. z ≢ y) (IsThere mid) (numbers row) (λ z t ne. (t.0, sym (find_else mid y z c (λ e. ne (sym e))) ∙ sym (is.same z) ∙ t.1)) can.there.1 can.apart.0;
  apart = can.apart.1;
}

-- the cells at the places, and the others
pub record IsSpread (row : List (Option ℕ)) (cells : List (Option Cell)) (all rest : List (ℕ × Cell)) : Type 0 where
  pub fill : Fill row cells
  pub count : length all ≡ length (numbers row) + length rest
  pub same : (k : ℕ) → value_of all k ≡ value_of (things row cells ++ rest) k

pub spread-none : (rest : List (ℕ × Cell)) → IsSpread [] [] rest rest
spread-none rest = record { fill = refl; count = omega arith; same = λ k. refl }

pub spread-more : (p : Option ℕ) (row : List (Option ℕ)) (c : Option Cell) (cells : List (Option Cell)) (all mid rest : List (ℕ × Cell)) → IsNext p c all mid → IsSpread row cells mid rest → IsSpread (p ∷ row) (c ∷ cells) all rest
spread-more p row c cells all mid rest is more = record {
  fill = λ k. is.fill k ∷ more.fill k;
  count = (let a = is.count in let b = more.count in omega (arith, length-append (number_at p) (numbers row)));
  same = λ k. is.same k ∙ behind_same (thing_at p c) mid (things row cells ++ rest) k (more.same k) ∙ ap (λ (l : List (ℕ × Cell)). value_of l k) (sym (append_assoc (thing_at p c) (things row cells) rest));
}

-- What is at the places.

none-there : (y : ℕ) (row : List (Option ℕ)) (cells : List (Option Cell)) → Fill row cells → Each (λ z. z ≢ y) (numbers row) → value_of (things row cells) y ≡ none
none-there y = by-places (λ row cells. Each (λ z. z ≢ y) (numbers row) → value_of (things row cells) y ≡ none)
    (λ each. refl)
    (λ row cells rest each. rest each)
    (λ z c row cells fill rest each. find_else (things row cells) z y c each.0 ∙ rest each.1)

own-things : (row : List (Option ℕ)) (cells : List (Option Cell)) → Fill row cells → AreDifferent (numbers row) → HaveOwnNumbers (things row cells)
own-things = by-places (λ row cells. AreDifferent (numbers row) → HaveOwnNumbers (things row cells))
    (λ apart. tt)
    (λ row cells rest apart. rest apart)
    (λ y c row cells fill rest apart. (none-there y row cells fill apart.0, rest apart.1))

found : (all : List (ℕ × Cell)) (row : List (Option ℕ)) (cells : List (Option Cell)) → Fill row cells → HaveOwnNumbers (things row cells) → ((k : ℕ) (d : Cell) → value_of (things row cells) k ≡ some d → value_of all k ≡ some d) → cells ≡ cells_for all row
found all = by-places (λ row cells. HaveOwnNumbers (things row cells) → ((k : ℕ) (d : Cell) → value_of (things row cells) k ≡ some d → value_of all k ≡ some d) → cells ≡ cells_for all row)
    (λ own f. refl)
    (λ row cells rest own f k. None ∷ rest own f k)
    (λ y c row cells fill rest own f.
    let here : Some c ≡ cell_for all (Some y) = sym (ap maybe_cell (f y c (find_here (things row cells) y c))) in
    let others : cells ≡ cells_for all row = rest own.1 (λ k d e. f k d (find_else (things row cells) y k c (λ q. some-ne-none d (sym e ∙ ap (value_of (things row cells)) (sym q) ∙ own.0)) ∙ e)) in
    λ i. here i ∷ others i)

-- cells with these values, in whatever order, have at the places what is at them
pub at-places : (row : List (Option ℕ)) (cells : List (Option Cell)) (all : List (ℕ × Cell)) → Fill row cells → AreDifferent (numbers row) → ((k : ℕ) → value_of all k ≡ value_of (things row cells) k) → cells ≡ cells_for all row
at-places row cells all fill apart same = found all row cells fill (own-things row cells fill apart) (λ k d e. same k ∙ e)

-- when the cells at all places are out, nothing is left
pub none-left : (row : List (Option ℕ)) (cells : List (Option Cell)) (all rest : List (ℕ × Cell)) → AreAt row all → IsSpread row cells all rest → rest ≡ []
none-left row cells all rest are is = (let a = are.count in let b = is.count in none_left rest (omega arith))

pub all-same : (row : List (Option ℕ)) (cells : List (Option Cell)) (all rest : List (ℕ × Cell)) → AreAt row all → IsSpread row cells all rest → (k : ℕ) → value_of all k ≡ value_of (things row cells) k
all-same row cells all rest are is k =
    is.same k ∙ ap (λ (l : List (ℕ × Cell)). value_of (things row cells ++ l) k) (none-left row cells all rest are is) ∙ ap (λ (l : List (ℕ × Cell)). value_of l k) (append-nil (things row cells))

pub all-found : (row : List (Option ℕ)) (cells : List (Option Cell)) (all rest : List (ℕ × Cell)) → AreAt row all → IsSpread row cells all rest → cells ≡ cells_for all row
all-found row cells all rest are is = at-places row cells all is.fill are.apart (all-same row cells all rest are is)
