-- Cells at places: what is held there has the places' numbers, and what becomes of it is told by exchanges.
use Rattle.std.proofs.Common.{◌≡◌, ℕ, List, [], ◌∷◌, Option, Some, None, refl}
use Rattle.core_steps.specs.Places.{Fill, numbers, swaps, things, values, values_at}
use Rattle.list_words.specs.Counts.{Each}
use Rattle.core_shard.specs.volap_cell.specs.{Cells.{CellValue, cell_of}, State.{cells_before, cells_now, numbers_of}, declared.cell.Cell.Cell}

-- What is so of no places, and of more places with what is held there, is so of all.
pub by-places : (P : List (Option ℕ) → List (Option Cell) → Type 0) → P [] []
    → ((row : List (Option ℕ)) (held : List (Option Cell)) → P row held → P (None ∷ row) (None ∷ held))
    → ((y : ℕ) (c : Cell) (row : List (Option ℕ)) (held : List (Option Cell)) → Fill row held → P row held → P (Some y ∷ row) (Some c ∷ held))
    → (row : List (Option ℕ)) (held : List (Option Cell)) → Fill row held → P row held
by-places P nil none some [] [] fill = nil
by-places P nil none some [] (c ∷ held) fill = absurd (cc)
by-places P nil none some (p ∷ row) [] fill = absurd (cc)
by-places P nil none some (None ∷ row) (None ∷ held) fill = none row held (by-places P nil none some row held (cc))
by-places P nil none some (None ∷ row) (Some c ∷ held) fill = absurd (cc)
by-places P nil none some (Some y ∷ row) (None ∷ held) fill = absurd (cc)
by-places P nil none some (Some y ∷ row) (Some c ∷ held) fill = (let rest : Fill row held = cc in some y c row held rest (by-places P nil none some row held rest))

-- what holds of the numbers of places holds of what is held there
pub each-thing : (P : ℕ → Type 0) (row : List (Option ℕ)) (held : List (Option Cell)) → Fill row held → Each P (numbers row) → Each (λ (t : ℕ × Cell). P t.0) (things row held)
each-thing P = by-places (λ row held. Each P (numbers row) → Each (λ (t : ℕ × Cell). P t.0) (things row held))
    (λ each. tt)
    (λ row held rest each. rest each)
    (λ y c row held fill rest each. (each.0, rest each.1))

-- what a state has at places is what stands there
pub values-there : (of : ℕ → CellValue) (row : List (Option ℕ)) (held : List (Option Cell)) → Fill row held → Each (λ (t : ℕ × Cell). of t.0 ≡ cell_of t.1) (things row held) → values_at of row ≡ values held
values-there of = by-places (λ row held. Each (λ (t : ℕ × Cell). of t.0 ≡ cell_of t.1) (things row held) → values_at of row ≡ values held)
    (λ each. refl)
    (λ row held rest each k. None ∷ rest each k)
    (λ y c row held fill rest each k. Some (each.0 k) ∷ rest each.1 k)

-- What becomes of it: the exchanges are of the places' numbers, with what was there and with what is there now.
pub record AreSwaps (row : List (Option ℕ)) (was now : List (Option Cell)) : Type 0 where
  pub numbers_are : numbers_of (swaps row was now) ≡ numbers row
  pub before : cells_before (swaps row was now) ≡ things row was
  pub after : cells_now (swaps row was now) ≡ things row now

pub are-swaps : (row : List (Option ℕ)) (was now : List (Option Cell)) → Fill row was → Fill row now → AreSwaps row was now
are-swaps [] was now fill filled = record { numbers_are = refl; before = refl; after = refl }
are-swaps (p ∷ row) [] now fill filled = absurd (cc)
are-swaps (p ∷ row) (b ∷ was) [] fill filled = absurd (cc)
are-swaps (None ∷ row) (b ∷ was) (n ∷ now) fill filled = (let rest = are-swaps row was now (cc) (cc) in record { numbers_are = rest.numbers_are; before = rest.before; after = rest.after })
are-swaps (Some y ∷ row) (None ∷ was) (n ∷ now) fill filled = absurd (cc)
are-swaps (Some y ∷ row) (Some b ∷ was) (None ∷ now) fill filled = absurd (cc)
are-swaps (Some y ∷ row) (Some b ∷ was) (Some n ∷ now) fill filled =
    let rest = are-swaps row was now (cc) (cc) in
    record { numbers_are = λ k. y ∷ rest.numbers_are k; before = λ k. (y, b) ∷ rest.before k; after = λ k. (y, n) ∷ rest.after k }
