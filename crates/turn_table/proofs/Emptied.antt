-- Slots that are emptied and filled one by one.
use Rattle.std.proofs.Common.{◌≡◌, ℕ, ◌+◌, ◌<◌, ◌≤◌, false, true, List, [], ◌∷◌, ◌++◌, length, take, drop, append-nil, refl, remove, sym, ap, ◌∙◌, subst, arith, Option, Some, None}
use Rattle.atomic_table.specs.Table.{rest}
use Rattle.turn_table.specs.{Numbered.{after_first, numbers_of}, Seat.{slots_of, told_at, values_of}}
use Rattle.turn_table.proofs.Seats.{told_emptied, take_all, drop_all, length_numbers}

module _ {A : Type 0} where
  -- no slot is empty yet
  pub none_taken : (slots : List (ℕ × Option A)) → slots ≡ slots_of false (values_of slots) → slots ≡ slots_of false (drop 0 (values_of slots)) ++ slots_of true (take 0 (values_of slots))
  none_taken slots full = full ∙ sym (append-nil (slots_of false (values_of slots)))

  -- one slot more is empty
  pub one_taken : (ps : List (ℕ × A)) (i : ℕ) (row : List (ℕ × Option ℕ)) (before after : List (ℕ × Option A)) (p : ℕ × A) → numbers_of row ≡ numbers_of ps → i < length row → before ≡ slots_of false (drop i ps) ++ slots_of true (take i ps)
      → p.0 ≡ told_at row i → before ≡ (p.0, Some p.1) ∷ rest before → after ≡ rest before ++ (p.0, None) ∷ []
      → (after ≡ slots_of false (drop (i + 1) ps) ++ slots_of true (take (i + 1) ps)) × (take i ps ++ p ∷ [] ≡ take (i + 1) ps)
  one_taken ps i row before after p rows inside is n front now =
      let t = told_emptied ps i row before p.1 rows inside is (subst (λ (k : ℕ). before ≡ (k, Some p.1) ∷ rest before) n front) in (
        now ∙ (ap (λ (k : ℕ). rest before ++ (k, None) ∷ []) n ∙ t.0),
        ap (λ (k : ℕ). take i ps ++ (k, p.1) ∷ []) n ∙ t.1,
      )

  -- all are empty
  pub all_taken : (ps : List (ℕ × A)) (n : ℕ) (row : List (ℕ × Option ℕ)) (slots : List (ℕ × Option A)) → numbers_of row ≡ numbers_of ps → length row ≡ n → slots ≡ slots_of false (drop n ps) ++ slots_of true (take n ps)
      → (slots ≡ slots_of true ps) × (take n ps ≡ ps)
  all_taken ps n row slots rows count is =
      let all : length ps ≤ n = omega (arith, ap length rows, length_numbers ps, length_numbers row, count) in
      (is ∙ (λ i. slots_of false (drop_all ps n all i) ++ slots_of true (take_all ps n all i)), take_all ps n all)

  -- a list without its first
  pub first_gone : (ps : List (ℕ × A)) → remove ps 0 ≡ after_first ps
  first_gone [] = refl
  first_gone (p ∷ ps) = refl
