-- Cells that are taken out of a list by number, and put behind others.
use Rattle.std.proofs.Common.{◌≡◌, ◌≢◌, ℕ, suc, ◌<◌, List, [], ◌∷◌, ◌++◌, length, drop, slice_index_or, ⊎_elim, sym, refl, ap, ◌∙◌, subst, arith}
use Rattle.std.specs.List.{AllPairs}
use mathlib.Core.Option.{none, some, some-injective}
use mathlib.Core.Logic.{dite}
use native.Mathlib.Decide.{ℕ_discrete}
use Rattle.turn_table.specs.Numbered.{value_of, numbers_of, HaveOwnNumbers}
use Rattle.turn_table.proofs.Numbered.{find_here, find_else, find_append_first, find_append_second, none_same, some_or_none}

module _ {A : Type 0} where
  -- what lies behind is looked up alike
  pub behind_same : (ps qs rs : List (ℕ × A)) (k : ℕ) → value_of qs k ≡ value_of rs k → value_of (ps ++ qs) k ≡ value_of (ps ++ rs) k
  behind_same ps qs rs k e = ⊎_elim
      (λ (t : (x : A) × (value_of ps k ≡ some x)). find_append_first ps qs k t.0 t.1 ∙ sym (find_append_first ps rs k t.0 t.1))
      (λ (n : value_of ps k ≡ none). find_append_second ps qs k n ∙ (e ∙ sym (find_append_second ps rs k n)))
      (some_or_none (value_of ps k))

  -- without a cell the others are looked up alike
  pub out_else : (xs ys : List (ℕ × A)) (n k : ℕ) (c : A) → k ≢ n → value_of (xs ++ ys) k ≡ value_of (xs ++ (n, c) ∷ ys) k
  out_else xs ys n k c ne = behind_same xs ys ((n, c) ∷ ys) k (sym (find_else ys n k c (λ e. ne (sym e))))

  -- the first cell with its number is found there
  pub out_here : (xs ys : List (ℕ × A)) (n : ℕ) (c : A) → value_of xs n ≡ none → value_of (xs ++ (n, c) ∷ ys) n ≡ some c
  out_here xs ys n c apart = find_append_second xs ((n, c) ∷ ys) n apart ∙ find_here ys n c

  -- it may stand in front
  pub in_front : (xs ys : List (ℕ × A)) (n : ℕ) (c : A) → value_of xs n ≡ none → (k : ℕ) → value_of ((n, c) ∷ (xs ++ ys)) k ≡ value_of (xs ++ (n, c) ∷ ys) k
  in_front xs ys n c apart k = dite (ℕ_discrete k n)
      (λ (e : k ≡ n). ap (λ (j : ℕ). value_of ((n, c) ∷ (xs ++ ys)) j) e ∙ (find_here (xs ++ ys) n c ∙ (sym (out_here xs ys n c apart) ∙ ap (λ (j : ℕ). value_of (xs ++ (n, c) ∷ ys) j) (sym e))))
      (λ (ne : k ≢ n). find_else (xs ++ ys) n k c (λ e. ne (sym e)) ∙ out_else xs ys n k c ne)

  -- a cell with another number at the end is passed
  pub passed_by : (ps : List (ℕ × A)) (j k : ℕ) (x : A) → value_of ps k ≡ none → j ≢ k → value_of (ps ++ (j, x) ∷ []) k ≡ none
  passed_by ps j k x apart ne = find_append_second ps ((j, x) ∷ []) k apart ∙ find_else [] j k x ne

  -- a number that none of these cells has is not found
  none_of : (ps : List (ℕ × A)) (n : ℕ) → ((i d : ℕ) → i < length (numbers_of ps) → n ≢ slice_index_or (numbers_of ps) i d) → value_of ps n ≡ none
  none_of [] n apart = refl
  none_of (p ∷ ps) n apart = find_else ps p.0 n p.1 (λ e. apart 0 0 (omega arith) (sym e)) ∙ none_of ps n (λ i d low. apart (suc i) d (omega (arith, low)))

  -- numbers that are apart are of cells with numbers of their own
  own_numbers : (ps : List (ℕ × A)) → AllPairs (λ n k. n ≢ k) (numbers_of ps) → HaveOwnNumbers ps
  own_numbers [] apart = tt
  own_numbers (p ∷ ps) apart = (none_of ps p.0 (λ i d low. apart 0 (suc i) d (omega arith) (omega (arith, low))), own_numbers ps (λ i j d less low. apart (suc i) (suc j) d (omega (arith, less)) (omega (arith, low))))

  -- cells with the same numbers and values are the same
  same_cells : (ps qs : List (ℕ × A)) → HaveOwnNumbers ps → numbers_of ps ≡ numbers_of qs → ((k : ℕ) → value_of ps k ≡ value_of qs k) → ps ≡ qs
  same_cells [] [] own numbers same = refl
  same_cells [] (q ∷ qs) own numbers same = absurd (let e = ap length numbers in omega (arith, e))
  same_cells (p ∷ ps) [] own numbers same = absurd (let e = ap length numbers in omega (arith, e))
  same_cells (p ∷ ps) (q ∷ qs) own numbers same =
      let n : p.0 ≡ q.0 = ap (λ (ns : List ℕ). slice_index_or ns 0 0) numbers in
      let rest : numbers_of ps ≡ numbers_of qs = ap (drop 1) numbers in
      let v : p.1 ≡ q.1 = some-injective p.1 q.1 (sym (find_here ps p.0 p.1) ∙ (same p.0 ∙ (ap (λ (j : ℕ). value_of (q ∷ qs) j) n ∙ find_here qs q.0 q.1))) in
      let there : value_of qs p.0 ≡ none = none_same ps qs p.0 rest own.0 in
      let tail : ps ≡ qs = same_cells ps qs own.1 rest (λ k. dite (ℕ_discrete k p.0)
      (λ (e : k ≡ p.0). ap (value_of ps) e ∙ (own.0 ∙ (sym there ∙ ap (value_of qs) (sym e))))
      (λ (ne : k ≢ p.0). sym (find_else ps p.0 k p.1 (λ e. ne (sym e))) ∙ (same k ∙ find_else qs q.0 k q.1 (λ e. ne (sym (n ∙ e)))))) in
      (λ i. (n i, v i) ∷ tail i)

  pub same_order : (ps qs : List (ℕ × A)) (ns : List ℕ) → AllPairs (λ n k. n ≢ k) ns → numbers_of ps ≡ ns → numbers_of qs ≡ ns → ((k : ℕ) → value_of ps k ≡ value_of qs k) → ps ≡ qs
  same_order ps qs ns apart e f same = same_cells ps qs (own_numbers ps (subst (AllPairs (λ n k. n ≢ k)) (sym e) apart)) (e ∙ sym f) same

-- a list without length is empty
pub none_left : {A : Type 0} (xs : List A) → length xs ≡ 0 → xs ≡ []
none_left [] e = refl
none_left (x ∷ xs) e = absurd (omega (arith, e))
