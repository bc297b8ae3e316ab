-- The fullest and the emptiest worker.
use Rattle.std.proofs.{Common.{◌≡◌, ℕ, zero, suc, ◌+◌, ◌<◌, ◌≤◌, Bool, true, false, ◌&&◌, ◌||◌, cond, nat_lt, List, Some, None, unwrap_or, add-one, refl, sym, ap, ◌∙◌, arith}, lemmas.Bool.{lt-ltb, le-ltb}, lemmas.List.Sums.fold_push}
use Rattle.shard_plan.specs.{Balancing.{earlier, first_by, numbers_below, rows_on, has_more, has_fewer, fullest, emptiest}, declared.action.Load.Load}

-- the first of the numbers below n by an order, or 0 where there is none
abbrev found_below : (ℕ → ℕ → Bool) → ℕ → ℕ
found_below order n = unwrap_or (first_by order (numbers_below n)) 0

first_by-push : (order : ℕ → ℕ → Bool) (n : ℕ) → first_by order (numbers_below (suc n)) ≡ earlier order (first_by order (numbers_below n)) n
first_by-push order n = fold_push (earlier order) None (numbers_below n) n

-- there is a first one, and it is below n
record IsFoundBelow (order : ℕ → ℕ → Bool) (n : ℕ) : Type 0 where
  number : ℕ
  below : number < n
  is : first_by order (numbers_below n) ≡ Some number

found-one : (order : ℕ → ℕ → Bool) (n found : ℕ) (swaps : Bool) → swaps ≡ order n found → found < n → first_by order (numbers_below n) ≡ Some found
    → IsFoundBelow order (suc n)
found-one order n found true test below is = record {
  number = n;
  below = omega arith;
  is = first_by-push order n ∙ ap (λ first. earlier order first n) is ∙ ap (λ b. Some (cond b n found)) (sym test);
}
found-one order n found false test below is = record {
  number = found;
  below = omega arith;
  is = first_by-push order n ∙ ap (λ first. earlier order first n) is ∙ ap (λ b. Some (cond b n found)) (sym test);
}

found-some : (order : ℕ → ℕ → Bool) (n : ℕ) → IsFoundBelow order (suc n)
found-some order zero = record { number = 0; below = omega arith; is = refl }
found-some order (suc n) = let before = found-some order n in found-one order (suc n) before.number _ refl before.below before.is

-- one more number is looked at
found_below-more : (order : ℕ → ℕ → Bool) (beats : Bool) (n found : ℕ) → found ≡ found_below order n → (found < n → order n found ≡ beats)
    → found_below order (suc n) ≡ cond beats n found
found_below-more order true zero found is test = refl
found_below-more order false zero found is test = sym is
found_below-more order beats (suc n) found is test =
    let before = found-some order n in
    let same : found ≡ before.number = is ∙ ap (λ first. unwrap_or first 0) before.is in
    ap (λ first. unwrap_or first 0) (first_by-push order (suc n) ∙ ap (λ first. earlier order first (suc n)) (before.is ∙ ap Some (sym same)))
    ∙ ap (λ b. cond b (suc n) found) (test (omega (arith, before.below)))

-- on a tie the number that was found before is the lower one
tie-stays : (more same lower : Bool) → lower ≡ false → (more || (same && lower)) ≡ more
tie-stays true same lower e = refl
tie-stays false true lower e = e
tie-stays false false lower e = refl

fullest-more : (loads : List Load) (n found : ℕ) → found ≡ fullest loads n
    → fullest loads (n + 1) ≡ cond (nat_lt (rows_on loads found) (rows_on loads n)) n found
fullest-more loads n found is =
    rw add-one (found_below-more (has_more loads) (nat_lt (rows_on loads found) (rows_on loads n)) n found is
    (λ below. tie-stays (nat_lt (rows_on loads found) (rows_on loads n)) _ (nat_lt n found) (le-ltb n found (omega arith))))

emptiest-more : (loads : List Load) (n found : ℕ) → found ≡ emptiest loads n
    → emptiest loads (n + 1) ≡ cond (nat_lt (rows_on loads n) (rows_on loads found)) n found
emptiest-more loads n found is =
    rw add-one (found_below-more (has_fewer loads) (nat_lt (rows_on loads n) (rows_on loads found)) n found is
    (λ below. tie-stays (nat_lt (rows_on loads n) (rows_on loads found)) _ (nat_lt n found) (le-ltb n found (omega arith))))

pub fullest-takes : (loads : List Load) (n found rows found_rows : ℕ) → found ≡ fullest loads n → rows ≡ rows_on loads n → found_rows ≡ rows_on loads found
    → found_rows < rows → n ≡ fullest loads (n + 1)
fullest-takes loads n found rows found_rows is rows_is found_is more =
    sym (fullest-more loads n found is ∙ ap (λ b. cond b n found) (lt-ltb (rows_on loads found) (rows_on loads n) (omega arith)))

pub fullest-stays : (loads : List Load) (n found rows found_rows : ℕ) → found ≡ fullest loads n → rows ≡ rows_on loads n → found_rows ≡ rows_on loads found
    → rows ≤ found_rows → found ≡ fullest loads (n + 1)
fullest-stays loads n found rows found_rows is rows_is found_is less =
    sym (fullest-more loads n found is ∙ ap (λ b. cond b n found) (le-ltb (rows_on loads found) (rows_on loads n) (omega arith)))

pub emptiest-takes : (loads : List Load) (n found rows found_rows : ℕ) → found ≡ emptiest loads n → rows ≡ rows_on loads n → found_rows ≡ rows_on loads found
    → rows < found_rows → n ≡ emptiest loads (n + 1)
emptiest-takes loads n found rows found_rows is rows_is found_is more =
    sym (emptiest-more loads n found is ∙ ap (λ b. cond b n found) (lt-ltb (rows_on loads n) (rows_on loads found) (omega arith)))

pub emptiest-stays : (loads : List Load) (n found rows found_rows : ℕ) → found ≡ emptiest loads n → rows ≡ rows_on loads n → found_rows ≡ rows_on loads found
    → found_rows ≤ rows → found ≡ emptiest loads (n + 1)
emptiest-stays loads n found rows found_rows is rows_is found_is less =
    sym (emptiest-more loads n found is ∙ ap (λ b. cond b n found) (le-ltb (rows_on loads n) (rows_on loads found) (omega arith)))
