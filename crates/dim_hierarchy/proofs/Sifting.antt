-- The places that pass a test, moved to the front one by one.
use Rattle.std.proofs.{Common.{ℕ, zero, suc, ◌≡◌, ◌+◌, ◌<◌, ◌≤◌, Bool, List, ◌∷◌, length, get_or, take, refl, sym, ap, subst, arith}, lemmas.List.FromFn.{length-range_with_len, get_or-range_with_len}}
use Rattle.std.specs.{List.range_with_len, Prelude.{All as Each, filter}}
use Rattle.dim_hierarchy.specs.Column.{ArePlaces}

-- of the first so many places those that pass stand in front, and the further ones stand where they did
pub record Sifting (test : ℕ → Bool) (old all : List ℕ) (kept at : ℕ) : Type 0 where
  pub few : kept ≤ at
  pub front : take kept all ≡ filter test (take at old)
  pub rest : (j : ℕ) → at ≤ j → get_or all j 0 ≡ get_or old j 0
  pub long : length all ≡ 32

-- the first so many of all places

take-range : (a n k : ℕ) → k ≤ n → take k (range_with_len a n) ≡ range_with_len a k
take-range a n zero le = refl
take-range a zero (suc k) le = absurd (omega arith)
take-range a (suc n) (suc k) le = ap (λ l. a ∷ l) (take-range (a + 1) n k (omega arith))

pub first_places : (count : ℕ) → count ≤ 32 → take count (range_with_len 0 32) ≡ range_with_len 0 count
first_places count few = take-range 0 32 count few

pub are_first : (count : ℕ) → count ≤ 32 → ArePlaces count (range_with_len 0 32)
are_first count few = record {
  few = few;
  length = refl;
  within = subst (Each (λ place. place < 32)) (sym (first_places count few)) (λ k d lt.
      let n = length-range_with_len 0 count in
      let at = get_or-range_with_len 0 count k d (omega (arith, n, lt)) in
      omega (arith, n, lt, at, few));
}
