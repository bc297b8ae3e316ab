-- The first place in a list at which a test passes.
use Rattle.std.proofs.{Common.{ℕ, ◌≡◌, ◌<◌, List, length, get_or, Bool, true, false, cond, ap, arith, inl, inr}, lemmas.Bool.{cases_lt, lt-ltb, le-ltb}, lemmas.List.Sums.{position_or_len_is, fails_before_first}}
use Rattle.std.specs.{List.position_or_len, Prelude.{Some, None, position}}

-- the test passes here and at no place before
pub position-first : {X : Type 0} (p : X → Bool) (xs : List X) (i : ℕ) (d : X) → i < length xs → ((k : ℕ) → k < i → p (get_or xs k d) ≡ false) → p (get_or xs i d) ≡ true → position p xs ≡ Some i
position-first p xs i d lt before here =
    let e : position_or_len p xs ≡ i = position_or_len_is p xs i d (omega arith) before (λ _. here) in
    rw e (ap (λ b. cond b (Some i) None) (lt-ltb i (length xs) lt))

-- the test passes nowhere
pub position-nowhere : {X : Type 0} (p : X → Bool) (xs : List X) (d : X) → ((k : ℕ) → k < length xs → p (get_or xs k d) ≡ false) → position p xs ≡ None
position-nowhere p xs d before =
    let e : position_or_len p xs ≡ length xs = position_or_len_is p xs (length xs) d (omega arith) before (λ lt. absurd (omega arith)) in
    rw e (ap (λ b. cond b (Some (length xs)) None) (le-ltb (length xs) (length xs) (omega arith)))

-- where there is no first place, the test passes nowhere
pub position-None : {X : Type 0} (p : X → Bool) (xs : List X) (d : X) → position p xs ≡ None → (k : ℕ) → k < length xs → p (get_or xs k d) ≡ false
position-None p xs d none k lt = elim (cases_lt (position_or_len p xs) (length xs)) [
  | inl found ↦
      let some : position p xs ≡ Some (position_or_len p xs) = ap (λ b. cond b (Some (position_or_len p xs)) None) (lt-ltb (position_or_len p xs) (length xs) found) in
      absurd cc
  | inr past ↦ fails_before_first p xs k d (omega arith)
]
