-- How many numbers there can be that differ and are below one, in a list or as the keys of things that are counted.
use Rattle.std.proofs.{Common.{◌≡◌, ℕ, zero, suc, ◌+◌, ◌<◌, ◌≤◌, Bool, true, cond, eqb, leb, List, [], ◌∷◌, length, refl, sym, ap, ◌∙◌, subst, arith}, lemmas.Bool.{leb-true, leb-false, eqb-true, eqb-false}}
use Rattle.list_words.specs.Counts.{same, times}
use Rattle.list_words.proofs.{Times.{same_is, same_not}, Truth.on_bool}
use Rattle.volap_cell.specs.Sums.{sum_below}
use Rattle.volap_cell.proofs.Sums.{sum-add, sum-no-more, sum-zero}

pub sum-ones : (n : ℕ) → sum_below n (λ r. 1) ≡ n
sum-ones zero = refl
sum-ones (suc n) = let ih = sum-ones n in omega arith

-- a number below one is there once
one-there : (n x : ℕ) → x < n → sum_below n (λ r. same r x) ≡ 1
one-there zero x lt = absurd (omega arith)
one-there (suc n) x lt = on_bool (eqb n x)
    (λ q. let e = eqb-true _ _ q in
    let o = same_is n x e in
    let none = sum-zero n (λ r. same r x) (λ r below. same_not r x (λ z. absurd (omega (arith, z, e)))) in omega arith)
    (λ q. let ne = eqb-false _ _ q in
    let o = same_not n x ne in
    let ih = one-there n x (omega arith) in omega arith)

-- a list of numbers below one is as long as the sum of how often each of these is in it
length-sum : (xs : List ℕ) (n : ℕ) → ((r : ℕ) → 1 ≤ times r xs → r < n) → length xs ≡ sum_below n (λ r. times r xs)
length-sum [] n below = sym (sum-zero n (λ r. 0) (λ r lt. refl))
length-sum (x ∷ xs) n below =
    let o = same_is x x refl in
    let here = one-there n x (below x (omega arith)) in
    let ih = length-sum xs n (λ r k. below r (omega arith)) in
    let both = sum-add n (λ r. same r x) (λ r. times r xs) in omega arith

-- numbers below one, none of which is there twice, are at most as many
pub length-few : (xs : List ℕ) (n : ℕ) → ((r : ℕ) → times r xs ≤ 1) → ((r : ℕ) → 1 ≤ times r xs → r < n) → length xs ≤ n
length-few xs n once below =
    let all = length-sum xs n below in
    let most = sum-no-more n (λ r. 1) (λ r. times r xs) (λ r lt. once r) in
    let ones = sum-ones n in omega arith

-- the numbers below one that pass a test
abbrev pub passing : (ℕ → Bool) → ℕ → List ℕ
passing test zero = []
passing test (suc n) = cond (test n) (n ∷ passing test n) (passing test n)

passing-beyond : (test : ℕ → Bool) (n r : ℕ) → n ≤ r → times r (passing test n) ≡ 0
passing-beyond test zero r le = refl
passing-beyond test (suc n) r le =
    let ih = passing-beyond test n r (omega arith) in
    let o = same_not r n (λ e. absurd (omega arith)) in
    on_bool (test n) (λ q. rw q (omega arith)) (λ q. rw q ih)

-- each that passes is there once, where none beyond passes
pub passing-once : (test : ℕ → Bool) (n : ℕ) → ((r : ℕ) → test r ≡ true → r < n) → (r : ℕ) → times r (passing test n) ≡ cond (test r) 1 0
passing-once test n below r = on_bool (leb n r)
    (λ q. let le = leb-true _ _ q in
    let none = passing-beyond test n r le in
    on_bool (test r) (λ t. let lt = below r t in absurd (omega arith)) (λ t. none ∙ sym (rw t refl)))
    (λ q. let lt = leb-false _ _ q in inside n r lt)
  where
    inside : (n r : ℕ) → r < n → times r (passing test n) ≡ cond (test r) 1 0
    inside zero r lt = absurd (omega arith)
    inside (suc n) r lt = on_bool (eqb r n)
        (λ q. let e = eqb-true _ _ q in
        let o = same_is r n e in
        let past = passing-beyond test n r (omega arith) in
        let t : test r ≡ test n = ap test e in
        on_bool (test n) (λ p. rw (p, t ∙ p) (omega arith)) (λ p. rw (p, t ∙ p) (omega arith)))
        (λ q. let ne = eqb-false _ _ q in
        let o = same_not r n ne in
        let ih = inside n r (omega arith) in
        on_bool (test n) (λ p. rw p (omega arith)) (λ p. rw p ih))

-- Things that are counted, each once, with a key each.

abbrev keys : (ℕ → ℕ) → (ℕ → ℕ) → ℕ → List ℕ
keys f key zero = []
keys f key (suc m) = cond (eqb (f m) 0) (keys f key m) (key m ∷ keys f key m)

module _ (f key : ℕ → ℕ) (few : (a : ℕ) → f a ≤ 1) where
  -- a key is that of something which is counted
  keyed : (m x : ℕ) → 1 ≤ times x (keys f key m) → (a : ℕ) × (a < m) × (1 ≤ f a) × (key a ≡ x)
  keyed zero x k = absurd (omega arith)
  keyed (suc m) x k = on_bool (eqb (f m) 0)
      (λ q. let (a, lt, some, is) = keyed m x (rw q at k) in (a, omega arith, some, is))
      (λ q. let some = eqb-false _ _ q in
      let more : 1 ≤ same x (key m) + times x (keys f key m) = rw q at k in
      on_bool (eqb x (key m))
      (λ p. (m, omega arith, omega arith, sym (eqb-true _ _ p)))
      (λ p. let o = same_not x (key m) (eqb-false _ _ p) in
      let (a, lt, some, is) = keyed m x (omega arith) in (a, omega arith, some, is)))

  keys-many : (m : ℕ) → sum_below m f ≤ length (keys f key m)
  keys-many zero = omega arith
  keys-many (suc m) =
      let ih = keys-many m in
      let one = few m in
      on_bool (eqb (f m) 0)
      (λ q. let none = eqb-true _ _ q in rw q (omega arith))
      (λ q. rw q (omega arith))

  -- of different keys below one there are at most as many
  pub sum-keyed : (m k : ℕ) → ((a : ℕ) → a < m → 1 ≤ f a → key a < k) → ((a b : ℕ) → a < m → b < m → 1 ≤ f a → 1 ≤ f b → key a ≡ key b → a ≡ b) → sum_below m f ≤ k
  sum-keyed m k below apart =
      let many = keys-many m in
      let most = length-few (keys f key m) k (once m apart) (λ x there. let (a, lt, some, is) = keyed m x there in subst (λ (y : ℕ). y < k) is (below a lt some)) in omega arith
    where
      once : (m : ℕ) → ((a b : ℕ) → a < m → b < m → 1 ≤ f a → 1 ≤ f b → key a ≡ key b → a ≡ b) → (x : ℕ) → times x (keys f key m) ≤ 1
      once zero apart x = omega arith
      once (suc m) apart x =
          let ih = once m (λ a b la lb. apart a b (omega arith) (omega arith)) x in
          on_bool (eqb (f m) 0)
          (λ q. rw q ih)
          (λ q. let some = eqb-false _ _ q in
          rw q (on_bool (eqb x (key m))
          (λ p. on_bool (leb 1 (times x (keys f key m)))
          (λ t. let (a, lt, counted, is) = keyed m x (leb-true _ _ t) in
          let same_one : a ≡ m = apart a m (omega arith) (omega arith) counted (omega arith) (is ∙ eqb-true _ _ p) in absurd (omega arith))
          (λ t. let none = leb-false _ _ t in let o = same_is x (key m) (eqb-true _ _ p) in omega arith))
          (λ p. let o = same_not x (key m) (eqb-false _ _ p) in omega arith)))
