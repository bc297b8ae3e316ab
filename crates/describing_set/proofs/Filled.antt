-- Places of which the first few are used, with one more used, or one of these changed.
use Rattle.std.proofs.{Common.{ℕ, suc, ◌≡◌, ◌+◌, ◌-◌, ◌<◌, List, [], ◌∷◌, ◌++◌, length, take, set, get_or, refl, sym, ap, subst, ◌∙◌, arith, length-append, append_assoc}, Math.Seq.take-set-lt, lemmas.List.{length-set, set-append_left, take_more_set, get_or_default}}
use Rattle.std.specs.Prelude.{replicate}
use Rattle.describing_set.specs.Places.{AreFilled}

-- One place more is used.

set-filled : {A : Type 0} (blank : A) (used : List A) (k : ℕ) (x : A) → set (used ++ replicate (suc k) blank) (length used) x ≡ used ++ x ∷ replicate k blank
set-filled blank [] k x = refl
set-filled blank (y ∷ ys) k x = ap (λ l. y ∷ l) (set-filled blank ys k x)

pub AreFilled-more : {A : Type 0} (most : ℕ) (blank : A) (n : ℕ) (x : A) (xs : List A) → AreFilled most blank n xs → n < most → AreFilled most blank (n + 1) (set xs n x)
AreFilled-more most blank n x xs f lt =
    let all = f.long in
    let more : take (n + 1) (set xs n x) ≡ take n xs ++ x ∷ [] = take_more_set xs n x (omega arith) in
    let used = f.used in
    let long : length (take n xs ++ x ∷ []) ≡ n + 1 = length-append (take n xs) (x ∷ []) ∙ ap (λ k. k + 1) used in
    let k : most - length (take n xs) ≡ suc (most - (n + 1)) = omega arith in
    let filled : take n xs ++ replicate (suc (most - (n + 1))) blank ≡ xs = ap (λ j. take n xs ++ replicate j blank) (sym k) ∙ f.unused in
    let placed : set xs n x ≡ take n xs ++ x ∷ replicate (most - (n + 1)) blank =
    ap (λ l. set l n x) (sym filled) ∙ ap (λ j. set (take n xs ++ replicate (suc (most - (n + 1))) blank) j x) (sym used) ∙ set-filled blank (take n xs) (most - (n + 1)) x in
    record {
      few = omega arith;
      long = length-set xs n x ∙ all;
      used = ap length more ∙ long;
      unused =
          ap (λ l. l ++ replicate (most - length l) blank) more
          ∙ ap (λ j. (take n xs ++ x ∷ []) ++ replicate (most - j) blank) long
          ∙ append_assoc (take n xs) (x ∷ []) (replicate (most - (n + 1)) blank)
          ∙ sym placed;
    }

-- One used place changes.

pub AreFilled-set : {A : Type 0} (most : ℕ) (blank : A) (n i : ℕ) (x : A) (xs : List A) → AreFilled most blank n xs → i < n → AreFilled most blank n (set xs i x)
AreFilled-set most blank n i x xs f lt =
    let used = take n xs in
    let read : take n (set xs i x) ≡ set used i x = take-set-lt n xs i x lt in
    let len : length (take n (set xs i x)) ≡ length used = ap length read ∙ length-set used i x in
    let within : i < length used = subst (λ k. i < k) (sym f.used) lt in
    record {
      few = f.few;
      long = length-set xs i x ∙ f.long;
      used = len ∙ f.used;
      unused = ap (λ l. l ++ replicate (most - length (take n (set xs i x))) blank) read
          ∙ ap (λ k. set used i x ++ replicate (most - k) blank) len
          ∙ sym (set-append_left used (replicate (most - length used) blank) i x within)
          ∙ ap (λ l. set l i x) f.unused;
    }

-- what the code reads at a used place
pub used-read : {A : Type 0} (xs items : List A) (i k : ℕ) (r d : A) → xs ≡ items → i ≡ k → k < length items → r ≡ get_or xs i r → r ≡ get_or items k d
used-read xs items i k r d a b lt e = e ∙ ap (λ l. get_or l i r) a ∙ ap (λ j. get_or items j r) b ∙ get_or_default items k r d lt
