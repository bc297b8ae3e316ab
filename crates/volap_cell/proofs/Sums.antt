-- Sums over the actors, of which one changes.
use Rattle.std.proofs.{Common.{◌≡◌, ◌≢◌, ℕ, zero, suc, ◌+◌, ◌<◌, ◌≤◌, eqb, refl, sym, ap, ◌∙◌, arith}, lemmas.Bool.{eqb-true, eqb-false}}
use Rattle.list_words.proofs.Truth.{on_bool}
use Rattle.volap_cell.specs.Sums.{sum_below}

-- the same numbers have the same sum
pub sum-same : (m : ℕ) (f g : ℕ → ℕ) → ((a : ℕ) → a < m → g a ≡ f a) → sum_below m g ≡ sum_below m f
sum-same zero f g same = refl
sum-same (suc m) f g same =
    let s = same m (omega arith) in
    let ih = sum-same m f g (λ a lt. same a (omega arith)) in omega arith

-- so have those of which one changes that isn't counted
pub sum-beyond : (m : ℕ) (f g : ℕ → ℕ) (n : ℕ) → ((a : ℕ) → a ≢ n → g a ≡ f a) → m ≤ n → sum_below m g ≡ sum_below m f
sum-beyond m f g n same le = sum-same m f g (λ a lt. same a (λ e. absurd (omega arith)))

-- one that is counted changes the sum by as much as it changes
pub sum-changed : (m : ℕ) (f g : ℕ → ℕ) (n : ℕ) → ((a : ℕ) → a ≢ n → g a ≡ f a) → n < m → sum_below m g + f n ≡ sum_below m f + g n
sum-changed zero f g n same lt = absurd (omega arith)
sum-changed (suc m) f g n same lt = on_bool (eqb m n)
    (λ q. let e = eqb-true _ _ q in
    let s = sum-beyond m f g n same (omega arith) in
    let a : g m ≡ g n = ap g e in let b : f m ≡ f n = ap f e in omega arith)
    (λ q. let ne = eqb-false _ _ q in let s = same m ne in
    let ih = sum-changed m f g n same (omega arith) in omega arith)

-- one that keeps its number keeps the sum
pub sum-kept : (m : ℕ) (f g : ℕ → ℕ) (n : ℕ) → ((a : ℕ) → a ≢ n → g a ≡ f a) → g n ≡ f n → sum_below m g ≡ sum_below m f
sum-kept m f g n same at = sum-same m f g (λ a lt. on_bool (eqb a n)
    (λ q. let e = eqb-true _ _ q in ap g e ∙ at ∙ sym (ap f e))
    (λ q. same a (eqb-false _ _ q)))

-- one of them is no more than the sum
pub sum-some : (m : ℕ) (f : ℕ → ℕ) (n : ℕ) → n < m → f n ≤ sum_below m f
sum-some zero f n lt = absurd (omega arith)
sum-some (suc m) f n lt = on_bool (eqb m n)
    (λ q. let e = ap f (eqb-true _ _ q) in omega arith)
    (λ q. let ne = eqb-false _ _ q in let ih = sum-some m f n (omega arith) in omega arith)

-- of nothing but zeros it is zero
pub sum-zero : (m : ℕ) (f : ℕ → ℕ) → ((a : ℕ) → a < m → f a ≡ 0) → sum_below m f ≡ 0
sum-zero zero f none = refl
sum-zero (suc m) f none =
    let s = none m (omega arith) in
    let ih = sum-zero m f (λ a lt. none a (omega arith)) in omega arith

-- sums are added number by number
pub sum-add : (m : ℕ) (f g : ℕ → ℕ) → sum_below m (λ a. f a + g a) ≡ sum_below m f + sum_below m g
sum-add zero f g = refl
sum-add (suc m) f g = let ih = sum-add m f g in omega arith

-- numbers that are no more have no greater sum
pub sum-no-more : (m : ℕ) (f g : ℕ → ℕ) → ((a : ℕ) → a < m → g a ≤ f a) → sum_below m g ≤ sum_below m f
sum-no-more zero f g le = omega arith
sum-no-more (suc m) f g le = (let k = le m (omega arith) in let ih = sum-no-more m f g (λ a lt. le a (omega arith)) in omega arith)

-- one number less, and no other one more: a lesser sum
pub sum-less : (m : ℕ) (f g : ℕ → ℕ) (n : ℕ) → n < m → g n < f n → ((a : ℕ) → a ≢ n → g a ≤ f a) → sum_below m g < sum_below m f
sum-less zero f g n lt less le = absurd (omega arith)
sum-less (suc m) f g n lt less le = on_bool (eqb m n)
    (λ q. let e = eqb-true _ _ q in
    let a : g m ≡ g n = ap g e in let b : f m ≡ f n = ap f e in
    let others = sum-no-more m f g (λ a lt. le a (λ z. absurd (omega arith))) in omega arith)
    (λ q. let ne = eqb-false _ _ q in
    let k = le m ne in let ih = sum-less m f g n (omega arith) less le in omega arith)
