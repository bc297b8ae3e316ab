-- The sum of counters of which two change, and what the lists of a seat are after a transfer.
use Rattle.std.proofs.{Common.{◌≡◌, ◌≢◌, ℕ, zero, suc, ◌+◌, List, [], ◌∷◌, Bool, cond, set, sym, refl, ap, ◌∙◌, arith, eq-eqb, ne_eqb}, lemmas.List.Sums.sum_by-cons}
use Rattle.std.specs.List.{sum}
use mathlib.Core.Option.{some, some-injective, some-ne-none}
use mathlib.Core.Logic.{dite}
use native.Mathlib.Decide.{ℕ_discrete}
use lib.ListN.{get_elem?}
use Rattle.atomic_table.proofs.Lists.{set_else}
use Rattle.turn_table.specs.Numbered.{value_of, replace}
use Rattle.counter_core.specs.Counters.{KeepsSum}

module _ {A : Type 0} where
  pub here : (ps : List (ℕ × A)) (k : ℕ) (x : A) → value_of ((k, x) ∷ ps) k ≡ some x
  here ps k x = ap (λ (b : Bool). cond b (some x) (value_of ps k)) (eq-eqb k k refl)

  pub else : (ps : List (ℕ × A)) (k j : ℕ) (x : A) → k ≢ j → value_of ((k, x) ∷ ps) j ≡ value_of ps j
  else ps k j x ne = ap (λ (b : Bool). cond b (some x) (value_of ps j)) (ne_eqb k j ne)

  pub replace_same : (ps : List (ℕ × A)) (k : ℕ) (x : A) → value_of ps k ≡ some x → replace ps k x ≡ ps
  replace_same [] k x h = absurd (some-ne-none x (sym h))
  replace_same (p ∷ ps) k x h = dite (ℕ_discrete p.0 k)
      (λ (q : p.0 ≡ k). let b = eq-eqb p.0 k q in let v : p.1 ≡ x = some-injective p.1 x (sym (ap (λ (t : Bool). cond t (some p.1) (value_of ps k)) b) ∙ h) in
      ap (λ (t : Bool). cond t ((k, x) ∷ ps) (p ∷ replace ps k x)) b ∙ (λ i. (sym q i, sym v i) ∷ ps))
      (λ (ne : p.0 ≢ k). let b = ne_eqb p.0 k ne in
      ap (λ (t : Bool). cond t ((k, x) ∷ ps) (p ∷ replace ps k x)) b ∙ ap (λ (l : List (ℕ × A)). p ∷ l) (replace_same ps k x (sym (ap (λ (t : Bool). cond t (some p.1) (value_of ps k)) b) ∙ h)))

sum_cons : (c : ℕ) (cs : List ℕ) → sum (c ∷ cs) ≡ c + sum cs
sum_cons c cs = sum_by-cons (λ n. n) c cs

sum_set : (cells : List ℕ) (k x y : ℕ) → get_elem? cells k ≡ some x → sum (set cells k y) + x ≡ sum cells + y
sum_set [] k x y e = absurd (some-ne-none x (sym e))
sum_set (c ∷ cs) zero x y e = let h : c ≡ x = some-injective c x e in let a : sum (set (c ∷ cs) 0 y) ≡ y + sum cs = sum_cons y cs in let b : sum (c ∷ cs) ≡ c + sum cs = sum_cons c cs in omega (arith, a, b, h)
sum_set (c ∷ cs) (suc k) x y e = let h : sum (set cs k y) + x ≡ sum cs + y = sum_set cs k x y e in
    let a : sum (set (c ∷ cs) (suc k) y) ≡ c + sum (set cs k y) = sum_cons c (set cs k y) in let b : sum (c ∷ cs) ≡ c + sum cs = sum_cons c cs in omega (arith, a, b, h)

pub two : (i j x y v w : ℕ) → v + w ≡ x + y → KeepsSum ((i, x) ∷ (j, y) ∷ []) ((i, v) ∷ (j, w) ∷ [])
two i j x y v w e cells held apart =
    let ne : i ≢ j = λ q. some-ne-none w (sym (here [] j w) ∙ (ap (value_of ((j, w) ∷ [])) (sym q) ∙ apart.0)) in
    let hx : get_elem? cells i ≡ some x = held i x (here ((j, y) ∷ []) i x) in
    let hy : get_elem? cells j ≡ some y = held j y (else ((j, y) ∷ []) i j x ne ∙ here [] j y) in
    let a : sum (set cells j w) + y ≡ sum cells + w = sum_set cells j y w hy in
    let b : sum (set (set cells j w) i v) + x ≡ sum (set cells j w) + v = sum_set (set cells j w) i x v (set_else cells j i w ne ∙ hx) in omega arith
