-- Lists of with_numbers values.
use Rattle.std.proofs.Common.{◌≡◌, ◌≢◌, ◌⊎◌, ℕ, zero, suc, ◌<◌, ◌≤◌, List, [], ◌∷◌, ◌++◌, Bool, cond, length, set, remove, sym, refl, ap, ◌∙◌, subst, inl, inr, ⊎_elim, eq-eqb, ne_eqb, arith, length-set, length-append}
use mathlib.Core.Logic.{dite}
use mathlib.Core.Option.{Option, none, some, some-injective, some-ne-none}
use native.Mathlib.Decide.{ℕ_discrete}
use lib.ListN.{get_elem?}
use Rattle.atomic_table.proofs.Lists.{set_here, set_else}
use Rattle.turn_table.specs.Numbered.{value_of, numbers_of, HaveOwnNumbers, write_all, replace, without, Extends}

abbrev pick : {P : Type 0} → Dec P → ℕ → ℕ → ℕ
pick (yes _) a b = a
pick (no _) a b = b

pub put : (ℕ → ℕ) → ℕ → ℕ → ℕ → ℕ
put f i c j = pick (ℕ_discrete j i) c (f j)

pub put_here : (f : ℕ → ℕ) (i c : ℕ) → put f i c i ≡ c
unfolding put
put_here f i c = go (ℕ_discrete i i)
  where
    go : (d : Dec (i ≡ i)) → pick d c (f i) ≡ c
    go (yes _) = refl
    go (no n) = absurd (n refl)

pub put_else : (f : ℕ → ℕ) (i c j : ℕ) → j ≢ i → put f i c j ≡ f j
unfolding put
put_else f i c j other = go (ℕ_discrete j i)
  where
    go : (d : Dec (j ≡ i)) → pick d c (f j) ≡ f j
    go (yes e) = absurd (other e)
    go (no _) = refl

module _ {A : Type 0} where
  pub find_here : (ps : List (ℕ × A)) (k : ℕ) (x : A) → value_of ((k, x) ∷ ps) k ≡ some x
  find_here ps k x = ap (λ (b : Bool). cond b (some x) (value_of ps k)) (eq-eqb k k refl)

  pub find_else : (ps : List (ℕ × A)) (k j : ℕ) (x : A) → k ≢ j → value_of ((k, x) ∷ ps) j ≡ value_of ps j
  find_else ps k j x ne = ap (λ (b : Bool). cond b (some x) (value_of ps j)) (ne_eqb k j ne)

  -- what is found is the first, or stands after_first it
  pub found : (ps : List (ℕ × A)) (k j : ℕ) (x y : A) → value_of ((k, x) ∷ ps) j ≡ some y → ((k ≡ j) × (x ≡ y)) ⊎ ((k ≢ j) × (value_of ps j ≡ some y))
  found ps k j x y e = dite (ℕ_discrete k j)
      (λ (same : k ≡ j). inl (same, some-injective x y (sym (find_here ps k x) ∙ (ap (value_of ((k, x) ∷ ps)) same ∙ e))))
      (λ (ne : k ≢ j). inr (ne, sym (find_else ps k j x ne) ∙ e))

  pub some_or_none : (o : Option A) → ((x : A) × (o ≡ some x)) ⊎ (o ≡ none)
  some_or_none none = inr refl
  some_or_none (some x) = inl (x, refl)

  pub length_write_all : (xs : List A) (ps : List (ℕ × A)) → length (write_all xs ps) ≡ length xs
  length_write_all xs [] = refl
  length_write_all xs (p ∷ ps) = length-set (write_all xs ps) p.0 p.1 ∙ length_write_all xs ps

  pub below_length : (xs : List A) (k : ℕ) (x : A) → get_elem? xs k ≡ some x → k < length xs
  below_length [] k x e = absurd (some-ne-none x (sym e))
  below_length (y ∷ ys) zero x e = omega arith
  below_length (y ∷ ys) (suc k) x e = let h : k < length ys = below_length ys k x e in omega arith

  pub there : (xs : List A) (k : ℕ) → k < length xs → (x : A) × (get_elem? xs k ≡ some x)
  there [] k h = absurd (omega arith)
  there (y ∷ ys) zero h = (y, refl)
  there (y ∷ ys) (suc k) h = there ys k (omega arith)

  -- a number that is written has the value written
  pub write_all_here : (xs : List A) (ps : List (ℕ × A)) (k : ℕ) (x : A) → k < length xs → value_of ps k ≡ some x → get_elem? (write_all xs ps) k ≡ some x
  write_all_here xs [] k x l h = absurd (some-ne-none x (sym h))
  write_all_here xs (p ∷ ps) k x l h = ⊎_elim
      (λ (t : (p.0 ≡ k) × (p.1 ≡ x)). let w : k < length (write_all xs ps) = omega (arith, length_write_all xs ps) in subst (λ (z : ℕ × A). get_elem? (set (write_all xs ps) z.0 z.1) k ≡ some x) (λ i. (sym t.0 i, sym t.1 i)) (set_here (write_all xs ps) k x w))
      (λ (t : (p.0 ≢ k) × (value_of ps k ≡ some x)). set_else (write_all xs ps) p.0 k p.1 (λ e. t.0 (sym e)) ∙ write_all_here xs ps k x l t.1)
      (found ps p.0 k p.1 x h)

  -- and no other changes
  pub write_all_else : (xs : List A) (ps : List (ℕ × A)) (k : ℕ) → value_of ps k ≡ none → get_elem? (write_all xs ps) k ≡ get_elem? xs k
  write_all_else xs [] k h = refl
  write_all_else xs (p ∷ ps) k h = dite (ℕ_discrete p.0 k)
      (λ (same : p.0 ≡ k). absurd (some-ne-none p.1 (sym (find_here ps p.0 p.1) ∙ (ap (value_of (p ∷ ps)) same ∙ h))))
      (λ (ne : p.0 ≢ k). set_else (write_all xs ps) p.0 k p.1 (λ e. ne (sym e)) ∙ write_all_else xs ps k (sym (find_else ps p.0 k p.1 ne) ∙ h))

  pub replace_here : (ps : List (ℕ × A)) (k : ℕ) (x y : A) → value_of ps k ≡ some x → value_of (replace ps k y) k ≡ some y
  replace_here [] k x y h = absurd (some-ne-none x (sym h))
  replace_here (p ∷ ps) k x y h = dite (ℕ_discrete p.0 k)
      (λ (same : p.0 ≡ k). ap (λ (b : Bool). value_of (cond b ((k, y) ∷ ps) (p ∷ replace ps k y)) k) (eq-eqb p.0 k same) ∙ find_here ps k y)
      (λ (ne : p.0 ≢ k). ap (λ (b : Bool). value_of (cond b ((k, y) ∷ ps) (p ∷ replace ps k y)) k) (ne_eqb p.0 k ne) ∙ (find_else (replace ps k y) p.0 k p.1 ne ∙ replace_here ps k x y (sym (find_else ps p.0 k p.1 ne) ∙ h)))

  pub replace_else : (ps : List (ℕ × A)) (k j : ℕ) (y : A) → j ≢ k → value_of (replace ps k y) j ≡ value_of ps j
  replace_else [] k j y h = refl
  replace_else (p ∷ ps) k j y h = dite (ℕ_discrete p.0 k)
      (λ (same : p.0 ≡ k). ap (λ (b : Bool). value_of (cond b ((k, y) ∷ ps) (p ∷ replace ps k y)) j) (eq-eqb p.0 k same) ∙ (find_else ps k j y (λ e. h (sym e)) ∙ sym (find_else ps p.0 j p.1 (λ e. h (sym e ∙ same)))))
      (λ (ne : p.0 ≢ k). ap (λ (b : Bool). value_of (cond b ((k, y) ∷ ps) (p ∷ replace ps k y)) j) (ne_eqb p.0 k ne) ∙ dite (ℕ_discrete p.0 j)
      (λ (here : p.0 ≡ j). subst (λ (z : ℕ). value_of (p ∷ replace ps k y) z ≡ value_of (p ∷ ps) z) here (find_here (replace ps k y) p.0 p.1 ∙ sym (find_here ps p.0 p.1)))
      (λ (other : p.0 ≢ j). find_else (replace ps k y) p.0 j p.1 other ∙ (replace_else ps k j y h ∙ sym (find_else ps p.0 j p.1 other))))

  pub numbers_replace : (ps : List (ℕ × A)) (k : ℕ) (y : A) → numbers_of (replace ps k y) ≡ numbers_of ps
  numbers_replace [] k y = refl
  numbers_replace (p ∷ ps) k y = dite (ℕ_discrete p.0 k)
      (λ (same : p.0 ≡ k). ap (λ (b : Bool). numbers_of (cond b ((k, y) ∷ ps) (p ∷ replace ps k y))) (eq-eqb p.0 k same) ∙ (λ i. sym same i ∷ numbers_of ps))
      (λ (ne : p.0 ≢ k). ap (λ (b : Bool). numbers_of (cond b ((k, y) ∷ ps) (p ∷ replace ps k y))) (ne_eqb p.0 k ne) ∙ ap (λ (ns : List ℕ). p.0 ∷ ns) (numbers_replace ps k y))

  pub replace_found : (ps : List (ℕ × A)) (k j : ℕ) (y x a : A) → value_of ps k ≡ some a → value_of (replace ps k y) j ≡ some x → ((j ≡ k) × (y ≡ x)) ⊎ ((j ≢ k) × (value_of ps j ≡ some x))
  replace_found ps k j y x a has e = dite (ℕ_discrete j k)
      (λ (same : j ≡ k). inl (same, some-injective y x (sym (replace_here ps k a y has) ∙ (ap (value_of (replace ps k y)) (sym same) ∙ e))))
      (λ (ne : j ≢ k). inr (ne, sym (replace_else ps k j y ne) ∙ e))

  pub without_here : (ps : List (ℕ × A)) (k : ℕ) → value_of (without ps k) k ≡ none
  without_here [] k = refl
  without_here (p ∷ ps) k = dite (ℕ_discrete p.0 k)
      (λ (same : p.0 ≡ k). ap (λ (b : Bool). value_of (cond b (without ps k) (p ∷ without ps k)) k) (eq-eqb p.0 k same) ∙ without_here ps k)
      (λ (ne : p.0 ≢ k). ap (λ (b : Bool). value_of (cond b (without ps k) (p ∷ without ps k)) k) (ne_eqb p.0 k ne) ∙ (find_else (without ps k) p.0 k p.1 ne ∙ without_here ps k))

  pub without_else : (ps : List (ℕ × A)) (k j : ℕ) → j ≢ k → value_of (without ps k) j ≡ value_of ps j
  without_else [] k j h = refl
  without_else (p ∷ ps) k j h = dite (ℕ_discrete p.0 k)
      (λ (same : p.0 ≡ k). ap (λ (b : Bool). value_of (cond b (without ps k) (p ∷ without ps k)) j) (eq-eqb p.0 k same) ∙ (without_else ps k j h ∙ sym (find_else ps p.0 j p.1 (λ e. h (sym e ∙ same)))))
      (λ (ne : p.0 ≢ k). ap (λ (b : Bool). value_of (cond b (without ps k) (p ∷ without ps k)) j) (ne_eqb p.0 k ne) ∙ dite (ℕ_discrete p.0 j)
      (λ (here : p.0 ≡ j). subst (λ (z : ℕ). value_of (p ∷ without ps k) z ≡ value_of (p ∷ ps) z) here (find_here (without ps k) p.0 p.1 ∙ sym (find_here ps p.0 p.1)))
      (λ (other : p.0 ≢ j). find_else (without ps k) p.0 j p.1 other ∙ (without_else ps k j h ∙ sym (find_else ps p.0 j p.1 other))))

  pub apart_without : (ps : List (ℕ × A)) (k : ℕ) → HaveOwnNumbers ps → HaveOwnNumbers (without ps k)
  apart_without [] k d = tt
  apart_without (p ∷ ps) k d = dite (ℕ_discrete p.0 k)
      (λ (same : p.0 ≡ k). subst (λ (b : Bool). HaveOwnNumbers (cond b (without ps k) (p ∷ without ps k))) (sym (eq-eqb p.0 k same)) (apart_without ps k d.1))
      (λ (ne : p.0 ≢ k). subst (λ (b : Bool). HaveOwnNumbers (cond b (without ps k) (p ∷ without ps k))) (sym (ne_eqb p.0 k ne)) (without_else ps k p.0 ne ∙ d.0, apart_without ps k d.1))

  -- a value put back in front of the others is found where it was
  pub back_in_front : (ps : List (ℕ × A)) (k : ℕ) (x : A) → value_of ps k ≡ some x → (j : ℕ) → value_of ((k, x) ∷ without ps k) j ≡ value_of ps j
  back_in_front ps k x h j = dite (ℕ_discrete k j)
      (λ (same : k ≡ j). ap (value_of ((k, x) ∷ without ps k)) (sym same) ∙ (find_here (without ps k) k x ∙ (sym h ∙ ap (value_of ps) same)))
      (λ (ne : k ≢ j). find_else (without ps k) k j x ne ∙ without_else ps k j (λ e. ne (sym e)))

  pub apart_in_front : (ps : List (ℕ × A)) (k : ℕ) (x : A) → HaveOwnNumbers ps → HaveOwnNumbers ((k, x) ∷ without ps k)
  apart_in_front ps k x d = (without_here ps k, apart_without ps k d)

  -- what stands at a place is found by its number
  pub at_found : (ps : List (ℕ × A)) (i : ℕ) (p : ℕ × A) → HaveOwnNumbers ps → get_elem? ps i ≡ some p → value_of ps p.0 ≡ some p.1
  at_found [] i p d e = absurd (some-ne-none p (sym e))
  at_found (q ∷ qs) zero p d e = let s : q ≡ p = some-injective q p e in subst (λ (z : ℕ × A). value_of (q ∷ qs) z.0 ≡ some z.1) s (find_here qs q.0 q.1)
  at_found (q ∷ qs) (suc i) p d e = let h : value_of qs p.0 ≡ some p.1 = at_found qs i p d.1 e in
      find_else qs q.0 p.0 q.1 (λ s. some-ne-none p.1 (sym h ∙ (ap (value_of qs) (sym s) ∙ d.0))) ∙ h

  without_none : (ps : List (ℕ × A)) (k : ℕ) → value_of ps k ≡ none → without ps k ≡ ps
  without_none [] k h = refl
  without_none (p ∷ ps) k h = dite (ℕ_discrete p.0 k)
      (λ (same : p.0 ≡ k). absurd (some-ne-none p.1 (sym (find_here ps p.0 p.1) ∙ (ap (value_of (p ∷ ps)) same ∙ h))))
      (λ (ne : p.0 ≢ k). ap (λ (b : Bool). cond b (without ps k) (p ∷ without ps k)) (ne_eqb p.0 k ne) ∙ ap (λ (zs : List (ℕ × A)). p ∷ zs) (without_none ps k (sym (find_else ps p.0 k p.1 ne) ∙ h)))

  -- without the value at a place
  pub without_at : (ps : List (ℕ × A)) (i : ℕ) (p : ℕ × A) → HaveOwnNumbers ps → get_elem? ps i ≡ some p → without ps p.0 ≡ remove ps i
  without_at [] i p d e = absurd (some-ne-none p (sym e))
  without_at (q ∷ qs) zero p d e = let s : q.0 ≡ p.0 = ap (λ (z : ℕ × A). z.0) (some-injective q p e) in
      ap (λ (b : Bool). cond b (without qs p.0) (q ∷ without qs p.0)) (eq-eqb q.0 p.0 s) ∙ without_none qs p.0 (ap (value_of qs) (sym s) ∙ d.0)
  without_at (q ∷ qs) (suc i) p d e = let h : value_of qs p.0 ≡ some p.1 = at_found qs i p d.1 e in
      let ne : q.0 ≢ p.0 = λ s. some-ne-none p.1 (sym h ∙ (ap (value_of qs) (sym s) ∙ d.0)) in
      ap (λ (b : Bool). cond b (without qs p.0) (q ∷ without qs p.0)) (ne_eqb q.0 p.0 ne) ∙ ap (λ (zs : List (ℕ × A)). q ∷ zs) (without_at qs i p d.1 e)

  pub starts_self : (xs : List A) → Extends xs xs
  starts_self xs = ([], refl)

  append_nil : (xs : List A) → xs ++ [] ≡ xs
  append_nil [] = refl
  append_nil (x ∷ xs) = ap (λ (ys : List A). x ∷ ys) (append_nil xs)

  pub starts_nil : (xs : List A) → Extends xs []
  starts_nil xs = (xs, sym (append_nil xs))

  pub at_end : (l : List A) (a b : A) (j : ℕ) → get_elem? (l ++ a ∷ []) j ≡ some b → (get_elem? l j ≡ some b) ⊎ ((j ≡ length l) × (a ≡ b))
  at_end [] a b zero e = inr (refl, some-injective a b e)
  at_end [] a b (suc j) e = absurd (some-ne-none b (sym e))
  at_end (x ∷ xs) a b zero e = inl e
  at_end (x ∷ xs) a b (suc j) e = ⊎_elim (λ (t : get_elem? xs j ≡ some b). inl t) (λ (t : (j ≡ length xs) × (a ≡ b)). inr (ap suc t.0, t.1)) (at_end xs a b j e)

  pub find_append_first : (ps qs : List (ℕ × A)) (i : ℕ) (x : A) → value_of ps i ≡ some x → value_of (ps ++ qs) i ≡ some x
  find_append_first [] qs i x e = absurd (some-ne-none x (sym e))
  find_append_first (p ∷ ps) qs i x e = dite (ℕ_discrete p.0 i)
      (λ (same : p.0 ≡ i). ap (value_of (p ∷ (ps ++ qs))) (sym same) ∙ (find_here (ps ++ qs) p.0 p.1 ∙ (sym (find_here ps p.0 p.1) ∙ (ap (value_of (p ∷ ps)) same ∙ e))))
      (λ (ne : p.0 ≢ i). find_else (ps ++ qs) p.0 i p.1 ne ∙ find_append_first ps qs i x (sym (find_else ps p.0 i p.1 ne) ∙ e))

  pub find_append_second : (ps qs : List (ℕ × A)) (i : ℕ) → value_of ps i ≡ none → value_of (ps ++ qs) i ≡ value_of qs i
  find_append_second [] qs i e = refl
  find_append_second (p ∷ ps) qs i e = dite (ℕ_discrete p.0 i)
      (λ (same : p.0 ≡ i). absurd (some-ne-none p.1 (sym (find_here ps p.0 p.1) ∙ (ap (value_of (p ∷ ps)) same ∙ e))))
      (λ (ne : p.0 ≢ i). find_else (ps ++ qs) p.0 i p.1 ne ∙ find_append_second ps qs i (sym (find_else ps p.0 i p.1 ne) ∙ e))

  pub find_append : (ps qs : List (ℕ × A)) (i : ℕ) (x : A) → value_of (ps ++ qs) i ≡ some x → (value_of ps i ≡ some x) ⊎ (value_of qs i ≡ some x)
  find_append ps qs i x e = ⊎_elim
      (λ (t : (y : A) × (value_of ps i ≡ some y)). let yx : t.0 ≡ x = some-injective t.0 x (sym (find_append_first ps qs i t.0 t.1) ∙ e) in inl (t.1 ∙ ap (λ (z : A). some z) yx))
      (λ (n : value_of ps i ≡ none). inr (sym (find_append_second ps qs i n) ∙ e))
      (some_or_none (value_of ps i))

  pub distinct_end : (ps : List (ℕ × A)) (k : ℕ) (x : A) → value_of ps k ≡ none → HaveOwnNumbers ps → HaveOwnNumbers (ps ++ (k, x) ∷ [])
  distinct_end [] k x n d = (refl, tt)
  distinct_end (p ∷ ps) k x n d = dite (ℕ_discrete p.0 k)
      (λ (same : p.0 ≡ k). absurd (some-ne-none p.1 (sym (find_here ps p.0 p.1) ∙ (ap (value_of (p ∷ ps)) same ∙ n))))
      (λ (ne : p.0 ≢ k). (find_append_second ps ((k, x) ∷ []) p.0 d.0 ∙ find_else [] k p.0 x (λ q. ne (sym q)), distinct_end ps k x (sym (find_else ps p.0 k p.1 ne) ∙ n) d.1))

  -- two lists behind one another, of which no number is in both
  pub apart_both : (ps qs : List (ℕ × A)) → ((i : ℕ) (x y : A) → value_of ps i ≡ some x → value_of qs i ≡ some y → ⊥) → HaveOwnNumbers ps → HaveOwnNumbers qs → HaveOwnNumbers (ps ++ qs)
  apart_both [] qs f d e = e
  apart_both (p ∷ ps) qs f d e = (
    find_append_second ps qs p.0 d.0 ∙ elim (some_or_none (value_of qs p.0)) [
      | inl t ↦ absurd (f p.0 p.1 t.0 (find_here ps p.0 p.1) t.1)
      | inr n ↦ n
    ],
    apart_both ps qs
        (λ i x y a b. dite (ℕ_discrete p.0 i)
        (λ (same : p.0 ≡ i). some-ne-none x (sym a ∙ (ap (value_of ps) (sym same) ∙ d.0)))
        (λ (ne : p.0 ≢ i). f i x y (find_else ps p.0 i p.1 ne ∙ a) b))
        d.1 e,
  )

  -- and no number is in both where no number stands twice
  pub both_apart : (ps qs : List (ℕ × A)) → HaveOwnNumbers (ps ++ qs) → (i : ℕ) (x y : A) → value_of ps i ≡ some x → value_of qs i ≡ some y → ⊥
  both_apart [] qs d i x y a b = some-ne-none x (sym a)
  both_apart (p ∷ ps) qs d i x y a b = dite (ℕ_discrete p.0 i)
      (λ (same : p.0 ≡ i). elim (some_or_none (value_of ps i)) [
        | inl t ↦ some-ne-none t.0 (sym (find_append_first ps qs i t.0 t.1) ∙ (ap (value_of (ps ++ qs)) (sym same) ∙ d.0))
        | inr n ↦ some-ne-none y (sym b ∙ (sym (find_append_second ps qs i n) ∙ (ap (value_of (ps ++ qs)) (sym same) ∙ d.0)))
      ])
      (λ (ne : p.0 ≢ i). both_apart ps qs d.1 i x y (sym (find_else ps p.0 i p.1 ne) ∙ a) b)

  -- of two beginnings of one list the shorter begins the longer
  pub prefix_two : (xs ys r q : List A) → r ++ xs ≡ q ++ ys → length xs ≤ length ys → Extends ys xs
  prefix_two xs ys r [] e l = (r, sym e)
  prefix_two xs ys [] (z ∷ q) e l = absurd (omega (arith, ap length e, length-append q ys))
  prefix_two xs ys (w ∷ r) (z ∷ q) e l = let tails : r ++ xs ≡ q ++ ys = cc in prefix_two xs ys r q tails l

  pub whole_prefix : (xs ys : List A) → Extends xs ys → length xs ≤ length ys → xs ≡ ys
  whole_prefix xs ys (newer, e) l = go newer e
    where
      go : (newer : List A) → xs ≡ newer ++ ys → xs ≡ ys
      go [] e = e
      go (z ∷ zs) e = absurd (omega (arith, ap length e, length-append zs ys))

some_none : {B : Type 0} (o : Option B) → ((x : B) × (o ≡ some x)) ⊎ (o ≡ none)
some_none none = inr refl
some_none (some x) = inl (x, refl)

-- where the numbers_of are the same, one list has a number where the other has it
pub find_same : {A B : Type 0} (ps : List (ℕ × A)) (qs : List (ℕ × B)) (k : ℕ) (x : A) → numbers_of ps ≡ numbers_of qs → value_of ps k ≡ some x → (y : B) × (value_of qs k ≡ some y)
find_same [] qs k x e h = absurd (some-ne-none x (sym h))
find_same (p ∷ ps) [] k x e h = absurd (cc)
find_same {A} {B} (p ∷ ps) (q ∷ qs) k x e h = dite (ℕ_discrete p.0 k)
    (λ (same : p.0 ≡ k). let heads : q.0 ≡ k = cc in (q.1, ap (value_of (q ∷ qs)) (sym heads) ∙ find_here qs q.0 q.1))
    (λ (ne : p.0 ≢ k). let tails : numbers_of ps ≡ numbers_of qs = cc in let heads : p.0 ≡ q.0 = cc in let t : (y : B) × (value_of qs k ≡ some y) = find_same ps qs k x tails (sym (find_else ps p.0 k p.1 ne) ∙ h) in
    (t.0, find_else qs q.0 k q.1 (λ f. ne (heads ∙ f)) ∙ t.1))

pub none_same : {A B : Type 0} (ps : List (ℕ × A)) (qs : List (ℕ × B)) (k : ℕ) → numbers_of ps ≡ numbers_of qs → value_of ps k ≡ none → value_of qs k ≡ none
none_same {A} {B} ps qs k e h = ⊎_elim (λ (t : (y : B) × (value_of qs k ≡ some y)). absurd (let u : (x : A) × (value_of ps k ≡ some x) = find_same qs ps k t.0 (sym e) t.1 in some-ne-none u.0 (sym u.1 ∙ h))) (λ (n : value_of qs k ≡ none). n) (some_none (value_of qs k))

pub distinct_same : {A B : Type 0} (ps : List (ℕ × A)) (qs : List (ℕ × B)) → numbers_of ps ≡ numbers_of qs → HaveOwnNumbers ps → HaveOwnNumbers qs
distinct_same [] [] e d = tt
distinct_same [] (q ∷ qs) e d = absurd (cc)
distinct_same (p ∷ ps) [] e d = absurd (cc)
distinct_same (p ∷ ps) (q ∷ qs) e d = let tails : numbers_of ps ≡ numbers_of qs = cc in let heads : p.0 ≡ q.0 = cc in (ap (value_of qs) (sym heads) ∙ none_same ps qs p.0 tails d.0, distinct_same ps qs tails d.1)

pub not_empty : {A B : Type 0} (ps : List (ℕ × A)) (qs : List (ℕ × B)) → numbers_of ps ≡ numbers_of qs → ps ≢ [] → qs ≢ []
not_empty [] qs e n = absurd (n refl)
not_empty (p ∷ ps) [] e n = absurd (cc)
not_empty (p ∷ ps) (q ∷ qs) e n = λ f. absurd (cc)

-- and what stands there has the number that the other list has there
pub at_same : {A B : Type 0} (ps : List (ℕ × A)) (qs : List (ℕ × B)) (i : ℕ) (p : ℕ × A) → numbers_of ps ≡ numbers_of qs → get_elem? ps i ≡ some p → (y : B) × (get_elem? qs i ≡ some (p.0, y))
at_same [] qs i p e h = absurd (some-ne-none p (sym h))
at_same (x ∷ ps) [] i p e h = absurd (cc)
at_same {A} {B} (x ∷ ps) (q ∷ qs) zero p e h = let s : x.0 ≡ p.0 = ap (λ (z : ℕ × A). z.0) (some-injective x p h) in let heads : q.0 ≡ p.0 = cc in
    let pair : ℕ → ℕ × B = λ z. (z, q.1) in (q.1, ap (λ (z : ℕ). some (pair z)) heads)
at_same (x ∷ ps) (q ∷ qs) (suc i) p e h = let tails : numbers_of ps ≡ numbers_of qs = cc in at_same ps qs i p tails h
