-- Two places of a list that is split between them.
use Rattle.std.proofs.{Common.{◌≡◌, ◌∙◌, ℕ, ◌<◌, ◌≤◌, ◌-◌, List, ◌++◌, get_or, length, set, sym, ap, arith}, lemmas.List.{get_or_append_left, get_or-append_right, length-set, set-append_left, set-append_right}}

module _ {A : Type 0} {xs : List A} (front back : List A) {a b : ℕ} (e : xs ≡ front ++ back) (long : length front ≡ b) (lt : a < b) where
  pub two-set : (x y : A) → set front a x ++ set back 0 y ≡ set (set xs a x) b y
  two-set x y =
      let lt2 : a < length front = omega arith in
      let le : b ≤ b = omega arith in
      let none : b - b ≡ 0 = omega arith in
      sym (ap (λ (l : List A). set (set l a x) b y) e ∙ ap (λ (l : List A). set l b y) (set-append_left front back a x lt2)
      ∙ set-append_right (set front a x) back b b y (length-set front a x ∙ long) le ∙ ap (λ (k : ℕ). set front a x ++ set back k y) none)

  pub low-get : (x : A) → x ≡ get_or front a x → x ≡ get_or xs a x
  low-get x is = (let lt2 : a < length front = omega arith in is ∙ sym (get_or_append_left front back x a lt2) ∙ ap (λ (l : List A). get_or l a x) (sym e))

  pub high-get : (x : A) → x ≡ get_or back 0 x → x ≡ get_or xs b x
  high-get x is =
      let le : b ≤ b = omega arith in
      let none : b - b ≡ 0 = omega arith in
      is ∙ sym (ap (λ (k : ℕ). get_or back k x) none) ∙ sym (get_or-append_right front back b b x long le) ∙ ap (λ (l : List A). get_or l b x) (sym e)
