-- A table takes entries, and gives them up again.
use Rattle.std.proofs.{Common.{◌≡◌, ◌≢◌, ℕ, ◌+◌, Bool, true, false, cond, eqb, Option, Some, None, IsSome, sym, ap, ◌∙◌, subst, arith}, lemmas.Bool.{eqb-true, eqb-false}, lemmas.Cmp.nat_cmp_total}
use Rattle.std.specs.FinMap as map
use Rattle.std.specs.{FinMap.nat_cmp-IsAntisymmetric, Ordering.{nat_cmp, is_eq}}
use Rattle.mapping_table.specs.declared.place.Where.{Where}
use Rattle.mapping_table.specs.declared.place.Where.TheVariants as where_is
use Rattle.list_words.proofs.Truth.{on_bool}
use Rattle.core_admin.specs.SplitDue.{LeadNowhere, with_children}
use Rattle.core_admin.proofs.EndedCells.{get-other, get-same}

nat-tied : (x : ℕ) → is_eq (nat_cmp x x) ≡ true
nat-tied x = grind arith

nat-apart : (z x : ℕ) → z ≢ x → is_eq (nat_cmp z x) ≡ false
nat-apart z x ne = grind arith

get-at : (m : map.FinMap nat_cmp Where) (x : ℕ) (to : Where) (q : ℕ) → q ≡ x → map.get (map.insert m x to) q ≡ Some to
get-at m x to q is = subst (λ (z : ℕ). map.get (map.insert m x to) z ≡ Some to) (sym is) (get-same m x to)

-- an entry that is taken out again
pub forgotten : (m : map.FinMap nat_cmp Where) (x : ℕ) (to : Where) → map.get m x ≡ None → map.remove (map.insert m x to) x ≡ m
forgotten m x to none = map.same_map nat_cmp_total nat_cmp-IsAntisymmetric _ _ (λ q. map.get-remove nat_cmp_total (map.insert m x to) x q ∙ by q)
  where
    by : (q : ℕ) → cond (is_eq (nat_cmp q x)) None (map.get (map.insert m x to) q) ≡ map.get m q
    by q = on_bool (eqb q x)
        (λ e.
        let is = eqb-true q x e in
        let tied : is_eq (nat_cmp q x) ≡ true = subst (λ (z : ℕ). is_eq (nat_cmp z x) ≡ true) (sym is) (nat-tied x) in
        ap (λ (b : Bool). cond b None (map.get (map.insert m x to) q)) tied ∙ sym (ap (map.get m) is ∙ none))
        (λ e. let ne = eqb-false q x e in ap (λ (b : Bool). cond b None (map.get (map.insert m x to) q)) (nat-apart q x ne) ∙ get-other m x to q ne)

-- two entries in either order
swapped : (m : map.FinMap nat_cmp Where) (x y : ℕ) (to there : Where) → x ≢ y → map.insert (map.insert m x to) y there ≡ map.insert (map.insert m y there) x to
swapped m x y to there ne = map.same_map nat_cmp_total nat_cmp-IsAntisymmetric _ _ (λ q. on_bool (eqb q x)
    (λ e.
    let is = eqb-true q x e in
    get-other (map.insert m x to) y there q (λ same. ne (sym is ∙ same)) ∙ get-at m x to q is ∙ sym (get-at (map.insert m y there) x to q is))
    (λ e.
    let off = eqb-false q x e in
    on_bool (eqb q y)
    (λ k. let is = eqb-true q y k in get-at (map.insert m x to) y there q is ∙ sym (get-other (map.insert m y there) x to q off ∙ get-at m y there q is))
    (λ k.
    let far = eqb-false q y k in
    get-other (map.insert m x to) y there q far ∙ get-other m x to q off ∙ sym (get-other (map.insert m y there) x to q off ∙ get-other m y there q far))))

-- The entries of the children of a shard.
module _ (m : map.FinMap nat_cmp Where) (first left_at right_at : ℕ) (none : LeadNowhere m first) where
  next : first + 1 ≢ first
  next e = absurd (omega (arith, e))

  -- the right one is taken out again, and the left one
  pub both-forgotten : map.remove (map.remove (with_children m first left_at right_at) (first + 1)) first ≡ m
  both-forgotten = ap (λ (z : map.FinMap nat_cmp Where). map.remove z first) (forgotten (map.insert m first (where_is.Gate left_at)) (first + 1) (where_is.Gate right_at) (get-other m first (where_is.Gate left_at) (first + 1) next ∙ none.right))
      ∙ forgotten m first (where_is.Gate left_at) none.left

  -- a shard that is known is none of them
  module _ (shard : ℕ) (known : IsSome (map.get m shard)) where
    off-none : (x : ℕ) → map.get m x ≡ None → shard ≢ x
    off-none x is same = none-some (map.get m shard) (ap (map.get m) same ∙ is) known
      where
        none-some : (o : Option Where) → o ≡ None → IsSome o → ⊥
        none-some None none some = cc
        none-some (Some to) none some = cc

    pub still-known : IsSome (map.get (with_children m first left_at right_at) shard)
    still-known = subst IsSome
        (sym (get-other (map.insert m first (where_is.Gate left_at)) (first + 1) (where_is.Gate right_at) shard (off-none (first + 1) none.right) ∙ get-other m first (where_is.Gate left_at) shard (off-none first none.left))) known

    -- and its own entry may be made first or last
    pub entered-last : (to : Where) → map.insert (with_children m first left_at right_at) shard to ≡ with_children (map.insert m shard to) first left_at right_at
    entered-last to =
        swapped (map.insert m first (where_is.Gate left_at)) (first + 1) shard (where_is.Gate right_at) to (λ e. off-none (first + 1) none.right (sym e))
        ∙ ap (λ (z : map.FinMap nat_cmp Where). map.insert z (first + 1) (where_is.Gate right_at)) (swapped m first shard (where_is.Gate left_at) to (λ e. off-none first none.left (sym e)))
