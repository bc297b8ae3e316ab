-- The map from ids that a `BTreeMap` with numbers as keys stands for.
use Rattle.std.proofs.{Common.{ℕ, ◌≡◌, List, [], ◌∷◌, None, Some, Bool, true, false, cond, subst, refl, sym, ap, ◌∙◌}, lemmas.Bool.{false≢true}, lemmas.Cmp.nat_cmp_total}
use Rattle.std.specs.{BTreeMap.{BTreeMap, Updates, is_at}, Cmp.tied_itself, FinMap.nat_cmp-IsAntisymmetric, Map.lookup, Ordering.{nat_cmp, is_eq}, declared.cmp.Ordering.Ordering, declared.cmp.Ordering.TheVariants.{Less, Equal, Greater}}
use Rattle.std.specs.FinMap as map

-- a tie is one from either side

tie : (o : Ordering) → is_eq o ≡ true → o ≡ Equal
tie Less e = absurd (false≢true e)
tie Equal e = refl
tie Greater e = absurd (false≢true e)

tied_back : (x y : ℕ) → is_eq (nat_cmp x y) ≡ true → is_eq (nat_cmp y x) ≡ true
tied_back x y e = subst (λ z. is_eq (nat_cmp z x) ≡ true) (nat_cmp-IsAntisymmetric x y (tie (nat_cmp x y) e)) (ap is_eq (tied_itself nat_cmp_total x))

same_tests : (a b : Bool) → (a ≡ true → b ≡ true) → (b ≡ true → a ≡ true) → a ≡ b
same_tests true b there back = sym (there refl)
same_tests false true there back = absurd (false≢true (back refl))
same_tests false false there back = refl

is_eq-flips : (x y : ℕ) → is_eq (nat_cmp x y) ≡ is_eq (nat_cmp y x)
is_eq-flips x y = same_tests (is_eq (nat_cmp x y)) (is_eq (nat_cmp y x)) (tied_back x y) (tied_back y x)

-- a look-up among the entries is one in the map
pub lookup-entries : {X : Type 0} (id : ℕ) (es : List (ℕ × X)) → lookup (is_at (nat_cmp id)) es ≡ map.get (map.from_entries {R = nat_cmp} es) id
lookup-entries {X} id es = go es ∙ sym (map.get-from_entries nat_cmp_total es id)
  where
    go : (l : List (ℕ × X)) → lookup (is_at (nat_cmp id)) l ≡ map.find nat_cmp id l
    go [] = refl
    go (e ∷ l) = ap (λ x. cond (is_eq (nat_cmp id e.0)) (Some e.1) x) (go l)

-- an insertion among the entries is one into the map
pub from_entries-updated : {X : Type 0} (before now : BTreeMap ℕ X) (id : ℕ) (to : X) → Updates nat_cmp before now id (Some to) → map.from_entries {R = nat_cmp} now.entries ≡ map.insert (map.from_entries {R = nat_cmp} before.entries) id to
from_entries-updated before now id to u = map.same_map nat_cmp_total nat_cmp-IsAntisymmetric _ _ (λ q.
    sym (lookup-entries q now.entries) ∙ u.0 q
    ∙ ap (λ x. cond (is_eq (nat_cmp id q)) (Some to) x) (lookup-entries q before.entries)
    ∙ ap (λ b. cond b (Some to) (map.get (map.from_entries {R = nat_cmp} before.entries) q)) (is_eq-flips id q)
    ∙ sym (map.get-insert nat_cmp_total (map.from_entries {R = nat_cmp} before.entries) id to q))

-- and a removal is one from the map
pub from_entries-removed : {X : Type 0} (before now : BTreeMap ℕ X) (id : ℕ) → Updates nat_cmp before now id None → map.from_entries {R = nat_cmp} now.entries ≡ map.remove (map.from_entries {R = nat_cmp} before.entries) id
from_entries-removed before now id u = map.same_map nat_cmp_total nat_cmp-IsAntisymmetric _ _ (λ q.
    sym (lookup-entries q now.entries) ∙ u.0 q
    ∙ ap (λ x. cond (is_eq (nat_cmp id q)) None x) (lookup-entries q before.entries)
    ∙ ap (λ b. cond b None (map.get (map.from_entries {R = nat_cmp} before.entries) q)) (is_eq-flips id q)
    ∙ sym (map.get-remove nat_cmp_total (map.from_entries {R = nat_cmp} before.entries) id q))
