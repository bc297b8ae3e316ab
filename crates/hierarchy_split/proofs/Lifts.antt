-- The least lifted concepts.
use Rattle.std.proofs.{Common.{Bool, true, false, ℕ, ◌≡◌, ◌+◌, ◌-◌, ◌<◌, min, List, [], ◌∷◌, ◌++◌, length, map, get_or, take, drop, refl, sym, ap, subst, ◌∙◌, arith, inl, inr, ◌⊎◌, add-one}, lemmas.Bool.Decides.nat_tests, lemmas.Grind.fold-append, lemmas.List.{take_more, map_push, take_all, length-take, length-map, get_or_default}, lemmas.List.Elements.{All-head, All-map}, lemmas.Map.Keys.ge_from_not_lt}
use Rattle.std.specs.{Ordering.{is_lt, nat_cmp}, Prelude.{All, fold}}
use Rattle.dim_hierarchy.specs.{Dimension.{Dimension, tree}, Tree.{Tree, IsConcept, IsTree, up}}
use Rattle.dim_hierarchy.proofs.Ancestors.{concept_at_top, up-IsConcept, level_of-up}
use Rattle.describing_set.specs.{DescSet.part_at, Sets.IsDescSetOf, Sorted.In, declared.set.DescSet.DescSet}
use Rattle.describing_set.proofs.Sets.{part_at-IsPart}
use Rattle.hierarchy_split.specs.{Cut.{lifted, leasts}, Order.{least, AreEqual}}

-- The least of a list, from its front on.

least-push : (xs : List ℕ) (y : ℕ) → 0 < length xs → least (xs ++ y ∷ []) ≡ min (least xs) y
least-push [] y h = absurd (omega arith)
least-push (x ∷ xs) y h = fold-append min x xs (y ∷ [])

pub least_more : (f : ℕ → ℕ) (xs : List ℕ) (i x now new : ℕ) → i + 1 < length xs → x ≡ get_or xs (i + 1) 0 → now ≡ least (map f (take (i + 1) xs)) → new ≡ min now (f x) → new ≡ least (map f (take (i + 1 + 1) xs))
least_more f xs i x now new lt e is n =
    let front = take (i + 1) xs in
    let some : 0 < length (map f front) = let a = length-map front f in let b = length-take (i + 1) xs in omega (arith, a, b) in
    n ∙ ap (λ v. min v (f x)) is ∙ sym (least-push (map f front) (f x) some) ∙ ap least (sym (map_push f front x))
    ∙ ap (λ v. least (map f (front ++ v ∷ []))) e ∙ ap (λ l. least (map f l)) (sym (take_more xs (i + 1) 0 lt))

-- what is read behind the first of a list
pub rest_read : (xs : List ℕ) (i x d : ℕ) → i < length (take (length xs - 1) (drop 1 xs)) → x ≡ get_or (take (length xs - 1) (drop 1 xs)) i x → (i + 1 < length xs) × (x ≡ get_or xs (i + 1) d)
rest_read [] i x d lt e = absurd (omega arith)
rest_read (y ∷ ys) i x d lt e =
    let same : take (length (y ∷ ys) - 1) ys ≡ ys = take_all (length (y ∷ ys) - 1) ys (omega arith) in
    let less : i < length ys = subst (λ l. i < length l) same lt in
    let read : x ≡ get_or ys i x = e ∙ ap (λ l. get_or l i x) same in
    (omega arith, rw add-one (read ∙ get_or_default ys i x d less))

lt_from_is_lt : (a b : ℕ) → is_lt (nat_cmp a b) ≡ true → a < b
lt_from_is_lt a b h = grind (arith, nat_tests)

-- the lower of two numbers, by the test of the code
pub min_read : (a b new : ℕ) (r : Bool) → r ≡ is_lt (nat_cmp a b) → ((r ≡ true) × (new ≡ a)) ⊎ ((r ≡ false) × (new ≡ b)) → new ≡ min b a
min_read a b new r e cases = elim cases [
  | inl c ↦ let less = lt_from_is_lt a b (sym e ∙ c.0) in omega (arith, c.1, less)
  | inr c ↦ let more = ge_from_not_lt a b (sym e ∙ c.0) in omega (arith, c.1, more)
]

-- Level 0, where all concepts are ALL.

fold_min_zero : (a : ℕ) (xs : List ℕ) → a ≡ 0 → fold min a xs ≡ 0
fold_min_zero a [] e = e
fold_min_zero a (x ∷ xs) e = fold_min_zero (min a x) xs (omega arith)

top_least : (t : Tree) → IsTree t → (ids : List ℕ) → ((id : ℕ) → In id ids → IsConcept t id) → least (map (λ id. up t id 0) ids) ≡ 0
top_least t w [] f = refl
top_least t w (id ∷ ids) f =
    let k = f id (inl refl) in
    fold_min_zero (up t id 0) (map (λ id. up t id 0) ids) (concept_at_top t w (up t id 0) (up-IsConcept t w id 0 k) (level_of-up t w id 0 k (omega arith)))

zeros_equal : (xs : List ℕ) → All (λ x. x ≡ 0) xs → AreEqual xs
zeros_equal [] a = λ k d lt. absurd (omega arith)
zeros_equal (x ∷ xs) a = λ k d lt. a k d lt ∙ sym (All-head (λ x. x ≡ 0) x xs a)

pub leasts_at_top : (h : List Dimension) (sets : List DescSet) (dim : ℕ) → dim < length h → All (IsDescSetOf h) sets → AreEqual (leasts h sets dim 0)
leasts_at_top h sets dim lt all =
    zeros_equal (leasts h sets dim 0)
    (All-map (λ x. x ≡ 0) (λ set. least (lifted h dim 0 set)) sets
    (λ k d less. let s = all k d less in top_least (tree h dim) (s.hierarchy.each dim lt).tree (part_at (get_or sets k d) dim).ids.items (part_at-IsPart h (get_or sets k d) dim lt s).concept))
