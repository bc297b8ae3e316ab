-- How many different numbers of a list another has too, from the list's end on.
use Rattle.std.proofs.{Common.{ℕ, ◌≡◌, ◌+◌, ◌<◌, true, false, cond, Bool, eqb, List, [], ◌∷◌, length, get_or, drop, refl, sym, ap, ◌∙◌, arith, inl, inr}, lemmas.Bool.{cases_order, false≢true}, lemmas.List.at_drop_more, lemmas.List.Sums.sum_by-cons}
use Rattle.std.specs.{List.list_any, Prelude.count_by}
use Rattle.describing_set.specs.{Ascending.{with_id, ascending}, Sorted.In}
use Rattle.describing_set.proofs.{Covering.has-Contains, Membership.with_id-member, Sorted.{with_id-before, with_id-after, Ascends-ascending, In-ascending, In-from_ascending, In-from_Contains, Contains-from_In}}
use Rattle.hierarchy_split.specs.Order.{shared_count}

-- A number that is new to the list, and one that is not.

count_by-with_id : (p : ℕ → Bool) (x : ℕ) (ys : List ℕ) → ¬ In x ys → count_by p (with_id x ys) ≡ cond (p x) 1 0 + count_by p ys
count_by-with_id p x [] new = sum_by-cons (λ v. cond (p v) 1 0) x []
count_by-with_id p x (y ∷ ys) new = elim (cases_order x y) [
  | inl e ↦ absurd (new (inl e))
  | inr apart ↦ elim apart [
    | inl h ↦ rw (with_id-before x y ys h) (sum_by-cons (λ v. cond (p v) 1 0) x (y ∷ ys))
    | inr h ↦
        let a = sum_by-cons (λ v. cond (p v) 1 0) y (with_id x ys) in
        let b = count_by-with_id p x ys (λ i. new (inr i)) in
        let c = sum_by-cons (λ v. cond (p v) 1 0) y ys in
        rw (with_id-after x y ys h) (omega (arith, a, b, c))
  ]
]

-- One number more at the front.

In-from_has : (xs : List ℕ) (x : ℕ) → list_any (λ y. eqb y x) xs ≡ true → In x xs
In-from_has xs x h = In-from_Contains xs x ((has-Contains xs x).0 h)

not_In-from_has : (xs : List ℕ) (x : ℕ) → list_any (λ y. eqb y x) xs ≡ false → ¬ In x xs
not_In-from_has xs x h i = false≢true (sym h ∙ (has-Contains xs x).1 (Contains-from_In xs x i))

-- a number that stands again later counts there
pub shared_count-again : (x : ℕ) (xs ys : List ℕ) → list_any (λ y. eqb y x) xs ≡ true → shared_count (x ∷ xs) ys ≡ shared_count xs ys
shared_count-again x xs ys h =
    ap (λ l. count_by (λ v. list_any (λ y. eqb y v) ys) l)
    (with_id-member x (ascending xs) (Ascends-ascending xs) (In-ascending x xs (In-from_has xs x h)))

-- else it counts here, if the other list has it
pub shared_count-last : (x : ℕ) (xs ys : List ℕ) (b : Bool) → list_any (λ y. eqb y x) xs ≡ false → list_any (λ y. eqb y x) ys ≡ b → shared_count (x ∷ xs) ys ≡ cond b 1 0 + shared_count xs ys
shared_count-last x xs ys b h e =
    count_by-with_id (λ v. list_any (λ y. eqb y v) ys) x (ascending xs) (λ i. not_In-from_has xs x h (In-from_ascending x xs i))
    ∙ ap (λ t. cond t 1 0 + shared_count xs ys) e

-- a number that the other list has not never counts
pub shared_count-absent : (x : ℕ) (xs ys : List ℕ) → list_any (λ y. eqb y x) ys ≡ false → shared_count (x ∷ xs) ys ≡ shared_count xs ys
shared_count-absent x xs ys e = by_has (list_any (λ y. eqb y x) xs) refl
  where
    by_has : (b : Bool) → list_any (λ y. eqb y x) xs ≡ b → shared_count (x ∷ xs) ys ≡ shared_count xs ys
    by_has true h = shared_count-again x xs ys h
    by_has false h = let c = shared_count-last x xs ys false h e in omega (arith, c)

-- A step of the code: the number at a place counts so much.
pub shared_count-step : (xs ys : List ℕ) (i x n count new total : ℕ) → i < length xs → x ≡ get_or xs i x → shared_count (x ∷ drop (i + 1) xs) ys ≡ n + shared_count (drop (i + 1) xs) ys → count + shared_count (drop i xs) ys ≡ total → new ≡ count + n → new + shared_count (drop (i + 1) xs) ys ≡ total
shared_count-step xs ys i x n count new total lt e here before is =
    let at = at_drop_more (λ l. shared_count l ys) xs i x lt ∙ ap (λ v. shared_count (v ∷ drop (i + 1) xs) ys) (sym e) in
    omega (arith, at, here, before, is)
