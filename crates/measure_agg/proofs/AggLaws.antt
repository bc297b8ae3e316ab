-- The laws of aggregates.
use Rattle.std.proofs.{Common.{◌≡◌, ◌⊎◌, ℕ, ◌+◌, ◌<◌, Bool, true, false, cond, List, [], ◌∷◌, ◌++◌, length, take, get_or, append-nil, refl, sym, ap, ◌∙◌, inl, inr, arith}, lemmas.Int.{ints, clamps, fold-int_min_bounds, fold-int_min_reached, fold-int_max_bounds, fold-int_max_reached}, lemmas.List.take_more, lemmas.List.Elements.{All-cons, All-contains, Contains-append_right, filter_more}, lemmas.List.Sorted.{IsPermutation-map, IsPermutation-sym, length_permutation, sum_by-IsPermutation, Contains-permutation}, lemmas.List.Sums.sum_by-cons}
use Rattle.std.specs.{Int.{int_min, int_max}, Prelude.{ℤ, pos, ◌+ℤ◌, ◌≤ℤ◌, Option, Some, None, MatchOption, fold, filter, sum_by, All, Contains, IsPermutation}}
use borrow.Author.Differences.{up, down}
use Rattle.dim_hierarchy.specs.declared.row.Row.{Row}
use Rattle.measure_agg.specs.{Aggregate.{Aggregate, agg, lesser, greater, total, least_of, greatest_of, measures}, Joining.{one, join}}

same : (a b : Aggregate) → a.count ≡ b.count → a.sum ≡ b.sum → a.least ≡ b.least → a.greatest ≡ b.greatest → a ≡ b
same a b count sum least greatest = λ i. record { count = count i; sum = sum i; least = least i; greatest = greatest i }

-- numbers that may be missing

lesser_associative : (a b c : Option ℤ) → lesser (lesser a b) c ≡ lesser a (lesser b c)
lesser_associative None b c = refl
lesser_associative (Some x) None c = refl
lesser_associative (Some x) (Some y) None = refl
lesser_associative (Some x) (Some y) (Some z) = ap Some (omega (arith, ints, clamps))

greater_associative : (a b c : Option ℤ) → greater (greater a b) c ≡ greater a (greater b c)
greater_associative None b c = refl
greater_associative (Some x) None c = refl
greater_associative (Some x) (Some y) None = refl
greater_associative (Some x) (Some y) (Some z) = ap Some (omega (arith, ints, clamps))

lesser_commutative : (a b : Option ℤ) → lesser a b ≡ lesser b a
lesser_commutative None None = refl
lesser_commutative None (Some y) = refl
lesser_commutative (Some x) None = refl
lesser_commutative (Some x) (Some y) = ap Some (omega (arith, ints, clamps))

greater_commutative : (a b : Option ℤ) → greater a b ≡ greater b a
greater_commutative None None = refl
greater_commutative None (Some y) = refl
greater_commutative (Some x) None = refl
greater_commutative (Some x) (Some y) = ap Some (omega (arith, ints, clamps))

-- aggregates under `join`, whose neutral element is that of no rows

pub join_associative : (a b c : Aggregate) → join (join a b) c ≡ join a (join b c)
join_associative a b c =
    same _ _ (omega arith) (omega (arith, ints)) (lesser_associative a.least b.least c.least) (greater_associative a.greatest b.greatest c.greatest)

pub join_commutative : (a b : Aggregate) → join a b ≡ join b a
join_commutative a b =
    same _ _ (omega arith) (omega (arith, ints)) (lesser_commutative a.least b.least) (greater_commutative a.greatest b.greatest)

pub join_empty_left : (a : Aggregate) → join (agg []) a ≡ a
join_empty_left a = same _ _ (omega arith) (omega (arith, ints)) refl refl

pub join_empty_right : (a : Aggregate) → join a (agg []) ≡ a
join_empty_right a = join_commutative a (agg []) ∙ join_empty_left a

-- rows that are added

agg-cons : (r : Row) (rows : List Row) → agg (r ∷ rows) ≡ join (one r.measures) (agg rows)
agg-cons r rows = same _ _ (omega arith) refl refl refl

pub agg-append : (xs ys : List Row) → agg (xs ++ ys) ≡ join (agg xs) (agg ys)
agg-append [] ys = sym (join_empty_left (agg ys))
agg-append (r ∷ xs) ys =
    agg-cons r (xs ++ ys)
    ∙ ap (join (one r.measures)) (agg-append xs ys)
    ∙ sym (join_associative (one r.measures) (agg xs) (agg ys))
    ∙ ap (λ a. join a (agg ys)) (sym (agg-cons r xs))

pub agg-one : (r : Row) → agg (r ∷ []) ≡ one r.measures
agg-one r = agg-cons r [] ∙ join_empty_right (one r.measures)

-- one row more
pub agg-push : (rows : List Row) (r : Row) → agg (rows ++ r ∷ []) ≡ join (agg rows) (one r.measures)
agg-push rows r = agg-append rows (r ∷ []) ∙ ap (join (agg rows)) (agg-one r)

agg-push_if : (keep : Bool) (rows : List Row) (row : Row) → agg (rows ++ cond keep (row ∷ []) []) ≡ cond keep (join (agg rows) (one row.measures)) (agg rows)
agg-push_if true rows row = agg-push rows row
agg-push_if false rows row = ap agg (append-nil rows)

-- the step of a loop that reads the row at i, and of one that joins the rows that pass a test

pub agg-take_more : (rows : List Row) (i : ℕ) (row : Row) → i < length rows → row ≡ get_or rows i row
    → agg (take (i + 1) rows) ≡ join (agg (take i rows)) (one row.measures)
agg-take_more rows i row within read = rw (take_more rows i row within, ← read) (agg-push (take i rows) row)

pub agg-filter_more : (test : Row → Bool) (rows : List Row) (i : ℕ) (row : Row) → i < length rows → row ≡ get_or rows i row
    → agg (filter test (take (i + 1) rows)) ≡ cond (test row) (join (agg (filter test (take i rows))) (one row.measures)) (agg (filter test (take i rows)))
agg-filter_more test rows i row within read =
    rw (filter_more test rows i row within, ← read) (agg-push_if (test row) (filter test (take i rows)) row)

-- the least and the greatest

least_of-cons : (x : ℤ) (xs : List ℤ) → least_of (x ∷ xs) ≡ Some (fold int_min x xs)
least_of-cons x [] = refl
least_of-cons x (y ∷ xs) = sym (lesser_associative (Some x) (Some y) (least_of xs)) ∙ least_of-cons (int_min x y) xs

greatest_of-cons : (x : ℤ) (xs : List ℤ) → greatest_of (x ∷ xs) ≡ Some (fold int_max x xs)
greatest_of-cons x [] = refl
greatest_of-cons x (y ∷ xs) = sym (greater_associative (Some x) (Some y) (greatest_of xs)) ∙ greatest_of-cons (int_max x y) xs

-- missing where there is no number, and else one of them that is so related to each
abbrev IsExtreme : (ℤ → ℤ → Type 0) → List ℤ → Option ℤ → Type 0
IsExtreme R xs o = MatchOption o (xs ≡ []) (λ m. Contains xs m × All (λ x. R m x) xs)

Contains-cons : (x m : ℤ) (xs : List ℤ) → (m ≡ x) ⊎ Contains xs m → Contains (x ∷ xs) m
Contains-cons x m xs (inl e) = (0, omega arith, sym e)
Contains-cons x m xs (inr has) = Contains-append_right (x ∷ []) xs m has

pub is_least : (xs : List ℤ) → MatchOption (least_of xs) (xs ≡ []) (λ m. Contains xs m × All (λ x. m ≤ℤ x) xs)
is_least [] = refl
is_least (x ∷ xs) =
    let m = fold int_min x xs in
    let below = fold-int_min_bounds x xs m refl in
    rw least_of-cons (
      Contains-cons x m xs (fold-int_min_reached x xs m refl),
      All-cons (λ y. m ≤ℤ y) x xs below.0 below.1,
    )

pub is_greatest : (xs : List ℤ) → MatchOption (greatest_of xs) (xs ≡ []) (λ m. Contains xs m × All (λ x. x ≤ℤ m) xs)
is_greatest [] = refl
is_greatest (x ∷ xs) =
    let m = fold int_max x xs in
    let above = fold-int_max_bounds x xs m refl in
    rw greatest_of-cons (
      Contains-cons x m xs (fold-int_max_reached x xs m refl),
      All-cons (λ y. y ≤ℤ m) x xs above.0 above.1,
    )

-- the order of rows

none_in_nil : {X : Type 0} (xs ys : List ℤ) (m : ℤ) → IsPermutation xs ys → xs ≡ [] → Contains ys m → X
none_in_nil xs ys m moved none has = absurd (omega (arith, length_permutation xs ys moved, ap length none, has.1))

-- the extreme of the same numbers is the same
extreme-IsPermutation : (R : ℤ → ℤ → Type 0) → ((m n : ℤ) → R m n → R n m → m ≡ n) → (xs ys : List ℤ) (a b : Option ℤ)
    → IsPermutation xs ys → IsExtreme R xs a → IsExtreme R ys b → a ≡ b
extreme-IsPermutation R antisymmetric xs ys None None moved p q = refl
extreme-IsPermutation R antisymmetric xs ys None (Some n) moved p q = none_in_nil xs ys n moved p q.0
extreme-IsPermutation R antisymmetric xs ys (Some m) None moved p q = none_in_nil ys xs m (IsPermutation-sym xs ys moved) q p.0
extreme-IsPermutation R antisymmetric xs ys (Some m) (Some n) moved p q =
    ap Some (antisymmetric m n
    (All-contains (λ x. R m x) xs n p.1 (Contains-permutation ys xs n (IsPermutation-sym xs ys moved) q.0))
    (All-contains (λ x. R n x) ys m q.1 (Contains-permutation xs ys m moved p.0)))

-- a sum of signed numbers by those of its positive and of its negative parts
total-parts : (xs : List ℤ) → total xs +ℤ pos (sum_by down xs) ≡ pos (sum_by up xs)
total-parts [] = refl
total-parts (x ∷ xs) = omega (arith, ints, total-parts xs, sum_by-cons up x xs, sum_by-cons down x xs)

total-IsPermutation : (xs ys : List ℤ) → IsPermutation xs ys → total xs ≡ total ys
total-IsPermutation xs ys moved =
    omega (arith, ints, total-parts xs, total-parts ys, sum_by-IsPermutation up xs ys moved, sum_by-IsPermutation down xs ys moved)

pub agg-IsPermutation : (xs ys : List Row) → IsPermutation xs ys → agg xs ≡ agg ys
agg-IsPermutation xs ys moved =
    let numbers = IsPermutation-map (λ r. r.measures) xs ys moved in
    same _ _
    (sym (length_permutation xs ys moved))
    (total-IsPermutation (measures xs) (measures ys) numbers)
    (extreme-IsPermutation (λ m x. m ≤ℤ x) (λ m n p q. omega (arith, ints)) (measures xs) (measures ys) _ _ numbers (is_least (measures xs)) (is_least (measures ys)))
    (extreme-IsPermutation (λ m x. x ≤ℤ m) (λ m n p q. omega (arith, ints)) (measures xs) (measures ys) _ _ numbers (is_greatest (measures xs)) (is_greatest (measures ys)))
