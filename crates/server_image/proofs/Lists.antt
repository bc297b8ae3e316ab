-- Lists of spots when one is found, taken out or put in.
use Rattle.std.proofs.{Common.{ℕ, zero, suc, ◌≡◌, ◌+◌, ◌<◌, ◌≤◌, ◌⊎◌, inl, inr, Bool, true, false, List, [], ◌∷◌, length, get_or, refl, sym, ap, subst, arith, All, Result, Ok, Err, IfOk, IfErr}, lemmas.Bool.{cases_lt, false≢true, eqb-false, ltb-true, ltb-false}, lemmas.Bool.Decides.{nat_tests}, lemmas.Cmp.{ranked}}
use Rattle.std.specs.{List.{position_or_len, list_any, insert, remove}, List.Sorted.{IsSearchInRange, IsBinarySearchResult, IsNonDecreasingBy}, Ordering.{nat_cmp, ordering_index}, Prelude.{◌==◌, ◌≢◌, nat_lt, position, unwrap_or}}
use Rattle.describing_set.specs.{Sorted.{Below, Ascends, In}, declared.listing.Spot.Spot}
use Rattle.server_image.specs.{Registry.IsRegistry, Spots.{has_spot, spot_ids, IsAt, place_of, without, with_spot}}

-- a test is true or false
pub by_test : {P : Type 0} (b : Bool) → (b ≡ true → P) → (b ≡ false → P) → P
by_test {P} b then_it else_it = elim b as (λ v. (v ≡ true → P) → (v ≡ false → P) → P) [ true ↦ λ y n. y refl | false ↦ λ y n. n refl ] then_it else_it

-- Places.

pub position_or_len-le : {X : Type 0} (p : X → Bool) (xs : List X) → position_or_len p xs ≤ length xs
position_or_len-le p [] = omega arith
position_or_len-le p (x ∷ xs) = by_test (p x) (λ e. rw e (omega arith)) (λ e. rw e (omega (arith, position_or_len-le p xs)))

-- the first place that passes, or the length
pub unwrap-position : {X : Type 0} (p : X → Bool) (xs : List X) → unwrap_or (position p xs) (length xs) ≡ position_or_len p xs
unwrap-position p xs = by_test (nat_lt (position_or_len p xs) (length xs))
    (λ e. rw e)
    (λ e. rw e (let le = position_or_len-le p xs in let ge = ltb-false (position_or_len p xs) (length xs) e in omega (arith, le, ge)))

-- where one passes, the place is one of the list's
pub place-within : {X : Type 0} (p : X → Bool) (xs : List X) → list_any p xs ≡ true → position_or_len p xs < length xs
place-within p [] e = absurd (false≢true e)
place-within p (x ∷ xs) e = by_test (p x)
    (λ t. rw t (omega arith))
    (λ t. rw t (omega (arith, place-within p xs (rw t at e))))

-- A spot is put in or taken out.

one_more : (n : ℕ) → 1 + n ≡ suc n
one_more n = omega arith

insert-later : (s x : Spot) (xs : List Spot) (n : ℕ) → insert (x ∷ xs) (1 + n) s ≡ x ∷ insert xs n s
insert-later s x xs n = ap (λ m. insert (x ∷ xs) m s) (one_more n)

remove-later : (x : Spot) (xs : List Spot) (n : ℕ) → remove (x ∷ xs) (1 + n) ≡ x ∷ remove xs n
remove-later x xs n = ap (λ m. remove (x ∷ xs) m) (one_more n)

with_spot-before : (s x : Spot) (xs : List Spot) → nat_lt s.shard x.shard ≡ true → with_spot s (x ∷ xs) ≡ s ∷ x ∷ xs
with_spot-before s x xs e = rw e

with_spot-after : (s x : Spot) (xs : List Spot) → nat_lt s.shard x.shard ≡ false → with_spot s (x ∷ xs) ≡ x ∷ with_spot s xs
with_spot-after s x xs e = rw e (insert-later s x xs (position_or_len (λ y. nat_lt s.shard y.shard) xs))

without-here : (id : ℕ) (x : Spot) (xs : List Spot) → (x.shard == id) ≡ true → without id (x ∷ xs) ≡ xs
without-here id x xs e = rw e

without-later : (id : ℕ) (x : Spot) (xs : List Spot) → (x.shard == id) ≡ false → without id (x ∷ xs) ≡ x ∷ without id xs
without-later id x xs e = rw e (remove-later x xs (place_of id xs))

pub with_spot-some : (s : Spot) (xs : List Spot) → 0 < length (with_spot s xs)
with_spot-some s [] = omega arith
with_spot-some s (x ∷ xs) = by_test (nat_lt s.shard x.shard)
    (λ e. subst (λ l. 0 < length l) (sym (with_spot-before s x xs e)) (omega arith))
    (λ e. subst (λ l. 0 < length l) (sym (with_spot-after s x xs e)) (omega arith))

Below-lt : (m n : ℕ) (xs : List ℕ) → m < n → Below n xs → Below m xs
Below-lt m n [] lt b = tt
Below-lt m n (x ∷ xs) lt b = (let first = b.0 in omega (arith, first), Below-lt m n xs lt b.1)

Below-without : (n id : ℕ) (xs : List Spot) → Below n (spot_ids xs) → Below n (spot_ids (without id xs))
Below-without n id [] b = tt
Below-without n id (x ∷ xs) b = by_test (x.shard == id)
    (λ e. subst (λ l. Below n (spot_ids l)) (sym (without-here id x xs e)) b.1)
    (λ e. subst (λ l. Below n (spot_ids l)) (sym (without-later id x xs e)) (b.0, Below-without n id xs b.1))

pub Ascends-without : (id : ℕ) (xs : List Spot) → Ascends (spot_ids xs) → Ascends (spot_ids (without id xs))
Ascends-without id [] a = tt
Ascends-without id (x ∷ xs) a = by_test (x.shard == id)
    (λ e. subst (λ l. Ascends (spot_ids l)) (sym (without-here id x xs e)) a.1)
    (λ e. subst (λ l. Ascends (spot_ids l)) (sym (without-later id x xs e)) (Below-without x.shard id xs a.0, Ascends-without id xs a.1))

Below-with_spot : (n : ℕ) (s : Spot) (xs : List Spot) → n < s.shard → Below n (spot_ids xs) → Below n (spot_ids (with_spot s xs))
Below-with_spot n s [] lt b = (lt, tt)
Below-with_spot n s (x ∷ xs) lt b = by_test (nat_lt s.shard x.shard)
    (λ e. subst (λ l. Below n (spot_ids l)) (sym (with_spot-before s x xs e)) (lt, b))
    (λ e. subst (λ l. Below n (spot_ids l)) (sym (with_spot-after s x xs e)) (b.0, Below-with_spot n s xs lt b.1))

pub Ascends-with_spot : (s : Spot) (xs : List Spot) → ¬ In s.shard (spot_ids xs) → Ascends (spot_ids xs) → Ascends (spot_ids (with_spot s xs))
Ascends-with_spot s [] new a = (tt, tt)
Ascends-with_spot s (x ∷ xs) new a = by_test (nat_lt s.shard x.shard)
    (λ e.
    let lt : s.shard < x.shard = ltb-true s.shard x.shard e in
    subst (λ l. Ascends (spot_ids l)) (sym (with_spot-before s x xs e)) ((lt, Below-lt s.shard x.shard (spot_ids xs) lt a.0), a))
    (λ e.
    let ge = ltb-false s.shard x.shard e in
    let apart : s.shard ≡ x.shard → ⊥ = λ same. new (inl same) in
    let gt : x.shard < s.shard = omega (arith, ge, apart) in
    subst (λ l. Ascends (spot_ids l)) (sym (with_spot-after s x xs e)) (Below-with_spot x.shard s xs gt a.0, Ascends-with_spot s xs (λ i. new (inr i)) a.1))

-- Ids that are new.

pub In-without : (z id : ℕ) (xs : List Spot) → In z (spot_ids (without id xs)) → In z (spot_ids xs)
In-without z id [] i = i
In-without z id (x ∷ xs) i = by_test (x.shard == id)
    (λ e. inr (subst (λ l. In z (spot_ids l)) (without-here id x xs e) i))
    (λ e. elim (subst (λ l. In z (spot_ids l)) (without-later id x xs e) i) [ inl here ↦ inl here | inr later ↦ inr (In-without z id xs later) ])

pub In-with_spot : (z : ℕ) (s : Spot) (xs : List Spot) → In z (spot_ids (with_spot s xs)) → (z ≡ s.shard) ⊎ In z (spot_ids xs)
In-with_spot z s [] i = i
In-with_spot z s (x ∷ xs) i = by_test (nat_lt s.shard x.shard)
    (λ e. subst (λ l. In z (spot_ids l)) (with_spot-before s x xs e) i)
    (λ e. elim (subst (λ l. In z (spot_ids l)) (with_spot-after s x xs e) i) [
      | inl here ↦ inr (inl here)
      | inr later ↦ elim (In-with_spot z s xs later) [ inl same ↦ inl same | inr old ↦ inr (inr old) ]
    ])

-- an id that no spot has
pub not_in : (id : ℕ) (xs : List Spot) → has_spot id xs ≡ false → ¬ In id (spot_ids xs)
not_in id [] none = λ i. i
not_in id (x ∷ xs) none = by_test (x.shard == id)
    (λ e. absurd (false≢true (sym (rw e at none))))
    (λ e. λ i. elim i [
      | inl here ↦ eqb-false x.shard id e (sym here)
      | inr later ↦ not_in id xs (rw e at none) later
    ])

-- a registry after a split
pub IsRegistry-split : (id : ℕ) (left right : Spot) (xs old now : List Spot) → IsRegistry (record { frontier = xs; retired = old }) → ¬ In left.shard (spot_ids xs) → ¬ In right.shard (spot_ids xs) → (left.shard ≡ right.shard → ⊥)
    → IsRegistry (record { frontier = with_spot right (with_spot left (without id xs)); retired = now })
IsRegistry-split id left right xs old now r new_left new_right apart =
    let rest = without id xs in
    record {
      some = with_spot-some right (with_spot left rest);
      ascending = Ascends-with_spot right (with_spot left rest)
          (λ i. elim (In-with_spot right.shard left rest i) [ inl same ↦ apart (sym same) | inr had ↦ new_right (In-without right.shard id xs had) ])
          (Ascends-with_spot left rest (λ i. new_left (In-without left.shard id xs i)) (Ascends-without id xs r.ascending));
    }

-- Looking by halving.

Below-at : (m : ℕ) (xs : List Spot) (k : ℕ) (d : Spot) → Below m (spot_ids xs) → k < length xs → m < (get_or xs k d).shard
Below-at m [] k d b lt = absurd (omega (arith, lt))
Below-at m (x ∷ xs) zero d b lt = b.0
Below-at m (x ∷ xs) (suc k) d b lt = Below-at m xs k d b.1 (omega (arith, lt))

-- the id at a place is below the ids at later ones
pub Ascends-at : (xs : List Spot) (i j : ℕ) (d : Spot) → Ascends (spot_ids xs) → i < j → j < length xs → (get_or xs i d).shard < (get_or xs j d).shard
Ascends-at [] i j d a lt within = absurd (omega (arith, within))
Ascends-at (x ∷ xs) i zero d a lt within = absurd (omega (arith, lt))
Ascends-at (x ∷ xs) zero (suc j) d a lt within = Below-at x.shard xs j d a.0 (omega (arith, within))
Ascends-at (x ∷ xs) (suc i) (suc j) d a lt within = Ascends-at xs i j d a.1 (omega (arith, lt)) (omega (arith, within))

-- the comparisons with an id rise along the list, as a search by halving asks
comparisons_rise : (xs : List Spot) (id : ℕ) → Ascends (spot_ids xs) → IsNonDecreasingBy (λ s. ordering_index (nat_cmp s.shard id)) xs
comparisons_rise xs id a i j d le within =
    let rise : (get_or xs i d).shard ≤ (get_or xs j d).shard = elim (cases_lt i j) [
      | inl less ↦ let lt = Ascends-at xs i j d a less within in omega (arith, lt)
      | inr ge ↦ let e : i ≡ j = omega (arith, le, ge) in let same = ap (λ n. (get_or xs n d).shard) e in omega (arith, same)
    ] in
    grind (arith, nat_tests, rise)

-- such a search ends at the spot of the id, or no spot has it
pub searched : (xs : List Spot) (id : ℕ) → Ascends (spot_ids xs) → (r : Result ℕ ℕ) → IsSearchInRange r (length xs) → IsBinarySearchResult (λ s. nat_cmp s.shard id) xs r
    → record { found : IfOk r (IsAt id xs); absent : IfErr r (λ _. All (λ s. s.shard ≢ id) xs) }
searched xs id a (Ok place) within equal = record { found = record { within = within; shard = λ d. ranked _ id _ (sym (equal d)) }; absent = tt }
searched xs id a (Err place) within parted = record {
  found = tt;
  absent = λ k d lt same. elim (cases_lt k place) [
    | inl less ↦ let below = ranked _ id _ (sym ((parted (comparisons_rise xs id a)).0 k d (omega arith) less)) in omega (arith, below, same)
    | inr ge ↦ let above = ranked _ id _ (sym ((parted (comparisons_rise xs id a)).1 k d ge lt)) in omega (arith, above, same)
  ];
}
