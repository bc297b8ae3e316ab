-- What a list contains: with an optional head, filtered, mapped, behind its head.
use Rattle.std.proofs.{Common.{ℕ, ◌⊎◌, inl, inr, ◌≡◌, ◌<◌, zero, suc, refl, sym, map, length, List, [], ◌∷◌, Bool, true, IsTrue, ap, ◌∙◌, arith}, lemmas.Bool.cond_both, lemmas.List.Elements.{All-contains, All-contains_itself, All-filter, All-tail, Contains-append_right, filter_passes}}
use Rattle.std.specs.{List.{cons_option, AllZip}, Prelude.{slice_index_or, Option, Some, None, All, Contains, filter}}

pub Contains-cons_option : {X : Type 0} (o : Option X) (xs : List X) (x : X) → Contains xs x → Contains (cons_option o xs) x
Contains-cons_option None xs x has = has
Contains-cons_option (Some y) xs x has = Contains-append_right (y ∷ []) xs x has

pub All-cons_option : {X : Type 0} (P : X → Type 0) (o : Option X) (xs : List X) → All P (cons_option o xs) → All P xs
All-cons_option P None xs all = all
All-cons_option P (Some y) xs all = All-tail P y xs all

-- what a filter keeps was there
pub Contains-filtered : {X : Type 0} (test : X → Bool) (xs : List X) (x : X) → Contains (filter test xs) x → Contains xs x
Contains-filtered test xs x has = All-contains (Contains xs) (filter test xs) x (All-filter test (Contains xs) xs (All-contains_itself xs)) has

-- and passes
pub IsTrue-filtered : {X : Type 0} (test : X → Bool) (xs : List X) (x : X) → Contains (filter test xs) x → IsTrue (test x)
IsTrue-filtered test xs x has = All-contains (λ y. test y ≡ true) (filter test xs) x (filter_passes test xs) has

-- what was there and passes is kept
pub Contains-filter : {X : Type 0} (test : X → Bool) (xs : List X) (x : X) → Contains xs x → IsTrue (test x) → Contains (filter test xs) x
Contains-filter test [] x has passes = has
Contains-filter test (y ∷ ys) x (zero, within, here) passes = rw (ap test here ∙ passes) (0, omega arith, here)
Contains-filter test (y ∷ ys) x (suc k, within, here) passes =
    let rest : Contains (filter test ys) x = Contains-filter test ys x (k, omega arith, here) passes in
    cond_both (test y) (y ∷ filter test ys) (filter test ys) (λ kept. Contains kept x)
    (λ _. Contains-append_right (y ∷ []) (filter test ys) x rest)
    (λ _. rest)

pub Contains-nil : {X : Type 0} (x : X) → Contains [] x → ⊥
Contains-nil x has = let below : has.0 < 0 = has.1 in omega arith

pub Contains-map : {X Y : Type 0} (f : X → Y) (xs : List X) (x : X) → Contains xs x → Contains (map f xs) (f x)
Contains-map f [] x has = absurd (Contains-nil x has)
Contains-map f (y ∷ ys) x (zero, within, here) = (0, omega arith, ap f here)
Contains-map f (y ∷ ys) x (suc k, within, here) = Contains-append_right (f y ∷ []) (map f ys) (f x) (Contains-map f ys x (k, omega arith, here))

-- what stands in a mapped list comes from an element
pub Contains-mapped : {X Y : Type 0} (f : X → Y) (xs : List X) (y : Y) → Contains (map f xs) y → (x : X) × Contains xs x × (f x ≡ y)
Contains-mapped f [] y has = absurd (Contains-nil y has)
Contains-mapped f (x ∷ xs) y (zero, within, here) = (x, (0, omega arith, refl), here)
Contains-mapped f (x ∷ xs) y (suc k, within, here) =
    let found = Contains-mapped f xs y (k, omega arith, here) in (found.0, Contains-append_right (x ∷ []) xs found.0 found.1, found.2)

-- a list of one element has no two
pub only : {X : Type 0} (xs : List X) (x y : X) → 1 ≡ length xs → Contains xs x → Contains xs y → x ≡ y
only [] x y one has_x has_y = absurd (Contains-nil x has_x)
only (z ∷ []) x y one (zero, within, here) (zero, low, there) = sym here ∙ there
only (z ∷ []) x y one (zero, within, here) (suc k, low, there) = absurd (omega arith)
only (z ∷ []) x y one (suc k, within, here) has_y = absurd (omega arith)
only (z ∷ w ∷ xs) x y one has_x has_y = absurd (omega arith)

pub Some-same : {X : Type 0} (x y : X) → Some x ≡ Some y → y ≡ x
Some-same x y same = cc

-- lists that agree place by place are equally long
pub length-AllZip : {A B : Type 0} (R : A → B → Type 0) (xs : List A) (ys : List B) → AllZip R xs ys → length xs ≡ length ys
length-AllZip R [] [] all = refl
length-AllZip R [] (y ∷ ys) all = absurd all
length-AllZip R (x ∷ xs) [] all = absurd all
length-AllZip R (x ∷ xs) (y ∷ ys) all = let rest : length xs ≡ length ys = length-AllZip R xs ys all.1 in omega arith

-- an element of a longer list is the first one or one of the others
pub Contains-first : {X : Type 0} (y : X) (ys : List X) (x : X) → Contains (y ∷ ys) x → (y ≡ x) ⊎ Contains ys x
Contains-first y ys x has = at has.0 has.1 has.2
  where
    at : (k : ℕ) → k < length (y ∷ ys) → slice_index_or (y ∷ ys) k x ≡ x → (y ≡ x) ⊎ Contains ys x
    at zero within here = inl here
    at (suc k) within here = inr (k, omega arith, here)
