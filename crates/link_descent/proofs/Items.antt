-- The items of a list at some places.
use Rattle.std.proofs.{Common.{ℕ, ◌≡◌, ◌+◌, ◌<◌, List, [], ◌∷◌, ◌++◌, length, map, take, get_or, pos, Some, refl, sym, ap, subst, ◌∙◌, arith}, lemmas.List.{take_more, length-map, nil_from_length, get_or_default}, lemmas.List.Elements.{filter_map-append, All-nil, All-tail, All-same, All-map}, lemmas.List.FromFn.fill_by_all, lemmas.List.Sorted.{IsPermutation-refl, IsPermutation-map}, lemmas.Option.{slice_get_read, slice_get-get_or}}
use Rattle.std.specs.{List.{AllZip, cons_option, range_with_len}, Prelude.{slice_get, All, IfSome, IsPermutation}}
use Rattle.dim_hierarchy.specs.declared.row.Row.{Row}
use Rattle.hierarchy_split.proofs.Orders.{places_length, places_below}
use Rattle.link_descent.specs.Divide.{items_at}

pub items_at-append : {A : Type 0} (xs : List A) (some more : List ℕ) → items_at xs (some ++ more) ≡ items_at xs some ++ items_at xs more
items_at-append xs some more = filter_map-append (λ place. slice_get xs place) some more

pub items_at-one : {A : Type 0} (xs : List A) (place : ℕ) (x : A) → slice_get xs place ≡ Some x → items_at xs (place ∷ []) ≡ x ∷ []
items_at-one xs place x e = ap (λ o. cons_option o []) e

-- one place more
pub items_at-more : {A : Type 0} (xs : List A) (places : List ℕ) (i place : ℕ) (x : A) → i < length places → place ≡ get_or places i 0 → place < length xs → x ≡ get_or xs place x → items_at xs (take (i + 1) places) ≡ items_at xs (take i places) ++ x ∷ []
items_at-more xs places i place x lt e within read =
    ap (items_at xs) (take_more places i 0 lt)
    ∙ items_at-append xs (take i places) (get_or places i 0 ∷ [])
    ∙ ap (λ p. items_at xs (take i places) ++ items_at xs (p ∷ [])) (sym e)
    ∙ ap (λ l. items_at xs (take i places) ++ l) (items_at-one xs place x (slice_get_read xs (length xs) place x refl within read))

-- the items at places within the list, read one by one
items_at-read : {A : Type 0} (xs : List A) (d : A) (places : List ℕ) → All (λ place. place < length xs) places → items_at xs places ≡ map (λ place. get_or xs place d) places
items_at-read xs d [] within = refl
items_at-read xs d (place ∷ places) within =
    ap (λ o. cons_option o (items_at xs places)) (slice_get-get_or xs place d (within 0 0 (omega arith)))
    ∙ ap (λ l. get_or xs place d ∷ l) (items_at-read xs d places (All-tail (λ p. p < length xs) place places within))

pub length-items_at : {A : Type 0} (xs : List A) (places : List ℕ) → All (λ place. place < length xs) places → length (items_at xs places) ≡ length places
length-items_at xs [] within = refl
length-items_at [] (place ∷ places) within = absurd (let lt = within 0 0 (omega arith) in omega (arith, lt))
length-items_at (x ∷ xs) (place ∷ places) within =
    ap length (items_at-read (x ∷ xs) x (place ∷ places) within) ∙ length-map (place ∷ places) (λ p. get_or (x ∷ xs) p x)

pub All-items_at : {A : Type 0} (P : A → Type 0) (xs : List A) (places : List ℕ) → All (λ place. place < length xs) places → All P xs → All P (items_at xs places)
All-items_at P xs [] within all = All-nil P
All-items_at P [] (place ∷ places) within all = absurd (let lt = within 0 0 (omega arith) in omega (arith, lt))
All-items_at P (x ∷ xs) (place ∷ places) within all =
    let read = items_at-read (x ∷ xs) x (place ∷ places) within in
    All-same P (items_at (x ∷ xs) (place ∷ places)) (map (λ p. get_or (x ∷ xs) p x) (place ∷ places)) read
    (All-map P (λ p. get_or (x ∷ xs) p x) (place ∷ places) (λ k d lt. all (get_or (place ∷ places) k d) x (within k d lt)))

-- the items at all places, in any order, are all items

pub items_at-all : {A : Type 0} (xs : List A) (order : List ℕ) → IsPermutation (range_with_len 0 (length xs)) order → IsPermutation xs (items_at xs order)
items_at-all {A} [] order p =
    let e : order ≡ [] = nil_from_length order (places_length 0 order p) in
    subst (λ l. IsPermutation {X = A} [] (items_at [] l)) (sym e) (IsPermutation-refl {X = A} [])
items_at-all (x ∷ xs) order p =
    let all = x ∷ xs in
    let n = length all in
    let read = items_at-read all x order (places_below n order p) in
    subst (λ l. IsPermutation l (items_at all order)) (sym (fill_by_all (λ place. get_or all place x) all n x refl (λ k lt. refl)))
    (subst (λ l. IsPermutation (map (λ place. get_or all place x) (range_with_len 0 n)) l) (sym read)
    (IsPermutation-map (λ place. get_or all place x) (range_with_len 0 n) order p))

-- those at some places and those at the others are all items
pub items_at-parts : {A : Type 0} (xs : List A) (some more : List ℕ) → IsPermutation (range_with_len 0 (length xs)) (some ++ more) → IsPermutation xs (items_at xs some ++ items_at xs more)
items_at-parts xs some more p = subst (IsPermutation xs) (items_at-append xs some more) (items_at-all xs (some ++ more) p)

-- a pair more at the ends of two lists
pub AllZip-ends : {A B : Type 0} (R : A → B → Type 0) (xs : List A) (ys : List B) (x : A) (y : B) → AllZip R xs ys → R x y → AllZip R (xs ++ x ∷ []) (ys ++ y ∷ [])
AllZip-ends R [] [] x y all r = (r, tt)
AllZip-ends R [] (b ∷ ys) x y all r = absurd all
AllZip-ends R (a ∷ xs) [] x y all r = absurd all
AllZip-ends R (a ∷ xs) (b ∷ ys) x y all r = (all.0, AllZip-ends R xs ys x y all.1 r)

pub AllZip-more : {A B : Type 0} (R : A → B → Type 0) (xs : List A) (ys : List B) (i : ℕ) (x : A) (y : B) → i < length xs → x ≡ get_or xs i x → AllZip R (take i xs) ys → R x y → AllZip R (take (i + 1) xs) (ys ++ y ∷ [])
AllZip-more R xs ys i x y lt read all r = rw (take_more xs i x lt, ← read) (AllZip-ends R (take i xs) ys x y all r)

-- A row of a list, of which a call says something where it is there.

pub no_row : Row
no_row = record { no = 0; at = record { at = [] }; measures = pos 0 }

pub row_there : (P : Row → Type 0) (rows : List Row) (place : ℕ) → place < length rows → IfSome (slice_get rows place) P → P (get_or rows place no_row)
row_there P rows place lt f = subst (λ o. IfSome o P) (slice_get-get_or rows place no_row lt) f

pub row_read : (rows : List Row) (place : ℕ) → place < length rows → get_or rows place no_row ≡ get_or rows place (get_or rows place no_row)
row_read rows place lt = sym (get_or_default rows place (get_or rows place no_row) no_row lt)
