-- What is at the front of a buffer of names, and one more at its end.
use Rattle.std.proofs.{Common.{ℕ, zero, suc, ◌≡◌, ◌+◌, ◌<◌, ◌≤◌, List, [], ◌∷◌, ◌++◌, length, take, drop, get_or, refl, sym, ap, subst, ◌∙◌, arith}, Math.Seq.{drop-length, take-length}, lemmas.List.{take-append-le, drop-append-le, length-append, length-drop, drop_more}}
use Rattle.dim_hierarchy.specs.RowNames.{names_in, AreNames}

pub length-names_in : (count : ℕ) (bytes : List ℕ) → length (names_in count bytes) ≡ count
length-names_in zero bytes = refl
length-names_in (suc count) [] = ap suc (length-names_in count [])
length-names_in (suc count) (n ∷ rest) = ap suc (length-names_in count (drop n rest))

-- each name takes a byte at least
pub AreNames-few : (count : ℕ) (bytes : List ℕ) → AreNames count bytes → count ≤ length bytes
AreNames-few zero bytes are = omega arith
AreNames-few (suc count) [] are = absurd are
AreNames-few (suc count) (n ∷ rest) are =
    let few = AreNames-few count (drop n rest) are.1 in
    let len = length-drop n rest in
    omega (arith, few, len)

-- One more at the end.

pub AreNames-push : (count : ℕ) (bytes name : List ℕ) → AreNames count bytes → AreNames (suc count) (bytes ++ length name ∷ name)
AreNames-push zero bytes name are = subst (λ b. AreNames 1 (b ++ length name ∷ name)) (sym are) (omega arith, drop-length name)
AreNames-push (suc count) [] name are = absurd are
AreNames-push (suc count) (n ∷ rest) name are =
    let len = length-append rest (length name ∷ name) in
    (omega (arith, len, are.0), subst (AreNames (suc count)) (sym (drop-append-le n rest (length name ∷ name) are.0)) (AreNames-push count (drop n rest) name are.1))

pub names_in-push : (count : ℕ) (bytes name : List ℕ) → AreNames count bytes → names_in (suc count) (bytes ++ length name ∷ name) ≡ names_in count bytes ++ name ∷ []
names_in-push zero bytes name are = rw are (ap (λ t. t ∷ []) (take-length name))
names_in-push (suc count) [] name are = absurd are
names_in-push (suc count) (n ∷ rest) name are =
    let first = take-append-le n rest (length name ∷ name) are.0 in
    let more = ap (names_in (suc count)) (drop-append-le n rest (length name ∷ name) are.0) ∙ names_in-push count (drop n rest) name are.1 in
    cc

-- The name at a place.

-- behind so many names stand these bytes, which are the names that are left
pub record IsBehind (names : List (List ℕ)) (place : ℕ) (rest : List ℕ) : Type 0 where
  pub left : ℕ
  pub all : left + place ≡ length names
  pub whole : AreNames left rest
  pub others : drop place names ≡ names_in left rest

pub IsBehind-start : (count : ℕ) (bytes : List ℕ) → AreNames count bytes → IsBehind (names_in count bytes) 0 bytes
IsBehind-start count bytes are = record { left = count; all = omega (arith, length-names_in count bytes); whole = are; others = refl }

-- the first of the names that are left, and those behind it
pub record IsFirst (names : List (List ℕ)) (place : ℕ) (rest : List ℕ) : Type 0 where
  pub some : 0 < length rest
  pub whole : get_or rest 0 0 < length rest
  pub name : take (get_or rest 0 0) (drop 1 rest) ≡ get_or names place []
  pub others : IsBehind names (place + 1) (drop (1 + get_or rest 0 0) rest)

pub IsBehind-first : (names : List (List ℕ)) (place : ℕ) (rest : List ℕ) → IsBehind names place rest → place < length names → IsFirst names place rest
IsBehind-first names place rest behind lt = first behind.left rest behind.all behind.whole behind.others
  where
    first : (left : ℕ) (rest : List ℕ) → left + place ≡ length names → AreNames left rest → drop place names ≡ names_in left rest → IsFirst names place rest
    first zero rest all are others = absurd (omega arith)
    first (suc left) [] all are others = absurd are
    first (suc left) (n ∷ rest) all are others =
        let step = drop_more names place [] lt in
        let here : take n rest ≡ get_or names place [] = cc in
        let behind : drop (place + 1) names ≡ names_in left (drop n rest) = cc in
        let one : suc n ≡ 1 + n = omega arith in
        let past : drop n rest ≡ drop (1 + n) (n ∷ rest) = ap (λ k. drop k (n ∷ rest)) one in
        record {
          some = omega arith;
          whole = omega (arith, are.0);
          name = here;
          others = record { left = left; all = omega arith; whole = subst (AreNames left) past are.1; others = behind ∙ ap (names_in left) past };
        }
