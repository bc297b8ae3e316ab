-- What it says that an item of a head is crossed.
use Rattle.std.proofs.{Common.{ℕ, ◌≡◌, ◌+◌, ◌<◌, Bool, true, false, not, ◌&&◌, cond, eqb, zero, suc, List, [], ◌∷◌, ◌++◌, length, map, get_or, refl, sym, ap, subst, ◌∙◌, arith}, lemmas.Bool.{false≢true, or_from, or_parts, eq-eqb, eqb-true}, lemmas.List.{length-map, get_or-map, get_or_default, get_or_append_left, get_or-append-add, length-append}, lemmas.List.Elements.{All-head, All-tail, All-append, All-filter, filter_passes}, lemmas.List.Folds.{list_any_at, list_any_none}, lemmas.List.Sums.sum_by-cons}
use Rattle.std.specs.{List.{list_any, filter, count_by}, Prelude.{All, Contains}}
use Rattle.dim_hierarchy.specs.{Dimension.{Dimension, tree}, Tree.up}
use Rattle.describing_set.specs.{DescSet.part_at, declared.set.DescSet.DescSet}
use Rattle.hierarchy_split.specs.{Best.IsUncrossed, Crossing.{has_lifted, crosses, is_crossed_in_head, is_crossed_in_others, is_crossed}, Cut.{lifted, leasts}, Head.{GroupItems, is_kept, kept_items, parted_items}, Order.least, declared.head_cut.HeadCut.HeadCut}

-- Tests.

from_not_true : (b : Bool) → ¬ (b ≡ true) → b ≡ false
from_not_true true f = absurd (f refl)
from_not_true false f = refl

second_false : (a b : Bool) → a ≡ true → (a && b) ≡ false → b ≡ false
second_false true b e f = f
second_false false b e f = absurd (false≢true e)

and_false : (a b : Bool) → (a ≡ true → b ≡ false) → (a && b) ≡ false
and_false true b f = f refl
and_false false b f = refl

any_false_at : {X : Type 0} (p : X → Bool) (xs : List X) (i : ℕ) (d : X) → i < length xs → list_any p xs ≡ false → p (get_or xs i d) ≡ false
any_false_at p xs i d lt e = from_not_true (p (get_or xs i d)) (λ t. false≢true (sym e ∙ list_any_at p xs i d lt t))

-- Lists that are picked by a test.

all_kept : {X : Type 0} (p : X → Bool) (P : X → Type 0) (xs : List X) → All (λ x. p x ≡ true → P x) xs → All P (filter p xs)
all_kept p P xs f = λ k d lt. All-filter p (λ x. p x ≡ true → P x) xs f k d lt (filter_passes p xs k d lt)

rest_kept : {X : Type 0} (P : X → Type 0) (b : Bool) (x : X) (xs : List X) → All P (cond b (x ∷ xs) xs) → All P xs
rest_kept P true x xs a = All-tail P x xs a
rest_kept P false x xs a = a

kept_at : {X : Type 0} (p : X → Bool) (P : X → Type 0) (xs : List X) → All P (filter p xs) → (k : ℕ) (d : X) → k < length xs → p (get_or xs k d) ≡ true → P (get_or xs k d)
kept_at p P [] a k d lt e = absurd (omega arith)
kept_at p P (x ∷ xs) a zero d lt e = All-head P x (filter p xs) (subst (λ b. All P (cond b (x ∷ filter p xs) (filter p xs))) e a)
kept_at p P (x ∷ xs) a (suc k) d lt e = kept_at p P xs (rest_kept P (p x) x (filter p xs) a) k d (omega arith) e

pub all_left : {X : Type 0} (P : X → Type 0) (xs ys : List X) → All P (xs ++ ys) → All P xs
all_left P xs ys a = λ k d lt. let n = length-append xs ys in subst P (get_or_append_left xs ys d k lt) (a k d (omega (arith, n, lt)))

pub all_right : {X : Type 0} (P : X → Type 0) (xs ys : List X) → All P (xs ++ ys) → All P ys
all_right P xs ys a = λ k d lt. let n = length-append xs ys in subst P (get_or-append-add xs ys k d) (a (length xs + k) d (omega (arith, n, lt)))

pub count_by-map : {X : Type 0} (p : ℕ → Bool) (f : X → ℕ) (xs : List X) → count_by p (map f xs) ≡ count_by (λ x. p (f x)) xs
count_by-map p f [] = refl
count_by-map p f (x ∷ xs) =
    sum_by-cons (λ v. cond (p v) 1 0) (f x) (map f xs) ∙ ap (λ n. cond (p (f x)) 1 0 + n) (count_by-map p f xs) ∙ sym (sum_by-cons (λ v. cond (p (f v)) 1 0) x xs)

-- Lists without a common number.

pub record AreApart (xs ys : List ℕ) : Type 0 where
  pub apart : (i j : ℕ) → i < length xs → j < length ys → ¬ (get_or xs i 0 ≡ get_or ys j 0)

AreApart-sym : (xs ys : List ℕ) → AreApart xs ys → AreApart ys xs
AreApart-sym xs ys a = record { apart = λ i j lti ltj e. a.apart j i ltj lti (sym e) }

AreApart-from_test : (f : ℕ → ℕ) (ids ys : List ℕ) → list_any (λ id. list_any (λ y. eqb y (f id)) ys) ids ≡ false → AreApart (map f ids) ys
AreApart-from_test f ids ys untrue = record {
  apart = λ i j lti ltj e.
      let n = length-map ids f in
      let lt : i < length ids = omega (arith, n, lti) in
      let inner = any_false_at (λ id. list_any (λ y. eqb y (f id)) ys) ids i 0 lt untrue in
      let test = any_false_at (λ y. eqb y (f (get_or ids i 0))) ys j 0 ltj inner in
      false≢true (sym test ∙ eq-eqb (get_or ys j 0) (f (get_or ids i 0)) (sym e ∙ get_or-map f ids i 0 0 lt));
}

test-from_AreApart : (f : ℕ → ℕ) (ids ys : List ℕ) → AreApart (map f ids) ys → list_any (λ id. list_any (λ y. eqb y (f id)) ys) ids ≡ false
test-from_AreApart f ids ys a =
    list_any_none (λ id. list_any (λ y. eqb y (f id)) ys) ids
    (λ i d lt. list_any_none (λ y. eqb y (f (get_or ids i d))) ys
    (λ j e ltj. from_not_true (eqb (get_or ys j e) (f (get_or ids i d)))
    (λ t.
    let n = length-map ids f in
    let same = eqb-true (get_or ys j e) (f (get_or ids i d)) t in
    a.apart i j (omega (arith, n, lt)) ltj (get_or-map f ids i d 0 lt ∙ sym same ∙ get_or_default ys j e 0 ltj))))

all_apart : (xs ys : List ℕ) → AreApart xs ys → All (λ id. ¬ Contains ys id) xs
all_apart xs ys a = λ i d lt c. a.apart i c.0 lt c.1 (get_or_default xs i 0 d lt ∙ sym c.2 ∙ get_or_default ys c.0 (get_or xs i d) 0 c.1)

apart_from_all : (xs ys : List ℕ) → All (λ id. ¬ Contains ys id) xs → AreApart xs ys
apart_from_all xs ys a = record { apart = λ i j lti ltj e. a i 0 lti (j, ltj, get_or_default ys j (get_or xs i 0) 0 ltj ∙ sym e) }

-- A set's lifted concepts and a list.

apart_lists : (h : List Dimension) (dim level : ℕ) (set : DescSet) (ys : List ℕ) → has_lifted h dim level set ys ≡ false → AreApart (lifted h dim level set) ys
apart_lists h dim level set ys untrue = AreApart-from_test (λ id. up (tree h dim) id level) (part_at set dim).ids.items ys untrue

not_among : (h : List Dimension) (dim level : ℕ) (set : DescSet) (ys : List ℕ) → AreApart (lifted h dim level set) ys → has_lifted h dim level set ys ≡ false
not_among h dim level set ys a = test-from_AreApart (λ id. up (tree h dim) id level) (part_at set dim).ids.items ys a

-- With no item of another block.

-- That no kept item is crossed says that the kept items are apart from the others.

abbrev ApartOf : List Dimension → HeadCut → DescSet → DescSet → Type 0
ApartOf h cut kept other = All (λ id. ¬ Contains (lifted h cut.dim cut.level other) id) (lifted h cut.dim cut.level kept)

abbrev pub KeptApart : List Dimension → GroupItems → HeadCut → Type 0
KeptApart h items cut = All (λ kept. All (ApartOf h cut kept) (parted_items h items cut)) (kept_items h items.head cut)

abbrev pub Uncrossed : List Dimension → GroupItems → HeadCut → Type 0
Uncrossed h items cut = IsUncrossed (leasts h items.head cut.dim cut.level) (map (is_crossed h items.head items.others cut.dim cut.level) items.head) cut.concept

kept_apart : (h : List Dimension) (items : GroupItems) (cut : HeadCut) → Uncrossed h items cut → (k : ℕ) (d : DescSet) → k < length items.head → is_kept h cut (get_or items.head k d) ≡ true → All (ApartOf h cut (get_or items.head k d)) (parted_items h items cut)
kept_apart h items cut u k d lt e =
    let head = items.head in
    let others = items.others in
    let dim = cut.dim in
    let level = cut.level in
    let x = get_or head k d in
    let own = λ (set : DescSet). least (lifted h dim level set) in
    let concept = eqb-true (own x) cut.concept e in
    let n = length-map head own in
    let flag = u k (omega (arith, n, lt)) (get_or-map own head k d 0 lt ∙ concept) in
    let is = sym (get_or-map (is_crossed h head others dim level) head k d true lt) ∙ flag in
    let parts = or_parts (is_crossed_in_head h head dim level x) (is_crossed_in_others h others dim level x) is in
    All-append (ApartOf h cut x) (filter (λ set. not (is_kept h cut set)) head) others
    (all_kept (λ set. not (is_kept h cut set)) (ApartOf h cut x) head (λ j z ltj ne.
    let other = get_or head j z in
    let differ = ap (λ c. not (eqb (own other) c)) concept ∙ ne in
    let test = any_false_at (crosses h dim level x) head j z ltj parts.0 in
    let crossed = second_false (not (eqb (own other) (own x))) (has_lifted h dim level other (lifted h dim level x)) differ test in
    all_apart (lifted h dim level x) (lifted h dim level other)
    (AreApart-sym (lifted h dim level other) (lifted h dim level x) (apart_lists h dim level other (lifted h dim level x) crossed))))
    (λ j z ltj.
    let other = get_or others j z in
    let crossed = any_false_at (λ set. has_lifted h dim level x (lifted h dim level set)) others j z ltj parts.1 in
    all_apart (lifted h dim level x) (lifted h dim level other) (apart_lists h dim level x (lifted h dim level other) crossed))

pub apart_from_uncrossed : (h : List Dimension) (items : GroupItems) (cut : HeadCut) → Uncrossed h items cut → KeptApart h items cut
apart_from_uncrossed h items cut u = all_kept (is_kept h cut) (λ kept. All (ApartOf h cut kept) (parted_items h items cut)) items.head (kept_apart h items cut u)

pub uncrossed_from_apart : (h : List Dimension) (items : GroupItems) (cut : HeadCut) → KeptApart h items cut → Uncrossed h items cut
uncrossed_from_apart h items cut a k within is =
    let head = items.head in
    let others = items.others in
    let dim = cut.dim in
    let level = cut.level in
    let none : DescSet = record { parts = record { items = [] } } in
    let x = get_or head k none in
    let own = λ (set : DescSet). least (lifted h dim level set) in
    let n = length-map head own in
    let lt : k < length head = omega (arith, n, within) in
    let concept = sym (get_or-map own head k none 0 lt) ∙ is in
    let all = kept_at (is_kept h cut) (λ kept. All (ApartOf h cut kept) (parted_items h items cut)) head a k none lt (eq-eqb (own x) cut.concept concept) in
    let parted = filter (λ set. not (is_kept h cut set)) head in
    let first = all_left (ApartOf h cut x) parted others all in
    let second = all_right (ApartOf h cut x) parted others all in
    get_or-map (is_crossed h head others dim level) head k none true lt
    ∙ or_from (is_crossed_in_head h head dim level x) (is_crossed_in_others h others dim level x)
    (list_any_none (crosses h dim level x) head (λ j z ltj.
    let other = get_or head j z in
    and_false (not (eqb (own other) (own x))) (has_lifted h dim level other (lifted h dim level x)) (λ differ.
    let ne = ap (λ c. not (eqb (own other) c)) (sym concept) ∙ differ in
    let apart = kept_at (λ set. not (is_kept h cut set)) (ApartOf h cut x) head first j z ltj ne in
    not_among h dim level other (lifted h dim level x) (AreApart-sym (lifted h dim level x) (lifted h dim level other) (apart_from_all (lifted h dim level x) (lifted h dim level other) apart)))))
    (list_any_none (λ set. has_lifted h dim level x (lifted h dim level set)) others (λ j z ltj.
    not_among h dim level x (lifted h dim level (get_or others j z)) (apart_from_all (lifted h dim level x) (lifted h dim level (get_or others j z)) (second j z ltj))))
