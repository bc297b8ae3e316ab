-- The marks of a filter, made and read.
use Rattle.std.proofs.{Common.{ℕ, ◌≡◌, ◌+◌, ◌-◌, ◌<◌, ◌≤◌, Bool, true, false, eqb, List, [], ◌∷◌, ◌++◌, length, get_or, refl, sym, ap, subst, ◌∙◌, arith, inl, inr, length-append}, lemmas.Bool.{cases_lt, eqb-true}, lemmas.List.{get_or_append_left, get_or_push}, lemmas.List.Elements.{All-head, All-tail}}
use Rattle.std.specs.{List.{list_all, list_any}, Prelude.{All as Each, ◌==◌, filter, nat_le, nat_lt, not}}
use Rattle.dim_hierarchy.specs.{Column.is_marked, Compiled.{AreDimMarks, AreFilterMarks, AreOfLevel, is_related}, Concept.{level_of, number_of}, Dimension.{Dimension, tree}, Filter.{IsFilterOf, is_picked, pick_at}, Marks.AreMarksOf, Tree.{Tree, IsConcept, IsLeaf, leaf_level, parents_at}, declared.dim_marks.DimMarks.DimMarks, declared.filter.Pick.Pick, declared.filter.Pick.TheVariants.All}
use Rattle.dim_hierarchy.specs.declared.dim_marks.DimMarks.TheVariants as each
use Rattle.dim_hierarchy.proofs.Marking.{mark_greatest, mark_under, mark_some}

-- the marks of the first dimensions
pub record AreFirstMarks (h : List Dimension) (f : List Pick) (n : ℕ) (marks : List DimMarks) : Type 0 where
  pub count : length marks ≡ n
  pub each : (dim : ℕ) → dim < n → AreDimMarks (tree h dim) (pick_at f dim) (get_or marks dim each.All)

pub AreFirstMarks-more : (h : List Dimension) (f : List Pick) (n : ℕ) (marks : List DimMarks) (more : DimMarks) → AreFirstMarks h f n marks
    → AreDimMarks (tree h n) (pick_at f n) more → AreFirstMarks h f (n + 1) (marks ++ more ∷ [])
AreFirstMarks-more h f n marks more u m = record {
  count = length-append marks (more ∷ []) ∙ ap (λ k. k + 1) u.count;
  each = λ dim lt. elim (cases_lt dim n) [
    | inl below ↦ subst (AreDimMarks (tree h dim) (pick_at f dim)) (sym (get_or_append_left marks (more ∷ []) each.All dim (let c = u.count in omega (arith, c, below)))) (u.each dim below)
    | inr le ↦
        let is : dim ≡ n = omega (arith, le, lt) in
        let at : length marks ≡ dim = u.count ∙ sym is in
        subst (AreDimMarks (tree h dim) (pick_at f dim)) (sym (get_or_push marks more each.All dim at)) (subst (λ d. AreDimMarks (tree h d) (pick_at f d) more) (sym is) m)
  ];
}

pub AreFilterMarks-all : (h : List Dimension) (f : List Pick) (n : ℕ) (marks : List DimMarks) → IsFilterOf h f → n ≡ length h → AreFirstMarks h f n marks → AreFilterMarks h f marks
AreFilterMarks-all h f n marks v e u = record {
  valid = v;
  count = u.count ∙ e;
  each = λ dim lt. u.each dim (omega (arith, e, lt));
}

-- What is read at concepts of a level.

pub list_all-same : (p q : ℕ → Bool) (xs : List ℕ) → Each (λ x. p x ≡ q x) xs → list_all p xs ≡ list_all q xs
list_all-same p q [] e = refl
list_all-same p q (x ∷ xs) e =
    rw (All-head (λ y. p y ≡ q y) x xs e, list_all-same p q xs (All-tail (λ y. p y ≡ q y) x xs e)) refl

pub list_any-same : (p q : ℕ → Bool) (xs : List ℕ) → Each (λ x. p x ≡ q x) xs → list_any p xs ≡ list_any q xs
list_any-same p q [] e = refl
list_any-same p q (x ∷ xs) e =
    rw (All-head (λ y. p y ≡ q y) x xs e, list_any-same p q xs (All-tail (λ y. p y ≡ q y) x xs e)) refl

pub filter-same : (p q : ℕ → Bool) (xs : List ℕ) → Each (λ x. p x ≡ q x) xs → filter p xs ≡ filter q xs
filter-same p q [] e = refl
filter-same p q (x ∷ xs) e =
    rw (All-head (λ y. p y ≡ q y) x xs e, filter-same p q xs (All-tail (λ y. p y ≡ q y) x xs e)) refl

-- a concept's number is in range, and its mark is read there
pub number_within : (t : Tree) (p : Pick) (level id : ℕ) (marks : List (List ℕ)) → AreMarksOf t p marks → level < length t → IsConcept t id → level_of id ≡ level → number_of id < length (get_or marks level [])
number_within t p level id marks m lt c e =
    let n = (m.each level lt).count in
    let same : length (parents_at t (level_of id)) ≡ length (parents_at t level) = ap (λ l. length (parents_at t l)) e in
    let k = c.number in
    omega (arith, n, same, k)

pub numbers_within : (t : Tree) (p : Pick) (level : ℕ) (ids : List ℕ) (marks : List (List ℕ)) → AreMarksOf t p marks → level < length t → AreOfLevel t level ids → Each (λ id. number_of id < length (get_or marks level [])) ids
numbers_within t p level ids marks m lt all = λ k d within. let c = all k d within in number_within t p level (get_or ids k d) marks m lt c.0 c.1

pub all_under : (t : Tree) (p : Pick) (level : ℕ) (ids : List ℕ) (marks : List (List ℕ)) → AreMarksOf t p marks → level < length t → AreOfLevel t level ids
    → list_all (λ id. get_or (get_or marks level []) (number_of id) 0 == 2) ids ≡ list_all (is_picked t p) ids
all_under t p level ids marks m lt all =
    list_all-same _ (is_picked t p) ids (λ k d within.
    let c = all k d within in
    ap (λ x. x == 2) ((m.each level lt).each (get_or ids k d) c.0 c.1) ∙ mark_under t p (get_or ids k d))

pub any_related : (t : Tree) (p : Pick) (level : ℕ) (ids : List ℕ) (marks : List (List ℕ)) → AreMarksOf t p marks → level < length t → AreOfLevel t level ids
    → list_any (λ id. nat_lt 0 (get_or (get_or marks level []) (number_of id) 0)) ids ≡ list_any (is_related t p) ids
any_related t p level ids marks m lt all =
    list_any-same _ (is_related t p) ids (λ k d within.
    let c = all k d within in
    ap (nat_lt 0) ((m.each level lt).each (get_or ids k d) c.0 c.1) ∙ mark_some t p (get_or ids k d))

-- What is read at the leaves of a column.

pub leaves_some : (t : Tree) (p : Pick) (marks : List (List ℕ)) → 2 ≤ length t → AreMarksOf t p marks → 0 < length marks
leaves_some t p marks tall m = let n = m.count in omega (arith, n, tall)

pub leaves_within : (t : Tree) (p : Pick) (column places : List ℕ) (marks : List (List ℕ)) → AreMarksOf t p marks → 0 < length marks → Each (λ place. IsLeaf t (get_or column place 0)) places
    → Each (λ place. number_of (get_or column place 0) < length (get_or marks (length marks - 1) [])) places
leaves_within t p column places marks m some all = λ k d within.
    let leaf = all k d within in
    let n = m.count in
    let e : leaf_level t ≡ length marks - 1 = omega (arith, n) in
    number_within t p (length marks - 1) (get_or column (get_or places k d) 0) marks m (omega (arith, n, some)) leaf.concept (leaf.last ∙ e)

pub leaves_kept : (t : Tree) (p : Pick) (column places : List ℕ) (marks : List (List ℕ)) → AreMarksOf t p marks → 0 < length marks → Each (λ place. IsLeaf t (get_or column place 0)) places
    → filter (is_marked column (get_or marks (length marks - 1) [])) places ≡ filter (λ place. is_picked t p (get_or column place 0)) places
leaves_kept t p column places marks m some all =
    filter-same _ (λ place. is_picked t p (get_or column place 0)) places (λ k d within.
    let leaf = all k d within in
    let n = m.count in
    let e : leaf_level t ≡ length marks - 1 = omega (arith, n) in
    let id = get_or column (get_or places k d) 0 in
    ap (nat_le 2) ((m.each (length marks - 1) (omega (arith, n, some))).each id leaf.concept (leaf.last ∙ e)) ∙ mark_greatest t p id)

-- Where all are picked.

pub all_if_all : (t : Tree) (p : Pick) (ids : List ℕ) → p ≡ All → list_all (is_picked t p) ids ≡ true
all_if_all t p ids e = rw e (each ids)
  where
    each : (xs : List ℕ) → list_all (is_picked t All) xs ≡ true
    each [] = refl
    each (x ∷ xs) = each xs

pub any_if_all : (t : Tree) (p : Pick) (ids : List ℕ) → p ≡ All → list_any (is_related t p) ids ≡ not (length ids == 0)
any_if_all t p [] e = refl
any_if_all t p (x ∷ xs) e = rw e (some (eqb (length (x ∷ xs)) 0) refl)
  where
    some : (b : Bool) → b ≡ eqb (length (x ∷ xs)) 0 → true ≡ not b
    some false q = refl
    some true q = absurd (let z = eqb-true (length (x ∷ xs)) 0 (sym q) in omega arith)

pub kept_if_all : (t : Tree) (p : Pick) (column places : List ℕ) → p ≡ All → filter (λ place. is_picked t p (get_or column place 0)) places ≡ places
kept_if_all t p column places e = rw e (each places)
  where
    each : (xs : List ℕ) → filter (λ place. is_picked t All (get_or column place 0)) xs ≡ xs
    each [] = refl
    each (x ∷ xs) = ap (λ l. x ∷ l) (each xs)
