-- Tests along the dimensions, and what a set covers.
use Rattle.std.proofs.{Common.{ℕ, zero, suc, ◌≡◌, ◌+◌, ◌<◌, ◌≤◌, Bool, if◌then◌else◌, true, false, eqb, List, [], ◌∷◌, length, map, get_or, refl, sym, ap, subst, ◌∙◌, arith, inl, inr, Contains, eq-eqb, sum}, lemmas.Bool.{and_parts, and_from, cases_lt, eqb-true, false≢true}, lemmas.List.Folds.{Any-from_list_any, list_any_at}, lemmas.List.FromFn.sum_by-map-range_with_len_more}
use Rattle.std.specs.{List.{list_any, range_with_len}, Prelude.{◌↔◌, IsTrue}}
use Rattle.dim_hierarchy.specs.{Dimension.{Dimension, tree}, Filter.in_each, Row.{IsCoordOf, concept_at}, Tree.{Tree, up, leaf_level}, declared.row.Coord.Coord}
use Rattle.dim_hierarchy.proofs.Matching.{IsCoordOf-length}
use Rattle.describing_set.specs.{DescSet.{part_at, column, IsSetOf, covers}, Part.{part, ancestors, has_ancestor}, Sets.{Covers, growth_at}, Sorted.In, declared.part.Part.Part, declared.set.DescSet.DescSet}
use Rattle.describing_set.proofs.{Parts.{deepest, In-ancestors}, Sorted.Contains-from_In}

-- Tests along the dimensions.

-- the test at one dimension
abbrev pub test_at : {A : Type 0} → (Tree → Part → A → Bool) → List Dimension → List Part → List A → A → ℕ → Bool
test_at test h ps xs x dim = test (tree h dim) (get_or ps dim (part 0 [])) (get_or xs dim x)

pub in_each-from : {A : Type 0} (test : Tree → Part → A → Bool) (h : List Dimension) (ps : List Part) (xs : List A) (x : A) → length ps ≡ length h → length h ≤ length xs → ((dim : ℕ) → dim < length h → test_at test h ps xs x dim ≡ true) → in_each test h ps xs ≡ true
in_each-from test [] [] xs x e l f = refl
in_each-from test [] (p ∷ ps) xs x e l f = absurd (omega arith)
in_each-from test (d ∷ ds) [] xs x e l f = absurd (omega arith)
in_each-from test (d ∷ ds) (p ∷ ps) [] x e l f = absurd (omega arith)
in_each-from test (d ∷ ds) (p ∷ ps) (y ∷ ys) x e l f =
    and_from (test d.tree p y) (in_each test ds ps ys) (f 0 (omega arith)) (in_each-from test ds ps ys x (omega arith) (omega arith) (λ dim lt. f (suc dim) (omega arith)))

pub in_each-at : {A : Type 0} (test : Tree → Part → A → Bool) (h : List Dimension) (ps : List Part) (xs : List A) (x : A) → in_each test h ps xs ≡ true → (dim : ℕ) → dim < length h → test_at test h ps xs x dim ≡ true
in_each-at test [] ps xs x e dim lt = absurd (omega arith)
in_each-at test (d ∷ ds) [] xs x e dim lt = absurd (false≢true e)
in_each-at test (d ∷ ds) (p ∷ ps) [] x e dim lt = absurd (false≢true e)
in_each-at test (d ∷ ds) (p ∷ ps) (y ∷ ys) x e zero lt = (and_parts (test d.tree p y) (in_each test ds ps ys) e).0
in_each-at test (d ∷ ds) (p ∷ ps) (y ∷ ys) x e (suc dim) lt =
    in_each-at test ds ps ys x (and_parts (test d.tree p y) (in_each test ds ps ys) e).1 dim (omega arith)

-- where the test fails at one dimension, it fails
pub in_each-fails : {A : Type 0} (test : Tree → Part → A → Bool) (h : List Dimension) (ps : List Part) (xs : List A) (x : A) (dim : ℕ) → dim < length h → test_at test h ps xs x dim ≡ false → false ≡ in_each test h ps xs
in_each-fails test h ps xs x dim lt e = elim (in_each test h ps xs) as (λ b. b ≡ in_each test h ps xs → false ≡ b) [
  | true ↦ λ f. absurd (false≢true (sym e ∙ in_each-at test h ps xs x (sym f) dim lt))
  | false ↦ λ f. refl
] refl

-- the test at a dimension, from what the code reads there
pub test_read : {A : Type 0} (test : Tree → Part → A → Bool) (t : Tree) (p q : Part) (x y : A) (b : Bool) → p ≡ q → x ≡ y → b ≡ test t p x → test t q y ≡ b
test_read test t p q x y b e f r = sym (r ∙ ap (λ u. test t u x) e ∙ ap (test t q) f)

-- what a test means is what an answer that equals it means
pub means : (a b : Bool) (P : Type 0) → a ≡ b → IsTrue b ↔ P → IsTrue a ↔ P
means a b P e m = (λ t. m.0 (sym e ∙ t), λ p. e ∙ m.1 p)

-- Covering.

pub has-Contains : (xs : List ℕ) (a : ℕ) → IsTrue (list_any (λ x. eqb x a) xs) ↔ Contains xs a
has-Contains xs a = (
  λ b.
      let k = Any-from_list_any (λ x. eqb x a) xs b in
      subst (Contains xs) (eqb-true k.1 a k.4) (k.0, k.2, k.3),
  λ k. list_any_at (λ x. eqb x a) xs k.0 a k.1 (eq-eqb (get_or xs k.0 a) a k.2),
)

pub covers-Covers : (h : List Dimension) (set : DescSet) (at : Coord) → length set.parts.items ≡ length h → IsCoordOf h at → IsTrue (covers h set at) ↔ Covers h set at
covers-Covers h set at count c =
    let meaning : (dim : ℕ) → IsTrue (has_ancestor (tree h dim) (part_at set dim) (concept_at at dim)) ↔ Contains (part_at set dim).ids.items (up (tree h dim) (concept_at at dim) (part_at set dim).level) =
    λ dim. has-Contains (part_at set dim).ids.items (up (tree h dim) (concept_at at dim) (part_at set dim).level) in (
      λ b. record { ancestor = λ dim lt. (meaning dim).0 (in_each-at has_ancestor h set.parts.items at.at 0 b dim lt) },
      λ v. in_each-from has_ancestor h set.parts.items at.at 0 count (IsCoordOf-length h at c) (λ dim lt. (meaning dim).1 (v.ancestor dim lt)),
    )

column-In-place : (rows : List Coord) (at : Coord) (dim n : ℕ) → n < length rows → get_or rows n at ≡ at → In (concept_at at dim) (column rows dim)
column-In-place [] at dim n h e = absurd (omega arith)
column-In-place (r ∷ rows) at dim zero h e = inl (ap (λ x. concept_at x dim) (sym e))
column-In-place (r ∷ rows) at dim (suc n) h e = inr (column-In-place rows at dim n (omega arith) e)

pub column-In : (rows : List Coord) (at : Coord) (dim : ℕ) → Contains rows at → In (concept_at at dim) (column rows dim)
column-In rows at dim k = column-In-place rows at dim k.0 k.1 k.2

-- a set covers its coordinates
pub IsSetOf-Covers : (h : List Dimension) (rows : List Coord) (set : DescSet) (at : Coord) → IsSetOf h rows set → Contains rows at → Covers h set at
IsSetOf-Covers h rows set at s k = record {
  ancestor = λ dim lt.
      let t = tree h dim in
      let p = part_at set dim in
      let deep = deepest t (leaf_level t) (column rows dim) p (s.parts dim lt) in
      let a = up t (concept_at at dim) p.level in
      let i : In a (ancestors t p.level (column rows dim)) = In-ancestors t p.level (concept_at at dim) (column rows dim) (column-In rows at dim k) in
      Contains-from_In p.ids.items a (subst (In a) (sym deep.is) i);
}

-- Sums over the dimensions.

-- a number is the sum over the dimensions before one
pub record IsSumBelow (f : ℕ → ℕ) (dim total : ℕ) : Type 0 where
  pub is : total ≡ sum (map f (range_with_len 0 dim))

pub IsSumBelow-next : (f : ℕ → ℕ) (dim total here new : ℕ) → IsSumBelow f dim total → f dim ≡ here → new ≡ total + here → IsSumBelow f (dim + 1) new
IsSumBelow-next f dim total here new s e n = record {
  is = n ∙ ap (λ x. x + here) s.is ∙ ap (λ x. sum (map f (range_with_len 0 dim)) + x) (sym e) ∙ sym (sum_by-map-range_with_len_more (λ x. x) f 0 dim dim (omega arith));
}

-- the sum over the dimensions before one is at most that over all
IsSumBelow-within : (f : ℕ → ℕ) (dim total n : ℕ) → IsSumBelow f dim total → dim ≤ n → total ≤ sum (map f (range_with_len 0 n))
IsSumBelow-within f dim total zero s le =
    let e : dim ≡ 0 = omega arith in
    let all : total ≡ sum (map f (range_with_len 0 0)) = s.is ∙ ap (λ k. sum (map f (range_with_len 0 k))) e in
    omega arith
IsSumBelow-within f dim total (suc n) s le = elim (cases_lt dim (suc n)) [
  | inl less ↦
      let before : total ≤ sum (map f (range_with_len 0 n)) = IsSumBelow-within f dim total n s (omega arith) in
      let e : n + 1 ≡ suc n = omega arith in
      let more : sum (map f (range_with_len 0 (suc n))) ≡ sum (map f (range_with_len 0 n)) + f n =
      ap (λ k. sum (map f (range_with_len 0 k))) (sym e) ∙ sum_by-map-range_with_len_more (λ x. x) f 0 n n (omega arith) in
      omega arith
  | inr past ↦
      let e : dim ≡ suc n = omega arith in
      let all : total ≡ sum (map f (range_with_len 0 (suc n))) = s.is ∙ ap (λ k. sum (map f (range_with_len 0 k))) e in
      omega arith
]

-- with one more at a dimension it is beyond what it was
pub IsSumBelow-beyond : (f : ℕ → ℕ) (dim total n : ℕ) → IsSumBelow f dim total → f dim ≡ 1 → dim < n → total < sum (map f (range_with_len 0 n))
IsSumBelow-beyond f dim total n s one lt =
    let all = IsSumBelow-within f (dim + 1) (total + 1) n (IsSumBelow-next f dim total 1 (total + 1) s one refl) (omega arith) in
    omega arith

-- what a dimension adds to the growth, from what the code reads there
pub growth_read : (h : List Dimension) (set : DescSet) (at : Coord) (dim : ℕ) (p : Part) (b covered : Bool) → p ≡ part_at set dim → b ≡ has_ancestor (tree h dim) p (concept_at at dim) → b ≡ covered → growth_at h set at dim ≡ if covered then 0 else 1
growth_read h set at dim p b covered e r c =
    ap (λ x. if x then 0 else 1) (test_read has_ancestor (tree h dim) p (part_at set dim) (concept_at at dim) (concept_at at dim) b e refl r ∙ c)
