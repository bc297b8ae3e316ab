-- The places of a coordinate, as leaf concepts one dimension after the other and ALL behind them.
use Rattle.std.proofs.{Common.{ℕ, zero, suc, ◌≡◌, ◌+◌, ◌-◌, ◌^◌, ◌<◌, ◌≤◌, true, ltb, eqb, List, [], ◌∷◌, ◌++◌, length, get_or, take, drop, replicate, sym, ap, subst, ◌∙◌, arith, inl, inr}, lemmas.Bool.{and_parts, and_from, cases_lt, eqb-true, eq-eqb, ltb-true, lt-ltb}, lemmas.List.{ext_get_or, get_or-append_right, get_or-drop, get_or-replicate, get_or-take, get_or_past, length-drop, length-replicate, length-take, take-append-drop}}
use Rattle.std.specs.Prelude.{⊤}
use Rattle.dim_hierarchy.specs.{Concept.{level_of, number_of}, Dimension.{Dimension, IsHierarchy, tree}, Row.IsCoordOf, Tree.{IsLeaf, IsTree, Tree, is_concept, leaf_level, parents_at}, declared.row.Coord.Coord}
use Rattle.shard_codec.specs.Reading.{is_leaf_concept}

-- The test and the fact.

is_leaf_concept-found : (h : List Dimension) (dim id : ℕ) → is_leaf_concept h dim id ≡ true → IsLeaf (tree h dim) id
is_leaf_concept-found h dim id test =
    let t = tree h dim in
    let parts = and_parts (eqb (level_of id) (leaf_level t)) (is_concept t id) test in
    let concept = and_parts (ltb (level_of id) (length t)) (ltb (number_of id) (length (parents_at t (level_of id)))) parts.1 in
    record {
      concept = record { level = ltb-true _ _ concept.0; number = ltb-true _ _ concept.1 };
      last = eqb-true _ _ parts.0;
    }

is_leaf_concept-again : (h : List Dimension) (dim id : ℕ) → IsLeaf (tree h dim) id → is_leaf_concept h dim id ≡ true
is_leaf_concept-again h dim id leaf =
    and_from _ _ (eq-eqb _ _ leaf.last) (and_from _ _ (lt-ltb _ _ leaf.concept.level) (lt-ltb _ _ leaf.concept.number))

leaf_fits : (t : Tree) (id : ℕ) → IsTree t → IsLeaf t id → id < 2 ^ 32
leaf_fits t id w leaf =
    let few = w.few in
    let level = leaf.concept.level in
    omega arith

-- leaf concepts of the dimensions from this one on
abbrev pub AreLeaves : List Dimension → ℕ → List ℕ → Type 0
AreLeaves h dim [] = ⊤
AreLeaves h dim (id ∷ ids) = (id < 2 ^ 32) × (is_leaf_concept h dim id ≡ true) × AreLeaves h (dim + 1) ids

AreLeaves-at : (h : List Dimension) (dim : ℕ) (ids : List ℕ) (k at : ℕ) → AreLeaves h dim ids → k < length ids → at ≡ dim + k → IsLeaf (tree h at) (get_or ids k 0)
AreLeaves-at h dim [] k at leaves lt is = absurd (omega arith)
AreLeaves-at h dim (id ∷ ids) zero at leaves lt is =
    let here : dim ≡ at = omega arith in
    subst (λ d. IsLeaf (tree h d) id) here (is_leaf_concept-found h dim id leaves.1)
AreLeaves-at h dim (id ∷ ids) (suc k) at leaves lt is = AreLeaves-at h (dim + 1) ids k at leaves.2 (omega arith) (omega arith)

AreLeaves-from : (h : List Dimension) (dim : ℕ) (ids : List ℕ) → IsHierarchy h → dim + length ids ≤ length h → ((k at : ℕ) → k < length ids → at ≡ dim + k → IsLeaf (tree h at) (get_or ids k 0)) → AreLeaves h dim ids
AreLeaves-from h dim [] w within leaf = tt
AreLeaves-from h dim (id ∷ ids) w within leaf =
    let here : IsLeaf (tree h dim) id = leaf 0 dim (omega arith) (omega arith) in (
      leaf_fits (tree h dim) id (w.each dim (omega arith)).tree here,
      is_leaf_concept-again h dim id here,
      AreLeaves-from h (dim + 1) ids w (omega arith) (λ k at lt is. leaf (suc k) at (omega arith) (omega arith)),
    )

-- places with a leaf concept in each dimension and ALL past the last
pub record ArePlaces (h : List Dimension) (at : List ℕ) : Type 0 where
  pub count : length (take (length h) at) ≡ length h
  pub leaves : AreLeaves h 0 (take (length h) at)
  pub rest : at ≡ take (length h) at ++ replicate (8 - length h) 0

pub ArePlaces-of : (h : List Dimension) (at : Coord) → IsCoordOf h at → length at.at ≡ 8 → ArePlaces h at.at
ArePlaces-of h at valid eight =
    let n = length h in
    let few = valid.hierarchy.few in
    let count : length (take n at.at) ≡ n = omega (arith, length-take n at.at) in
    let top : drop n at.at ≡ replicate (8 - n) 0 =
    ext_get_or 0 _ _ (omega (arith, length-drop n at.at, length-replicate {A = ℕ} (8 - n) 0)) (λ i lt.
    get_or-drop n at.at i 0
    ∙ valid.rest (n + i) (omega arith)
    ∙ sym (get_or-replicate (8 - n) i 0 0 (omega (arith, lt, length-drop n at.at)))) in
    record {
      count = count;
      leaves = AreLeaves-from h 0 (take n at.at) valid.hierarchy (omega arith) (λ k dim lt is.
          let same : k ≡ dim = omega arith in
          let within : dim < n = omega (arith, lt, count) in
          subst (λ id. IsLeaf (tree h dim) id) (sym (ap (λ i. get_or (take n at.at) i 0) same ∙ get_or-take n at.at dim 0 within)) (valid.leaf dim within));
      rest = sym (ap (λ rest. take n at.at ++ rest) (sym top) ∙ take-append-drop n at.at);
    }

zeros : (n i : ℕ) → get_or {A = ℕ} (replicate n 0) i 0 ≡ 0
zeros n i = elim (cases_lt i n) [
  | inl lt ↦ get_or-replicate n i 0 0 lt
  | inr past ↦ get_or_past (replicate n 0) i 0 (omega (arith, length-replicate {A = ℕ} n 0))
]

pub ArePlaces-found : (h : List Dimension) (at : Coord) → IsHierarchy h → ArePlaces h at.at → IsCoordOf h at
ArePlaces-found h at w places =
    let n = length h in
    let count = places.count in
    record {
      hierarchy = w;
      leaf = λ dim lt. subst (λ id. IsLeaf (tree h dim) id) (get_or-take n at.at dim 0 lt)
          (AreLeaves-at h 0 (take n at.at) dim dim places.leaves (omega (arith, lt, count)) (omega arith));
      rest = λ dim le.
          ap (λ all. get_or all dim 0) places.rest
          ∙ get_or-append_right (take n at.at) (replicate (8 - n) 0) n dim 0 count le
          ∙ zeros (8 - n) (dim - n);
    }
