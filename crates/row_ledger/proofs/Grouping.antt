-- Rows in another order have the same groups.
use Rattle.std.proofs.{Common.{ℕ, ◌≡◌, ◌==◌, Bool, List, [], ◌∷◌, ◌++◌, map, filter, refl, sym, ap, ◌∙◌, subst, inl, inr}, lemmas.List.map-append, lemmas.List.Elements.filter-append, lemmas.List.Sorted.{IsPermutation-cons, IsPermutation-middle, IsPermutation-refl, IsPermutation-sym, IsPermutation-trans}}
use Rattle.std.specs.Prelude.{IsPermutation}
use Rattle.describing_set.specs.{Ascending.ascending, Sorted.In}
use Rattle.describing_set.proofs.Sorted.{In-append_cases, In-append_left, In-append_right, ascending-same}
use Rattle.dim_hierarchy.specs.{Filter.matches, declared.row.Row.Row}
use Rattle.list_words.proofs.Truth.{on_bool}
use Rattle.measure_agg.specs.Aggregate.{agg}
use Rattle.measure_agg.proofs.AggLaws.{agg-IsPermutation}
use Rattle.row_ledger.specs.Groups.{Question, concept_of, groups, line, matching, under}

-- a list is the other in another order
abbrev pub IsShuffled : List Row → List Row → Type 0
IsShuffled [] ys = ys ≡ []
IsShuffled (x ∷ xs) ys = (front : List Row) × (back : List Row) × (ys ≡ front ++ x ∷ back) × IsShuffled xs (front ++ back)

pub shuffled-same : (xs : List Row) → IsShuffled xs xs
shuffled-same [] = refl
shuffled-same (x ∷ xs) = ([], xs, refl, shuffled-same xs)

pub shuffled-permutes : (xs ys : List Row) → IsShuffled xs ys → IsPermutation xs ys
shuffled-permutes [] ys s = subst (IsPermutation []) (sym s) (IsPermutation-refl [])
shuffled-permutes (x ∷ xs) ys (front, back, is, rest) =
    let later = IsPermutation-cons x xs (front ++ back) (shuffled-permutes xs (front ++ back) rest) in
    let moved = IsPermutation-sym (front ++ x ∷ back) (x ∷ (front ++ back)) (IsPermutation-middle front x back) in
    subst (IsPermutation (x ∷ xs)) (sym is) (IsPermutation-trans (x ∷ xs) (x ∷ (front ++ back)) (front ++ x ∷ back) later moved)

pub shuffled-filter : (p : Row → Bool) (xs ys : List Row) → IsShuffled xs ys → IsShuffled (filter p xs) (filter p ys)
shuffled-filter p [] ys s = ap (filter p) s
shuffled-filter p (x ∷ xs) ys (front, back, is, rest) =
    let later : IsShuffled (filter p xs) (filter p front ++ filter p back) = subst (IsShuffled (filter p xs)) (filter-append p front back) (shuffled-filter p xs (front ++ back) rest) in
    let all : filter p ys ≡ filter p front ++ filter p (x ∷ back) = ap (filter p) is ∙ filter-append p front (x ∷ back) in
    on_bool (p x)
    (λ t. let in_xs : filter p (x ∷ xs) ≡ x ∷ filter p xs = rw t refl in
    let in_ys : filter p (x ∷ back) ≡ x ∷ filter p back = rw t refl in
    subst (λ (l : List Row). IsShuffled l (filter p ys)) (sym in_xs) (filter p front, filter p back, all ∙ ap (λ (l : List Row). filter p front ++ l) in_ys, later))
    (λ t. let in_xs : filter p (x ∷ xs) ≡ filter p xs = rw t refl in
    let in_ys : filter p (x ∷ back) ≡ filter p back = rw t refl in
    subst (λ (l : List Row). IsShuffled l (filter p ys)) (sym in_xs) (subst (IsShuffled (filter p xs)) (sym (all ∙ ap (λ (l : List Row). filter p front ++ l) in_ys)) later))

module _ (q : Question) where
  abbrev ids_of : List Row → List ℕ
  ids_of rows = map (concept_of q) rows

  -- the same concepts
  shuffled-in : (xs ys : List Row) → IsShuffled xs ys → (z : ℕ) → In z (ids_of xs) → In z (ids_of ys)
  shuffled-in [] ys s z i = absurd i
  shuffled-in (x ∷ xs) ys (front, back, is, rest) z i =
      let whole : ids_of ys ≡ ids_of front ++ concept_of q x ∷ ids_of back = ap ids_of is ∙ map-append (concept_of q) front (x ∷ back) in
      subst (In z) (sym whole) (elim i [
        | inl e ↦ In-append_right z (ids_of front) (concept_of q x ∷ ids_of back) (inl e)
        | inr later ↦ elim (In-append_cases z (ids_of front) (ids_of back) (subst (In z) (map-append (concept_of q) front back) (shuffled-in xs (front ++ back) rest z later))) [
          | inl left ↦ In-append_left z (ids_of front) (concept_of q x ∷ ids_of back) left
          | inr right ↦ In-append_right z (ids_of front) (concept_of q x ∷ ids_of back) (inr right)
        ]
      ])

  shuffled-back : (xs ys : List Row) → IsShuffled xs ys → (z : ℕ) → In z (ids_of ys) → In z (ids_of xs)
  shuffled-back [] ys s z i = subst (λ (l : List Row). In z (ids_of l)) s i
  shuffled-back (x ∷ xs) ys (front, back, is, rest) z i =
      let whole : ids_of ys ≡ ids_of front ++ concept_of q x ∷ ids_of back = ap ids_of is ∙ map-append (concept_of q) front (x ∷ back) in
      let others : In z (ids_of front ++ ids_of back) → In z (ids_of xs) = λ j. shuffled-back xs (front ++ back) rest z (subst (In z) (sym (map-append (concept_of q) front back)) j) in
      elim (In-append_cases z (ids_of front) (concept_of q x ∷ ids_of back) (subst (In z) whole i)) [
        | inl left ↦ inr (others (In-append_left z (ids_of front) (ids_of back) left))
        | inr right ↦ elim right [
          | inl e ↦ inl e
          | inr later ↦ inr (others (In-append_right z (ids_of front) (ids_of back) later))
        ]
      ]

  pub groups-shuffled : (xs ys : List Row) → IsShuffled xs ys → groups q xs ≡ groups q ys
  groups-shuffled xs ys s =
      let p : Row → Bool = λ (r : Row). matches q.hierarchy q.filter r.at in
      let in_both = shuffled-filter p xs ys s in
      let same_ids : ascending (ids_of (matching q xs)) ≡ ascending (ids_of (matching q ys)) =
      ascending-same (ids_of (matching q xs)) (ids_of (matching q ys)) (shuffled-in (matching q xs) (matching q ys) in_both) (shuffled-back (matching q xs) (matching q ys) in_both) in
      let same_agg : (id : ℕ) → agg (under q id (matching q xs)) ≡ agg (under q id (matching q ys)) =
      λ id. agg-IsPermutation (under q id (matching q xs)) (under q id (matching q ys)) (shuffled-permutes (under q id (matching q xs)) (under q id (matching q ys))
      (shuffled-filter (λ (r : Row). concept_of q r == id) (matching q xs) (matching q ys) in_both)) in
      λ k. map (λ (id : ℕ). line id (same_agg id k)) (same_ids k)

  pub matching-shuffled : (xs ys : List Row) → IsShuffled xs ys → agg (matching q xs) ≡ agg (matching q ys)
  matching-shuffled xs ys s = agg-IsPermutation (matching q xs) (matching q ys) (shuffled-permutes (matching q xs) (matching q ys) (shuffled-filter (λ (r : Row). matches q.hierarchy q.filter r.at) xs ys s))
