-- The places of the rows that a filter matches, found dimension by dimension.
use Rattle.std.proofs.{Common.{ℕ, zero, suc, ◌≡◌, ◌+◌, ◌<◌, ◌≤◌, Bool, true, false, cond, List, [], ◌∷◌, ◌++◌, map, length, get_or, take, drop, refl, sym, ap, subst, ◌∙◌, arith}, lemmas.List.{take_more, map_push}, lemmas.List.Elements.{filter_agree, All-filter}, lemmas.List.FromFn.{length-range_with_len, get_or-range_with_len}}
use Rattle.std.specs.{List.range_with_len, Prelude.{All, filter, ◌&&◌}}
use Rattle.dim_hierarchy.specs.{Dimension.{Dimension, tree}, Filter.{in_each, is_picked, matches, pick_at}, Row.concept_at, Rows.IsRowOf, Tree.IsLeaf, declared.filter.Pick.Pick, declared.row.Row.Row}
use Rattle.dim_hierarchy.proofs.Matching.{picked-step, picked-end}
use Rattle.measure_agg.specs.{Aggregate.{Aggregate, agg}, Joining.join}
use Rattle.dc_node.specs.{Columns.{id_at, coord_at, row_at, rows_in_columns}, declared.columns.Columns.Columns}
use Rattle.dc_node.proofs.Rows.{row_fact}

-- Filters of lists.

filter-map : (test : Row → Bool) (f : ℕ → Row) (xs : List ℕ) → filter test (map f xs) ≡ map f (filter (λ x. test (f x)) xs)
filter-map test f [] = refl
filter-map test f (x ∷ xs) = go (test (f x)) (filter-map test f xs)
  where
    go : (b : Bool) → filter test (map f xs) ≡ map f (filter (λ y. test (f y)) xs)
        → cond b (f x ∷ filter test (map f xs)) (filter test (map f xs)) ≡ map f (cond b (x ∷ filter (λ y. test (f y)) xs) (filter (λ y. test (f y)) xs))
    go true e = ap (λ l. f x ∷ l) e
    go false e = e

filter-both : (p q : ℕ → Bool) (xs : List ℕ) → filter (λ x. p x && q x) xs ≡ filter q (filter p xs)
filter-both p q [] = refl
filter-both p q (x ∷ xs) = go (p x) (filter-both p q xs)
  where
    go : (b : Bool) → filter (λ y. p y && q y) xs ≡ filter q (filter p xs)
        → cond (b && q x) (x ∷ filter (λ y. p y && q y) xs) (filter (λ y. p y && q y) xs) ≡ filter q (cond b (x ∷ filter p xs) (filter p xs))
    go true e = ap (λ l. cond (q x) (x ∷ l) l) e
    go false e = e

filter-whole : (xs : List ℕ) → filter (λ x. true) xs ≡ xs
filter-whole [] = refl
filter-whole (x ∷ xs) = ap (λ l. x ∷ l) (filter-whole xs)

-- the concept of a coordinate is that of its column
concept-column : (cs : List (List ℕ)) (place dim : ℕ) → dim < 8 → concept_at (coord_at cs place) dim ≡ id_at cs dim place
concept-column cs place zero lt = refl
concept-column cs place (suc zero) lt = refl
concept-column cs place (suc (suc zero)) lt = refl
concept-column cs place (suc (suc (suc zero))) lt = refl
concept-column cs place (suc (suc (suc (suc zero)))) lt = refl
concept-column cs place (suc (suc (suc (suc (suc zero))))) lt = refl
concept-column cs place (suc (suc (suc (suc (suc (suc zero)))))) lt = refl
concept-column cs place (suc (suc (suc (suc (suc (suc (suc zero))))))) lt = refl
concept-column cs place (suc (suc (suc (suc (suc (suc (suc (suc dim)))))))) lt = absurd (omega arith)

-- what is left of the test from a dimension on, at a place
abbrev pub rest : List Dimension → List Pick → List (List ℕ) → ℕ → ℕ → Bool
rest h f cs dim place = in_each is_picked (drop dim h) (drop dim f) (drop dim (coord_at cs place).at)

-- these places are left after so many dimensions
pub record Keeping (h : List Dimension) (f : List Pick) (c : Columns) (count dim : ℕ) (places : List ℕ) : Type 0 where
  pub same : filter (λ place. matches h f (row_at c place).at) (range_with_len 0 count) ≡ filter (rest h f c.concepts dim) places
  pub within : All (λ place. place < count) places

pub Keeping-first : (h : List Dimension) (f : List Pick) (c : Columns) (count : ℕ) (places : List ℕ) → places ≡ range_with_len 0 count → Keeping h f c count 0 places
Keeping-first h f c count places e = record {
  same = ap (filter (λ place. matches h f (row_at c place).at)) (sym e);
  within = subst (All (λ place. place < count)) (sym e) (λ k d lt.
      let n = length-range_with_len 0 count in
      let at = get_or-range_with_len 0 count k d (omega (arith, n, lt)) in
      omega (arith, n, lt, at));
}

pub Keeping-more : (h : List Dimension) (f : List Pick) (c : Columns) (count dim : ℕ) (column places new : List ℕ) → length h ≤ 8 → length f ≡ length h → dim < length h
    → column ≡ get_or c.concepts dim [] → new ≡ filter (λ place. is_picked (tree h dim) (pick_at f dim) (get_or column place 0)) places
    → Keeping h f c count dim places → Keeping h f c count (dim + 1) new
Keeping-more h f c count dim column places new few long lt read e k = record {
  same = k.same ∙ filter_agree (rest h f c.concepts dim) (λ place. picked place && rest h f c.concepts (dim + 1) place) step places
      ∙ filter-both picked (rest h f c.concepts (dim + 1)) places ∙ ap (filter (rest h f c.concepts (dim + 1))) (sym e);
  within = subst (All (λ place. place < count)) (sym e) (All-filter picked (λ place. place < count) places k.within);
}
  where
    picked : ℕ → Bool
    picked place = is_picked (tree h dim) (pick_at f dim) (get_or column place 0)

    step : (place : ℕ) → rest h f c.concepts dim place ≡ (picked place && rest h f c.concepts (dim + 1) place)
    step place =
        picked-step h f (coord_at c.concepts place).at dim (picked place) lt long few
        (ap (is_picked (tree h dim) (pick_at f dim)) (ap (λ l. get_or l place 0) read ∙ sym (concept-column c.concepts place dim (omega (arith, lt, few)))))

-- the column has leaf concepts at these places
pub leaves : (h : List Dimension) (c : Columns) (count dim : ℕ) (column places : List ℕ) → All (IsRowOf h) (rows_in_columns c count) → length h ≤ 8 → dim < length h
    → column ≡ get_or c.concepts dim [] → All (λ place. place < count) places → All (λ place. IsLeaf (tree h dim) (get_or column place 0)) places
leaves h c count dim column places valid few lt read within = λ k d less.
    let place = get_or places k d in
    let low : place < count = within k d less in
    let row : IsRowOf h (row_at c place) = row_fact (IsRowOf h) c count place valid low in
    subst (IsLeaf (tree h dim)) (concept-column c.concepts place dim (omega (arith, lt, few)) ∙ ap (λ l. get_or l place 0) (sym read)) (row.leaf dim lt)

-- after all dimensions
pub Keeping-all : (h : List Dimension) (f : List Pick) (c : Columns) (count dim : ℕ) (places : List ℕ) → length f ≡ length h → length h ≤ dim → Keeping h f c count dim places
    → agg (filter (λ r. matches h f r.at) (rows_in_columns c count)) ≡ agg (map (row_at c) places)
Keeping-all h f c count dim places long le k =
    ap agg (filter-map (λ r. matches h f r.at) (row_at c) (range_with_len 0 count)
    ∙ ap (map (row_at c)) (k.same ∙ filter_agree (rest h f c.concepts dim) (λ _. true) (λ place. picked-end h f (coord_at c.concepts place).at dim le long) places ∙ filter-whole places))

-- The aggregate of the rows at places.

pub total-more : ((xs ys : List Row) → agg (xs ++ ys) ≡ join (agg xs) (agg ys)) → (c : Columns) (places : List ℕ) (i place : ℕ) (total new : Aggregate)
    → i < length places → place ≡ get_or places i 0 → total ≡ agg (map (row_at c) (take i places)) → new ≡ join total (agg (row_at c place ∷ []))
    → new ≡ agg (map (row_at c) (take (i + 1) places))
total-more append c places i place total new lt read e step =
    step ∙ ap (λ a. join a (agg (row_at c place ∷ []))) e ∙ sym (append (map (row_at c) (take i places)) (row_at c place ∷ []))
    ∙ ap agg (sym (ap (map (row_at c)) (take_more places i 0 lt ∙ ap (λ x. take i places ++ x ∷ []) (sym read)) ∙ map_push (row_at c) (take i places) place))
