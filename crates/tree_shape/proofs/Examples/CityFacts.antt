-- The dimension of two cities, its sets, and the good cut of 16 rows of each
use Rattle.std.proofs.{Common.{◌≡◌, ◌≢◌, ℕ, zero, suc, ◌+◌, ◌-◌, ◌<◌, ◌≤◌, inl, inr, eqb, leb, List, [], ◌∷◌, length, map, get_or, refl, sym, ap, ◌∙◌, subst, arith, lit<, lit≤}, lemmas.Bool.{cases_lt, lt-leb, le-leb, eqb-true, eqb-false, ne_eqb, leb-false, leb-true}, lemmas.List.{get_or-map, get_or-replicate, get_or_past, length-map}, lemmas.List.Elements.{All-nil, All-cons}, lemmas.List.FromFn.{length-range_with_len, get_or-range_with_len, get_or-map-range_with_len}, lemmas.List.Sorted.IsPermutation-refl}
use Rattle.std.specs.{Cmp.Lexicographic.slice_cmp, List.{AllZip, range_with_len}, Ordering.nat_cmp, Prelude.{All, None, replicate, ℤ, pos}}
use Rattle.std.specs.FinMap as fin
use Rattle.dim_hierarchy.specs.{Concept.level_of, Dimension.{Dimension, IsDimension, IsHierarchy, new_dimension, tree, with_concept}, Row.{IsCoordOf, concept_at}, Tree.{IsLeaf, climb, up, leaf_level}, declared.row.Coord.Coord, declared.row.Row.Row}
use Rattle.dim_hierarchy.proofs.{Ancestors.up-self, Growth.{IsDimension-new_dimension, IsDimension-with_concept, IsHierarchy-push}, Names.get-insert_other}
use Rattle.describing_set.specs.{Ascending.with_id, DescSet.{IsSetOf, column, part_at}, Part.{ancestors, part, part_from, part_of}, Sets.{GrowsBy, IsDescSetOf}, declared.set.DescSet.DescSet}
use Rattle.describing_set.proofs.{Parts.{deepest, part_from-few}, Sets.{IsDescSetOf-empty, IsDescSetOf-grown, IsSetOf-empty}}
use Rattle.hierarchy_split.specs.{Cut.{IsCutLevel, IsDimCut, IsGoodCut, leasts, lifted, overlap}, Order.{AreEqual, ComesBefore, IsBetween, IsOrder, IsPlace, distance, least}, declared.cut.Cut.Cut}
use Rattle.hierarchy_split.proofs.{Cuts.{IsCutLevel-unique, IsDimCut-unique}, Lifts.leasts_at_top, Orders.IsOrder-unique}
use Rattle.dc_node.specs.Summary.{coords}
use Rattle.list_words.specs.Counts.{Each}
use Rattle.list_words.proofs.{Each.all-each, Truth.on_bool}
use Rattle.tree_shape.specs.{Cities.{berlin, cities, cities_of, city, coord_of, munich, sample, set_of, table_with}, Example.{IsSample, IsUncut}}

at-range : (i : ℕ) → i < 32 → get_or (range_with_len 0 32) i 0 ≡ i
at-range i lt = let z : 0 + i ≡ i = omega arith in get_or-range_with_len 0 32 i 0 lt ∙ z

pub one-dim : (dim : ℕ) → dim < 1 → dim ≡ 0
one-dim dim lt = omega arith

-- The hierarchy.

abbrev none_named : Dimension
none_named = new_dimension (99 ∷ []) 1

abbrev one_named : Dimension
one_named = with_concept (new_dimension (99 ∷ []) 1) (98 ∷ []) 0

no-names : (name : List ℕ) → fin.get none_named.names name ≡ None
no-names name = fin.get-empty {X = ℕ} (slice_cmp nat_cmp) name

second-new : fin.get one_named.names (109 ∷ []) ≡ None
second-new = get-insert_other none_named.names (98 ∷ []) berlin (109 ∷ []) (λ e. eqb-false 109 98 refl (ap (λ (xs : List ℕ). get_or xs 0 0) e)) ∙ no-names (109 ∷ [])

dimension-valid : IsDimension (with_concept one_named (109 ∷ []) 0)
dimension-valid =
    let w = IsDimension-new_dimension (99 ∷ []) 1 (omega arith) (omega arith) in
    let w1 = IsDimension-with_concept none_named w (98 ∷ []) 0 (record {
      concept = record { level = lit< tt; number = lit< tt };
      level = lit< tt;
      room = lit< tt;
      new = no-names (98 ∷ []);
    }) in
    IsDimension-with_concept one_named w1 (109 ∷ []) 0 (record {
      concept = record { level = lit< tt; number = lit< tt };
      level = lit< tt;
      room = lit< tt;
      new = second-new;
    })

pub hierarchy-valid : IsHierarchy cities
hierarchy-valid = IsHierarchy-push [] (record { few = omega arith; each = λ dim lt. absurd (omega arith); apart = λ i j li lj e. absurd (omega arith) })
    (with_concept one_named (109 ∷ []) 0) (omega arith) dimension-valid refl

-- Coordinates.

abbrev no_more : List ℕ
no_more = replicate 7 0

zeros : (k : ℕ) → get_or no_more k 0 ≡ 0
zeros k = elim (cases_lt k 7) [
  | inl h ↦ get_or-replicate 7 k 0 0 h
  | inr h ↦ get_or_past no_more k 0 (let e : length no_more ≡ 7 = refl in omega (arith, e, h))
]

past : (id dim : ℕ) → 1 ≤ dim → get_or (id ∷ no_more) dim 0 ≡ 0
past id zero h = absurd (omega arith)
past id (suc k) h = zeros k

coord-valid : (id : ℕ) → IsLeaf (tree cities 0) id → IsCoordOf cities (coord_of id)
coord-valid id leaf = record {
  hierarchy = hierarchy-valid;
  leaf = λ dim lt. (let z : dim ≡ 0 = omega arith in subst (λ d. IsLeaf (tree cities d) (concept_at (coord_of id) d)) (sym z) leaf);
  rest = λ dim le. past id dim le;
}

pub berlin-valid : IsCoordOf cities (coord_of berlin)
berlin-valid = coord-valid berlin (record { concept = record { level = lit< tt; number = lit< tt }; last = refl })

pub munich-valid : IsCoordOf cities (coord_of munich)
munich-valid = coord-valid munich (record { concept = record { level = lit< tt; number = lit< tt }; last = refl })

-- Sets.

pub empty-set : IsSetOf cities [] (set_of [])
empty-set = IsSetOf-empty cities (set_of []) refl (λ dim lt. (let z : dim ≡ 0 = omega arith in subst (λ d. part_at (set_of []) d ≡ part (leaf_level (tree cities d)) []) (sym z) refl))

pub grow-set : (id : ℕ) (xs ys : List ℕ) → level_of id ≡ 1 → with_id id xs ≡ ys → length ys ≤ 6 → GrowsBy cities (coord_of id) (set_of xs) (set_of ys)
grow-set id xs ys lv is few = record {
  grown = λ rows all s. record {
    count = refl;
    parts = λ dim lt. (let z : dim ≡ 0 = omega arith in subst (λ d. part_at (set_of ys) d ≡ part_of (tree cities d) (column (coord_of id ∷ rows) d)) (sym z) (at-zero rows (s.parts 0 (lit< tt))));
  };
}
  where
    at-zero : (rows : List Coord) → part 1 xs ≡ part_from (tree cities 0) 1 (column rows 0) → part 1 ys ≡ part_from (tree cities 0) 1 (id ∷ column rows 0)
    at-zero rows old =
        let deep = deepest (tree cities 0) 1 (column rows 0) (part 1 xs) old in
        let anc : ancestors (tree cities 0) 1 (id ∷ column rows 0) ≡ ys = ap (λ u. with_id u (ancestors (tree cities 0) 1 (column rows 0))) (up-self (tree cities 0) id 1 (sym lv)) ∙ ap (with_id id) (sym deep.is) ∙ is in
        let len = ap length anc in
        sym (part_from-few (tree cities 0) 1 (id ∷ column rows 0) (omega arith) ∙ ap (part 1) anc)

-- The sets of rows one by one, and what a cut of them goes by.

abbrev pub row_sets : ℕ → List ℕ → List DescSet
row_sets turn ns = map (λ r. set_of (city turn r ∷ [])) ns

abbrev pub cut_sets : ℕ → List DescSet
cut_sets turn = row_sets turn (range_with_len 0 32)

abbrev pub numbers_of : ℕ → List ℕ
numbers_of turn = leasts cities (cut_sets turn) 0 1

-- Rows of Berlin below one number, and of Munich from it on and below 32.
module _ (turn : ℕ) (some : 1 ≤ turn) (few : turn < 32) where
  pub first-city : (r : ℕ) → r < turn → city turn r ≡ berlin
  first-city r lt = rw (lt-leb turn r lt) refl

  pub second-city : (r : ℕ) → turn ≤ r → r < 32 → city turn r ≡ munich
  second-city r le lt = rw (le-leb turn r le, lt-leb 32 r lt) refl

  by-city : (P : ℕ → Type 0) → P berlin → P munich → (r : ℕ) → P (city turn r)
  by-city P b m r = on_bool (leb turn r)
      (λ q. on_bool (leb 32 r)
      (λ q2. rw (q, q2) b)
      (λ q2. rw (q, q2) m))
      (λ q. rw q b)

  pub place-valid : (r : ℕ) → IsCoordOf cities (coord_of (city turn r))
  place-valid r = by-city (λ id. IsCoordOf cities (coord_of id)) berlin-valid munich-valid r

  city-level : (r : ℕ) → level_of (city turn r) ≡ 1
  city-level r = by-city (λ id. level_of id ≡ 1) refl refl r

  pub one-set : (r : ℕ) → IsSetOf cities (coord_of (city turn r) ∷ []) (set_of (city turn r ∷ []))
  one-set r = (grow-set (city turn r) [] (city turn r ∷ []) (city-level r) refl (omega arith)).grown [] (All-nil (IsCoordOf cities)) empty-set

  pub one-valid : (r : ℕ) → IsDescSetOf cities (set_of (city turn r ∷ []))
  one-valid r = record {
    hierarchy = hierarchy-valid;
    rows = coord_of (city turn r) ∷ [];
    valid = All-cons (IsCoordOf cities) (coord_of (city turn r)) [] (place-valid r) (All-nil (IsCoordOf cities));
    set_of = one-set r;
  }

  -- the sets of the first rows
  pub grown-set : (n : ℕ) → GrowsBy cities (coord_of (city turn n)) (set_of (cities_of turn n)) (set_of (cities_of turn (n + 1)))
  grown-set n = on_bool (leb turn n)
      (λ q. let le = leb-true _ _ q in
      rw (ne_eqb n 0 (omega arith), ne_eqb (n + 1) 0 (omega arith), lt-leb (n + 1) turn (omega arith)) (on_bool (leb n turn)
      (λ q2. let e : city turn n ≡ munich = second-city n le (let z = leb-true _ _ q2 in omega arith) in rw (q2, e) (grow-set munich (berlin ∷ []) (berlin ∷ munich ∷ []) refl refl (omega arith)))
      (λ q2. rw q2 (by-city (λ id. GrowsBy cities (coord_of id) (set_of (berlin ∷ munich ∷ [])) (set_of (berlin ∷ munich ∷ [])))
      (grow-set berlin (berlin ∷ munich ∷ []) (berlin ∷ munich ∷ []) refl refl (omega arith))
      (grow-set munich (berlin ∷ munich ∷ []) (berlin ∷ munich ∷ []) refl refl (omega arith)) n))))
      (λ q. let lt = leb-false _ _ q in
      let e = first-city n lt in
      rw (e, ne_eqb (n + 1) 0 (omega arith), le-leb (n + 1) turn (omega arith)) (on_bool (eqb n 0)
      (λ q2. rw q2 (grow-set berlin [] (berlin ∷ []) refl refl (omega arith)))
      (λ q2. rw (q2, le-leb n turn (omega arith)) (grow-set berlin (berlin ∷ []) (berlin ∷ []) refl refl (omega arith)))))

  pub valid-set : (n : ℕ) → IsDescSetOf cities (set_of (cities_of turn n))
  valid-set zero = IsDescSetOf-empty cities (set_of []) hierarchy-valid empty-set
  valid-set (suc n) = subst (λ (m : ℕ). IsDescSetOf cities (set_of (cities_of turn m))) (let e : n + 1 ≡ suc n = omega arith in e)
      (IsDescSetOf-grown cities (coord_of (city turn n)) (set_of (cities_of turn n)) (set_of (cities_of turn (n + 1))) (valid-set n) (place-valid n) (grown-set n))

  pub is-sample : (measures : ℤ) → IsSample (table_with turn measures) (sample turn)
  is-sample measures = record {
    numbered = λ r. (refl, refl, place-valid r);
    empty = empty-set;
    grown = grown-set;
    valid = valid-set;
    root = eqb-false 1 0 refl;
    spare_gate = eqb-false 2 0 refl;
    spare_root = eqb-false 2 1 refl;
    spare_stamp = eqb-false 0 1 refl;
  }

  pub are-row_sets : (measures : ℤ) (ns : List ℕ) → AllZip (λ r s. IsSetOf cities (r.at ∷ []) s) (map (table_with turn measures).row ns) (row_sets turn ns)
  are-row_sets measures [] = tt
  are-row_sets measures (n ∷ ns) = (one-set n, are-row_sets measures ns)

  pub least-at : (i : ℕ) → i < 32 → (d : ℕ) → get_or (numbers_of turn) i d ≡ city turn i
  least-at i lt d =
      let len = length-map (range_with_len 0 32) (λ r. set_of (city turn r ∷ [])) in
      let len2 = length-range_with_len 0 32 in
      get_or-map (λ set. least (lifted cities 0 1 set)) (cut_sets turn) i (set_of []) d (omega (arith, lt, len, len2))
      ∙ ap (λ set. least (lifted cities 0 1 set)) (get_or-map-range_with_len (λ r. set_of (city turn r ∷ [])) 0 32 i i (set_of []) lt (omega arith))
      ∙ up-self (tree cities 0) (city turn i) 1 (sym (city-level i))

  each-set : (P : DescSet → Type 0) → ((r : ℕ) → P (set_of (city turn r ∷ []))) → (ns : List ℕ) → Each P (row_sets turn ns)
  each-set P h [] = tt
  each-set P h (n ∷ ns) = (h n, each-set P h ns)

  all-set : (P : DescSet → Type 0) → ((r : ℕ) → P (set_of (city turn r ∷ []))) → All P (cut_sets turn)
  all-set P h = all-each P (cut_sets turn) (each-set P h (range_with_len 0 32))

  length-numbers : length (numbers_of turn) ≡ 32
  length-numbers = length-map (cut_sets turn) (λ set. least (lifted cities 0 1 set)) ∙ length-map (range_with_len 0 32) (λ r. set_of (city turn r ∷ [])) ∙ length-range_with_len 0 32

  pub cut-level : IsCutLevel cities (cut_sets turn) 0 1
  cut-level = record {
    above = all-set (λ set. 1 ≤ (part_at set 0).level) (λ r. omega arith);
    differ = λ eq.
        let a : get_or (numbers_of turn) turn 0 ≡ get_or (numbers_of turn) 0 0 = eq turn 0 (let l = length-numbers in omega arith) in
        let z : munich ≡ berlin = sym (least-at turn few 0 ∙ second-city turn (omega arith) few) ∙ a ∙ least-at 0 (omega arith) 0 ∙ first-city 0 some in
        eqb-false munich berlin refl z;
    first = λ lower lt. (let z : lower ≡ 0 = omega arith in subst (λ l. AreEqual (leasts cities (cut_sets turn) 0 l)) (sym z) (leasts_at_top cities (cut_sets turn) 0 (lit< tt) (all-set (IsDescSetOf cities) one-valid)));
  }

  in-order : (i j : ℕ) → i < j → j < 32 → ComesBefore (numbers_of turn) i j
  in-order i j lt top =
      let a = least-at i (omega arith) 0 in
      let b = least-at j top 0 in
      on_bool (leb turn i)
      (λ q. let e = second-city i (leb-true _ _ q) (omega arith) in
      let f = second-city j (let z = leb-true _ _ q in omega arith) top in
      inr (a ∙ e ∙ sym (b ∙ f), lt))
      (λ q. let e = first-city i (leb-false _ _ q) in on_bool (leb turn j)
      (λ q2. let f = second-city j (leb-true _ _ q2) top in inl (omega (arith, a, b, e, f)))
      (λ q2. let f = first-city j (leb-false _ _ q2) in inr (a ∙ e ∙ sym (b ∙ f), lt)))

  pub cut-order : IsOrder (numbers_of turn) (range_with_len 0 32)
  cut-order = record {
    places = IsPermutation-refl (range_with_len 0 32);
    ascends = λ i j lt top.
        let top2 : j < 32 = (let l = length-range_with_len 0 32 in omega arith) in
        rw (at-range i (omega arith), at-range j top2) (in-order i j lt top2);
  }

-- Rows 0 to 15 have the set of Berlin, and rows 16 to 31 that of Munich.

pub some16 : 1 ≤ 16
some16 = omega arith

pub few16 : 16 < 32
few16 = omega arith

-- some rows of one city have its set
module _ (id : ℕ) (lv : level_of id ≡ 1) (ok : IsCoordOf cities (coord_of id)) (first : with_id id [] ≡ id ∷ []) (again : with_id id (id ∷ []) ≡ id ∷ []) where
  rows-valid : (rows : List Row) → Each (λ r. r.at ≡ coord_of id) rows → All (IsCoordOf cities) (coords rows)
  rows-valid [] h = All-nil (IsCoordOf cities)
  rows-valid (r ∷ rows) h = All-cons (IsCoordOf cities) r.at (coords rows) (subst (IsCoordOf cities) (sym h.0) ok) (rows-valid rows h.1)

  pub rows-set : (r : Row) (rows : List Row) → Each (λ r. r.at ≡ coord_of id) (r ∷ rows) → IsSetOf cities (coords (r ∷ rows)) (set_of (id ∷ []))
  rows-set r [] h = subst (λ at. IsSetOf cities (at ∷ []) (set_of (id ∷ []))) (sym h.0) ((grow-set id [] (id ∷ []) lv first (omega arith)).grown [] (All-nil (IsCoordOf cities)) empty-set)
  rows-set r (q ∷ rows) h =
      subst (λ at. IsSetOf cities (at ∷ coords (q ∷ rows)) (set_of (id ∷ []))) (sym h.0)
      ((grow-set id (id ∷ []) (id ∷ []) lv again (omega arith)).grown (coords (q ∷ rows)) (rows-valid (q ∷ rows) h.1) (rows-set q rows h.1))

-- rows of a table with numbers side by side
pub each-numbered : (P : Row → Type 0) (row : ℕ → Row) (first n : ℕ) → ((r : ℕ) → first ≤ r → r < first + n → P (row r)) → Each P (map row (range_with_len first n))
each-numbered P row first zero h = tt
each-numbered P row first (suc n) h = (h first (omega arith) (omega arith), each-numbered P row (first + 1) n (λ r le lt. h r (omega arith) (omega arith)))

-- 16 rows of each city have a good cut in the middle.

abbrev pub good_cut : Cut
good_cut = record { dim = 0; level = 1; order = record { items = range_with_len 0 32 }; left = 16 }

cut-place : IsPlace (numbers_of 16) (range_with_len 0 32) 16
cut-place = record {
  between = record {
    above = omega arith;
    below = lit< tt;
    differ = λ e.
        let z : munich ≡ berlin = sym (least-at 16 some16 few16 16 few16 0) ∙ sym e ∙ least-at 16 some16 few16 15 (omega arith) 0 in
        eqb-false munich berlin refl z;
  };
  nearest = λ other b. on_bool (eqb other 16)
      (λ q. let e = eqb-true _ _ q in inr (ap (distance 32) (sym e), omega arith))
      (λ q. inl (nearer other (eqb-false _ _ q)));
}
  where
    nearer : (other : ℕ) → other ≢ 16 → distance 32 16 < distance 32 other
    nearer other ne = omega arith

no-overlap : overlap cities (cut_sets 16) good_cut ≡ 0
unfolding up climb
no-overlap = refl

dim-cut : IsDimCut cities (cut_sets 16) good_cut
dim-cut = record { dim = lit< tt; level = cut-level 16 some16 few16; order = cut-order 16 some16 few16; place = cut-place }

pub is-good : IsGoodCut cities (cut_sets 16) good_cut
is-good = record {
  dim_cut = dim-cut;
  good = record { left = lit≤ tt; right = lit≤ tt; overlap = (let z = no-overlap in omega arith) };
  first = λ other c g.
      let z = one-dim other.dim c.dim in
      let s = IsDimCut-unique cities (cut_sets 16) good_cut other dim-cut c (sym z) in
      let o = no-overlap in
      on_bool (leb 1 (overlap cities (cut_sets 16) other))
      (λ q. let k = leb-true _ _ q in inl (omega arith))
      (λ q. let k = leb-false _ _ q in inr (omega arith, inr (s.level, omega arith)));
}

-- One row of Munich behind 31 of Berlin: the one cut that there is isn't good.

pub some31 : 1 ≤ 31
some31 = omega arith

pub few31 : 31 < 32
few31 = omega arith

last-alone : (k : ℕ) → IsBetween (numbers_of 31) (range_with_len 0 32) k → k ≡ 31
last-alone k b =
    let up = b.above in
    let len = length-range_with_len 0 32 in
    let down : k < 32 = (let d = b.below in omega arith) in
    on_bool (leb 31 k)
    (λ q. let le = leb-true _ _ q in omega arith)
    (λ q. let lt = leb-false _ _ q in
    let x : get_or (numbers_of 31) (get_or (range_with_len 0 32) (k - 1) 0) 0 ≡ berlin = ap (λ i. get_or (numbers_of 31) i 0) (at-range (k - 1) (omega arith)) ∙ least-at 31 some31 few31 (k - 1) (omega arith) 0 ∙ first-city 31 some31 few31 (k - 1) (omega arith) in
    let y : get_or (numbers_of 31) (get_or (range_with_len 0 32) k 0) 0 ≡ berlin = ap (λ i. get_or (numbers_of 31) i 0) (at-range k down) ∙ least-at 31 some31 few31 k down 0 ∙ first-city 31 some31 few31 k lt in
    absurd (b.differ (x ∙ sym y)))

pub uncut : IsUncut (table_with 31 (pos 0)) 32
uncut = record {
  sets = cut_sets 31;
  are_sets = are-row_sets 31 some31 few31 (pos 0) (range_with_len 0 32);
  none = λ cut c good.
      let z = one-dim cut.dim c.dim in
      let lv = IsCutLevel-unique cities (cut_sets 31) 0 cut.level 1 (subst (λ d. IsCutLevel cities (cut_sets 31) d cut.level) z c.level) (cut-level 31 some31 few31) in
      let read : leasts cities (cut_sets 31) cut.dim cut.level ≡ numbers_of 31 = ap (λ d. leasts cities (cut_sets 31) d cut.level) z ∙ ap (leasts cities (cut_sets 31) 0) lv in
      let order = IsOrder-unique (numbers_of 31) cut.order.items (range_with_len 0 32) (subst (λ xs. IsOrder xs cut.order.items) read c.order) (cut-order 31 some31 few31) in
      let left = last-alone cut.left (subst (λ xs. IsBetween (numbers_of 31) xs cut.left) order (subst (λ xs. IsBetween xs cut.order.items cut.left) read c.place.between)) in
      let len : length (cut_sets 31) ≡ 32 = refl in
      let r = good.right in
      absurd (omega arith);
}
