-- The rows of the worked example of a head cut, their sets, and the good head cut of them
use Rattle.std.proofs.{Common.{◌≡◌, ◌≢◌, ℕ, zero, suc, ◌+◌, ◌*◌, ◌<◌, ◌≤◌, inr, false, eqb, leb, List, [], ◌∷◌, length, map, refl, sym, ap, ◌∙◌, subst, arith, lit<, lit≤}, lemmas.Bool.{lt-leb, le-leb, eqb-true, eqb-false, ne_eqb, leb-false, leb-true}, lemmas.List.Elements.{All-nil, All-cons, All-replicate}}
use Rattle.std.specs.{List.{AllZip, range_with_len}, Prelude.{All, Contains, filter, replicate}}
use Rattle.dim_hierarchy.specs.{Concept.level_of, Dimension.tree, Row.IsCoordOf, Tree.{climb, up}}
use Rattle.dim_hierarchy.proofs.Ancestors.{up-self}
use Rattle.describing_set.specs.{DescSet.{IsSetOf, part_at}, Sets.{GrowsBy, IsDescSetOf}, declared.set.DescSet.DescSet}
use Rattle.hierarchy_split.specs.{Cut.{IsCutLevel, leasts, lifted}, Head.{GroupItems, IsBetterHead, IsGoodHead, IsGoodHeadCut, IsHeadCut, is_kept, kept_items, parted_items}, Order.AreEqual, declared.head_cut.HeadCut.HeadCut}
use Rattle.hierarchy_split.proofs.{Cuts.IsCutLevel-unique, Lifts.leasts_at_top}
use Rattle.list_words.specs.Counts.{Each}
use Rattle.list_words.proofs.{Each.all-each, Truth.on_bool}
use Rattle.tree_shape.specs.{Cities.{berlin, cities, cities_of, coord_of, munich, set_of}, Example.IsSample, HeadCuts.{town, town_sample, towns}}
use Rattle.tree_shape.proofs.Examples.CityFacts.{berlin-valid, empty-set, few16, grow-set, munich-valid, one-dim, one-valid, some16, valid-set}

-- Rows.

pub in-berlin : (r : ℕ) → r < 33 → town r ≡ berlin
in-berlin r lt = rw (lt-leb 33 r lt) refl

pub in-munich : (r : ℕ) → 33 ≤ r → town r ≡ munich
in-munich r le = rw (le-leb 33 r le) refl

by-town : (P : ℕ → Type 0) → P berlin → P munich → (r : ℕ) → P (town r)
by-town P b m r = on_bool (leb 33 r) (λ q. rw q m) (λ q. rw q b)

pub town-valid : (r : ℕ) → IsCoordOf cities (coord_of (town r))
town-valid r = by-town (λ id. IsCoordOf cities (coord_of id)) berlin-valid munich-valid r

pub berlin-set : IsDescSetOf cities (set_of (berlin ∷ []))
berlin-set = one-valid 16 some16 few16 0

pub munich-set : IsDescSetOf cities (set_of (munich ∷ []))
munich-set = one-valid 16 some16 few16 16

-- The sets of the first rows.

pub town-grown : (n : ℕ) → GrowsBy cities (coord_of (town n)) (set_of (cities_of 33 n)) (set_of (cities_of 33 (n + 1)))
town-grown n = on_bool (leb 33 n)
    (λ q. let le = leb-true _ _ q in
    rw (in-munich n le, ne_eqb n 0 (omega arith), ne_eqb (n + 1) 0 (omega arith), lt-leb (n + 1) 33 (omega arith)) (on_bool (leb n 33)
    (λ q2. rw q2 (grow-set munich (berlin ∷ []) (berlin ∷ munich ∷ []) refl refl (omega arith)))
    (λ q2. rw q2 (grow-set munich (berlin ∷ munich ∷ []) (berlin ∷ munich ∷ []) refl refl (omega arith)))))
    (λ q. let lt = leb-false _ _ q in
    rw (in-berlin n lt, ne_eqb (n + 1) 0 (omega arith), le-leb (n + 1) 33 (omega arith)) (on_bool (eqb n 0)
    (λ q2. rw q2 (grow-set berlin [] (berlin ∷ []) refl refl (omega arith)))
    (λ q2. rw (q2, le-leb n 33 (omega arith)) (grow-set berlin (berlin ∷ []) (berlin ∷ []) refl refl (omega arith)))))

pub town-sets : (n : ℕ) → IsDescSetOf cities (set_of (cities_of 33 n))
town-sets n = on_bool (eqb n 0)
    (λ q. rw q (valid-set 16 some16 few16 0))
    (λ q. on_bool (leb n 33)
    (λ q2. rw (q, q2) berlin-set)
    (λ q2. rw (q, q2) (valid-set 16 some16 few16 17)))

pub real_towns : IsSample towns town_sample
real_towns = record {
  numbered = λ r. (refl, refl, town-valid r);
  empty = empty-set;
  grown = town-grown;
  valid = town-sets;
  root = eqb-false 1 0 refl;
  spare_gate = eqb-false 2 0 refl;
  spare_root = eqb-false 2 1 refl;
  spare_stamp = eqb-false 0 1 refl;
}

-- The group: a head with 17 rows of Berlin and 15 of Munich, and 16 rows of Berlin behind it.

abbrev pub sets_of : List ℕ → List DescSet
sets_of ns = map (λ r. set_of (town r ∷ [])) ns

abbrev pub town_group : GroupItems
town_group = record { head = sets_of (range_with_len 16 32); others = sets_of (range_with_len 0 16) }

pub are-sets : (ns : List ℕ) → AllZip (λ r s. IsSetOf cities (r.at ∷ []) s) (map towns.row ns) (sets_of ns)
are-sets [] = tt
are-sets (n ∷ ns) = ((grow-set (town n) [] (town n ∷ []) (by-town (λ id. level_of id ≡ 1) refl refl n) refl (omega arith)).grown [] (All-nil (IsCoordOf cities)) empty-set, are-sets ns)

each-set : (P : DescSet → Type 0) → P (set_of (berlin ∷ [])) → P (set_of (munich ∷ [])) → (ns : List ℕ) → Each P (sets_of ns)
each-set P b m [] = tt
each-set P b m (n ∷ ns) = (by-town (λ id. P (set_of (id ∷ []))) b m n, each-set P b m ns)

all-sets : (P : DescSet → Type 0) → P (set_of (berlin ∷ [])) → P (set_of (munich ∷ [])) → (ns : List ℕ) → All P (sets_of ns)
all-sets P b m ns = all-each P (sets_of ns) (each-set P b m ns)

heads-differ : ¬ AreEqual (leasts cities town_group.head 0 1)
unfolding up climb
heads-differ eq = eqb-false munich berlin refl (eq 17 0 (lit< tt))

heads-level : IsCutLevel cities town_group.head 0 1
heads-level = record {
  above = all-sets (λ set. 1 ≤ (part_at set 0).level) (omega arith) (omega arith) (range_with_len 16 32);
  differ = heads-differ;
  first = λ lower lt. (let z : lower ≡ 0 = omega arith in subst (λ l. AreEqual (leasts cities town_group.head 0 l)) (sym z)
      (leasts_at_top cities town_group.head 0 (lit< tt) (all-sets (IsDescSetOf cities) berlin-set munich-set (range_with_len 16 32))));
}

-- The head cut that keeps the rows of one city.

abbrev cut_of : ℕ → ℕ → HeadCut
cut_of concept kept = record { dim = 0; level = 1; concept = concept; kept = kept }

abbrev pub town_cut : HeadCut
town_cut = cut_of munich 15

kept-munich : (k : ℕ) → kept_items cities town_group.head (cut_of munich k) ≡ replicate 15 (set_of (munich ∷ []))
unfolding up climb
kept-munich k = refl

parted-berlin : (k : ℕ) → parted_items cities town_group (cut_of munich k) ≡ replicate 33 (set_of (berlin ∷ []))
unfolding up climb
parted-berlin k = refl

not-berlin : ¬ Contains (berlin ∷ []) munich
not-berlin (zero, lt, e) = eqb-false berlin munich refl e
not-berlin (suc k, lt, e) = absurd (omega arith)

apart-cities : All (λ id. ¬ Contains (lifted cities 0 1 (set_of (berlin ∷ []))) id) (lifted cities 0 1 (set_of (munich ∷ [])))
unfolding up climb
apart-cities = All-cons (λ id. ¬ Contains (lifted cities 0 1 (set_of (berlin ∷ []))) id) munich [] not-berlin (All-nil _)

good-head : IsGoodHead cities town_group town_cut
good-head = record {
  third = lit≤ tt;
  part = lit< tt;
  apart = subst (λ kepts. All (λ kept. All (λ other. All (λ id. ¬ Contains (lifted cities 0 1 other) id) (lifted cities 0 1 kept)) (parted_items cities town_group town_cut)) kepts) (sym (kept-munich 15))
      (subst (λ others. All (λ kept. All (λ other. All (λ id. ¬ Contains (lifted cities 0 1 other) id) (lifted cities 0 1 kept)) others) (replicate 15 (set_of (munich ∷ [])))) (sym (parted-berlin 15))
      (All-replicate (λ kept. All (λ other. All (λ id. ¬ Contains (lifted cities 0 1 other) id) (lifted cities 0 1 kept)) (replicate 33 (set_of (berlin ∷ [])))) 15 (set_of (munich ∷ []))
      (All-replicate (λ other. All (λ id. ¬ Contains (lifted cities 0 1 other) id) (lifted cities 0 1 (set_of (munich ∷ [])))) 33 (set_of (berlin ∷ [])) apart-cities)));
}

head-cut : IsHeadCut cities town_group town_cut
head-cut = record {
  dim = lit< tt;
  level = record { cut_level = heads-level; others = all-sets (λ set. 1 ≤ (part_at set 0).level) (omega arith) (omega arith) (range_with_len 0 16) };
  kept = sym (ap length (kept-munich 15));
}

-- Berlin stands behind the head too, and no other city has rows.

berlin-behind : (k : ℕ) → ¬ IsGoodHead cities town_group (cut_of berlin k)
unfolding up climb
berlin-behind k g = g.apart 0 (set_of []) (lit< tt) 15 (set_of []) (lit< tt) 0 0 (lit< tt) (0, lit< tt, refl)

not-of : (concept k id : ℕ) → level_of id ≡ 1 → id ≢ concept → is_kept cities (cut_of concept k) (set_of (id ∷ [])) ≡ false
not-of concept k id lv ne = ap (λ u. eqb u concept) (up-self (tree cities 0) id 1 (sym lv)) ∙ ne_eqb id concept ne

none-kept : (concept k : ℕ) → concept ≢ berlin → concept ≢ munich → (ns : List ℕ) → filter (is_kept cities (cut_of concept k)) (sets_of ns) ≡ []
none-kept concept k b m [] = refl
none-kept concept k b m (n ∷ ns) =
    let no = by-town (λ id. is_kept cities (cut_of concept k) (set_of (id ∷ [])) ≡ false) (not-of concept k berlin refl (λ e. b (sym e))) (not-of concept k munich refl (λ e. m (sym e))) n in
    rw no (none-kept concept k b m ns)

comes-first : (concept k : ℕ) → IsHeadCut cities town_group (cut_of concept k) → IsGoodHead cities town_group (cut_of concept k) → IsBetterHead town_cut (cut_of concept k)
comes-first concept k w g = on_bool (eqb concept munich)
    (λ q. let e = eqb-true _ _ q in
    let n : k ≡ 15 = w.kept ∙ ap (λ c. length (kept_items cities town_group.head (cut_of c k))) e ∙ ap length (kept-munich k) in
    inr (sym n, inr (refl, inr (refl, omega (arith, e)))))
    (λ q. on_bool (eqb concept berlin)
    (λ q2. absurd (berlin-behind k (subst (λ c. IsGoodHead cities town_group (cut_of c k)) (eqb-true _ _ q2) g)))
    (λ q2. let n : k ≡ 0 = w.kept ∙ ap length (none-kept concept k (eqb-false _ _ q2) (eqb-false _ _ q) (range_with_len 16 32)) in
    let t : 32 ≤ 3 * k = g.third in
    absurd (omega arith)))

pub good-town_cut : IsGoodHeadCut cities town_group town_cut
good-town_cut = record {
  head_cut = head-cut;
  good = good-head;
  first = λ other w g.
      let z = one-dim other.dim w.dim in
      let lv = IsCutLevel-unique cities town_group.head 0 other.level 1 (subst (λ d. IsCutLevel cities town_group.head d other.level) z w.level.cut_level) heads-level in
      let same : other ≡ cut_of other.concept other.kept = λ i. record { dim = z i; level = lv i; concept = other.concept; kept = other.kept } in
      subst (IsBetterHead town_cut) (sym same) (comes-first other.concept other.kept (subst (IsHeadCut cities town_group) same w) (subst (IsGoodHead cities town_group) same g));
}
