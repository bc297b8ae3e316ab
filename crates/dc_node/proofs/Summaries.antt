-- The aggregate and the set of several lists of rows together.
use Rattle.std.proofs.{Common.{◌≡◌, ℕ, ◌+◌, ◌<◌, ◌≤◌, List, [], ◌∷◌, ◌++◌, length, map, take, drop, get_or, refl, sym, ap, subst, ◌∙◌, arith, append-nil}, lemmas.List.{take_more, map_push, map-append, take-append-drop}, lemmas.List.Concat.flat_map-append, lemmas.List.Elements.{All-nil, All-append, All-map, All-take, All-push}, lemmas.List.Sorted.{All-permutation, IsPermutation-map, IsPermutation-sym, IsPermutation-to_front, Contains-permutation}}
use Rattle.std.specs.{List.{AllZip, flat_map}, Prelude.{All, IsPermutation}}
use Rattle.dim_hierarchy.specs.{Dimension.Dimension, Row.IsCoordOf, Rows.IsRowOf, declared.row.Coord.Coord, declared.row.Row.Row}
use Rattle.measure_agg.proofs.AggLaws.{agg-one}
use Rattle.measure_agg.specs.{Aggregate.{Aggregate, agg}, Joining.{one, join}}
use Rattle.describing_set.specs.{DescSet.IsSetOf, Sets.{GrowsBy, JoinsTo, AreAmong}, declared.set.DescSet.DescSet}
use Rattle.dc_node.specs.{Summary.{coords, aggs, joined, IsSummaryOf, IsUnionOf}, declared.entry.Entry.Entry}

-- The laws of sets and of aggregates, as the calls that state them say them.

abbrev pub SameLaw : List Dimension → Type 0
SameLaw h = (rows others : List Coord) (set : DescSet) → AreAmong rows others → AreAmong others rows → IsSetOf h rows set → IsSetOf h others set

pub record JoinLaws : Type 0 where
  pub append : (xs ys : List Row) → agg (xs ++ ys) ≡ join (agg xs) (agg ys)
  pub associative : (a b c : Aggregate) → join (join a b) c ≡ join a (join b c)
  pub empty_left : (a : Aggregate) → join (agg []) a ≡ a
  pub empty_right : (a : Aggregate) → join a (agg []) ≡ a

-- the set of the same coordinates in another order
pub moved_set : (h : List Dimension) (same : SameLaw h) (xs ys : List Coord) (set : DescSet) → IsPermutation xs ys → IsSetOf h xs set → IsSetOf h ys set
moved_set h same xs ys set p s =
    same xs ys set (λ at. Contains-permutation xs ys at p) (λ at. Contains-permutation ys xs at (IsPermutation-sym xs ys p)) s

pub valid_coords : (h : List Dimension) (rows : List Row) → All (IsRowOf h) rows → All (IsCoordOf h) (coords rows)
valid_coords h rows valid = All-map (IsCoordOf h) (λ r. r.at) rows valid

-- one row more
pub grown_rows : (h : List Dimension) (same : SameLaw h) (rows : List Row) (row : Row) (set grown : DescSet)
    → All (IsRowOf h) rows → GrowsBy h row.at set grown → IsSetOf h (coords rows) set → IsSetOf h (coords (rows ++ row ∷ [])) grown
grown_rows h same rows row set grown valid grows s =
    let front = grows.grown (coords rows) (valid_coords h rows valid) s in
    rw map_push
    (moved_set h same (row.at ∷ coords rows) (coords rows ++ row.at ∷ []) grown (IsPermutation-sym (coords rows ++ row.at ∷ []) (row.at ∷ coords rows) (IsPermutation-to_front (coords rows) row.at)) front)

-- the step of a loop that reads the row at i
pub grown_more : (h : List Dimension) (same : SameLaw h) (rows : List Row) (i : ℕ) (row : Row) (set grown : DescSet)
    → i < length rows → row ≡ get_or rows i row → All (IsRowOf h) rows → GrowsBy h row.at set grown → IsSetOf h (coords (take i rows)) set
    → IsSetOf h (coords (take (i + 1) rows)) grown
grown_more h same rows i row set grown within read valid grows s =
    rw (take_more rows i row within, ← read) (grown_rows h same (take i rows) row set grown (All-take (IsRowOf h) i rows valid) grows s)

-- aggregates of several lists

pub joined-append : JoinLaws → (xs ys : List Aggregate) → joined (xs ++ ys) ≡ join (joined xs) (joined ys)
joined-append laws [] ys = sym (laws.empty_left (joined ys))
joined-append laws (x ∷ xs) ys = ap (join x) (joined-append laws xs ys) ∙ sym (laws.associative x (joined xs) (joined ys))

pub joined-more : JoinLaws → (entries : List Entry) (i : ℕ) (e : Entry) → i < length entries → e ≡ get_or entries i e
    → joined (aggs (take (i + 1) entries)) ≡ join (joined (aggs (take i entries))) e.agg
joined-more laws entries i e within read =
    rw (take_more entries i e within, ← read, map_push)
    (joined-append laws (aggs (take i entries)) (e.agg ∷ []) ∙ ap (join (joined (aggs (take i entries)))) (laws.empty_right e.agg))

-- the first entries have no more rows than all
pub joined-few : JoinLaws → (entries : List Entry) (i : ℕ) → (joined (aggs (take i entries))).count ≤ (joined (aggs entries)).count
joined-few laws entries i =
    let whole : joined (aggs entries) ≡ join (joined (aggs (take i entries))) (joined (aggs (drop i entries))) =
    ap (λ es. joined (aggs es)) (sym (take-append-drop i entries))
    ∙ ap joined (map-append (λ e. e.agg) (take i entries) (drop i entries))
    ∙ joined-append laws (aggs (take i entries)) (aggs (drop i entries)) in
    omega (arith, ap (λ a. a.count) whole)

pub joined_lists : JoinLaws → (lists : List (List Row)) (entries : List Entry) → AllZip (λ rows e. e.agg ≡ agg rows) lists entries → joined (aggs entries) ≡ agg (flat_map (λ rows. rows) lists)
joined_lists laws [] [] z = refl
joined_lists laws [] (e ∷ entries) z = absurd z
joined_lists laws (rows ∷ lists) [] z = absurd z
joined_lists laws (rows ∷ lists) (e ∷ entries) z =
    ap (λ a. join a (joined (aggs entries))) z.0
    ∙ ap (join (agg rows)) (joined_lists laws lists entries z.1)
    ∙ sym (laws.append rows (flat_map (λ r. r) lists))

-- sets of several lists

AllZip-split : {A B : Type 0} (R : A → B → Type 0) (xs : List A) (ys zs : List B) → AllZip R xs (ys ++ zs)
    → (front : List A) × (back : List A) × (xs ≡ front ++ back) × AllZip R front ys × AllZip R back zs
AllZip-split R xs [] zs z = ([], xs, refl, tt, z)
AllZip-split R [] (y ∷ ys) zs z = absurd z
AllZip-split R (x ∷ xs) (y ∷ ys) zs z =
    let r = AllZip-split R xs ys zs z.1 in
    (x ∷ r.0, r.1, ap (λ l. x ∷ l) r.2, (z.0, r.3), r.4)

abbrev pub AreOf : List Dimension → List Coord → DescSet → Type 0
AreOf h rows set = All (IsCoordOf h) rows × IsSetOf h rows set

All-flat_map : (h : List Dimension) (lists : List (List Coord)) (sets : List DescSet) → AllZip (AreOf h) lists sets → All (IsCoordOf h) (flat_map (λ rows. rows) lists)
All-flat_map h [] [] z = All-nil (IsCoordOf h)
All-flat_map h [] (s ∷ sets) z = absurd z
All-flat_map h (rows ∷ lists) [] z = absurd z
All-flat_map h (rows ∷ lists) (s ∷ sets) z = All-append (IsCoordOf h) rows (flat_map (λ r. r) lists) z.0.0 (All-flat_map h lists sets z.1)

pub IsUnionOf-none : (h : List Dimension) (set : DescSet) → IsSetOf h [] set → IsUnionOf h [] set
IsUnionOf-none h set s = record { union = union_none }
  where
    union_none : (lists : List (List Coord)) → AllZip (AreOf h) lists [] → IsSetOf h (flat_map (λ rows. rows) lists) set
    union_none [] z = s
    union_none (rows ∷ lists) z = absurd z

IsUnionOf-one : (h : List Dimension) (set : DescSet) → IsUnionOf h (set ∷ []) set
IsUnionOf-one h set = record { union = union_one }
  where
    union_one : (lists : List (List Coord)) → AllZip (AreOf h) lists (set ∷ []) → IsSetOf h (flat_map (λ rows. rows) lists) set
    union_one [] z = absurd z
    union_one (rows ∷ []) z = subst (λ l. IsSetOf h l set) (sym (append-nil rows)) z.0.1
    union_one (rows ∷ more ∷ lists) z = absurd z.1

-- the sets of two lists together
pub IsUnionOf-append : (h : List Dimension) (xs ys : List DescSet) (left right both : DescSet) → JoinsTo h left right both → IsUnionOf h xs left → IsUnionOf h ys right → IsUnionOf h (xs ++ ys) both
IsUnionOf-append h xs ys left right both joins u v = record {
  union = λ lists z.
      let r = AllZip-split (AreOf h) lists xs ys z in
      let flat : List (List Coord) → List Coord = flat_map (λ rows. rows) in
      let here : IsSetOf h (flat r.0 ++ flat r.1) both = joins.joined (flat r.0) (flat r.1) (All-flat_map h r.0 xs r.3) (All-flat_map h r.1 ys r.4) (u.union r.0 r.3) (v.union r.1 r.4) in
      subst (λ l. IsSetOf h l both) (sym (ap flat r.2 ∙ flat_map-append (λ rows. rows) r.0 r.1)) here;
}

pub IsUnionOf-more : (h : List Dimension) (entries : List Entry) (i : ℕ) (e : Entry) (set both : DescSet)
    → i < length entries → e ≡ get_or entries i e → JoinsTo h set e.set both → IsUnionOf h (map (λ x. x.set) (take i entries)) set
    → IsUnionOf h (map (λ x. x.set) (take (i + 1) entries)) both
IsUnionOf-more h entries i e set both within read joins u =
    rw (take_more entries i e within, ← read, map_push) (IsUnionOf-append h (map (λ x. x.set) (take i entries)) (e.set ∷ []) set e.set both joins u (IsUnionOf-one h e.set))

-- what entries say of the rows beneath

aggs_zip : (h : List Dimension) (lists : List (List Row)) (entries : List Entry)
    → AllZip (λ rows e. IsSummaryOf h rows e.agg e.set) lists entries → AllZip (λ rows e. e.agg ≡ agg rows) lists entries
aggs_zip h [] [] z = tt
aggs_zip h [] (e ∷ entries) z = absurd z
aggs_zip h (rows ∷ lists) [] z = absurd z
aggs_zip h (rows ∷ lists) (e ∷ entries) z = (z.0.agg, aggs_zip h lists entries z.1)

sets_zip : (h : List Dimension) (lists : List (List Row)) (entries : List Entry)
    → AllZip (λ rows e. IsSummaryOf h rows e.agg e.set) lists entries → AllZip (AreOf h) (map coords lists) (map (λ e. e.set) entries)
sets_zip h [] [] z = tt
sets_zip h [] (e ∷ entries) z = absurd z
sets_zip h (rows ∷ lists) [] z = absurd z
sets_zip h (rows ∷ lists) (e ∷ entries) z = ((valid_coords h rows z.0.valid, z.0.set_of), sets_zip h lists entries z.1)

valid_lists : (h : List Dimension) (lists : List (List Row)) (entries : List Entry)
    → AllZip (λ rows e. IsSummaryOf h rows e.agg e.set) lists entries → All (IsRowOf h) (flat_map (λ rows. rows) lists)
valid_lists h [] [] z = All-nil (IsRowOf h)
valid_lists h [] (e ∷ entries) z = absurd z
valid_lists h (rows ∷ lists) [] z = absurd z
valid_lists h (rows ∷ lists) (e ∷ entries) z = All-append (IsRowOf h) rows (flat_map (λ r. r) lists) z.0.valid (valid_lists h lists entries z.1)

coords-flat_map : (lists : List (List Row)) → flat_map (λ rows. rows) (map coords lists) ≡ coords (flat_map (λ rows. rows) lists)
coords-flat_map [] = refl
coords-flat_map (rows ∷ lists) =
    ap (λ l. coords rows ++ l) (coords-flat_map lists) ∙ sym (map-append (λ r. r.at) rows (flat_map (λ r. r) lists))

pub summary_of_lists : JoinLaws → (h : List Dimension) (lists : List (List Row)) (entries : List Entry) (total : Aggregate) (set : DescSet)
    → AllZip (λ rows e. IsSummaryOf h rows e.agg e.set) lists entries → total ≡ joined (aggs entries) → IsUnionOf h (map (λ e. e.set) entries) set
    → IsSummaryOf h (flat_map (λ rows. rows) lists) total set
summary_of_lists laws h lists entries total set z total_is u = record {
  valid = valid_lists h lists entries z;
  agg = total_is ∙ joined_lists laws lists entries (aggs_zip h lists entries z);
  set_of = subst (λ l. IsSetOf h l set) (coords-flat_map lists) (u.union (map coords lists) (sets_zip h lists entries z));
}

-- the same rows in another order
pub moved_summary : (h : List Dimension) (same : SameLaw h) → ((xs ys : List Row) → IsPermutation xs ys → agg xs ≡ agg ys) → (rows others : List Row) (total : Aggregate) (set : DescSet)
    → IsPermutation rows others → IsSummaryOf h rows total set → IsSummaryOf h others total set
moved_summary h same order rows others total set p s = record {
  valid = All-permutation (IsRowOf h) rows others p s.valid;
  agg = s.agg ∙ order rows others p;
  set_of = moved_set h same (coords rows) (coords others) set (IsPermutation-map (λ r. r.at) rows others p) s.set_of;
}

pub pushed_summary : (h : List Dimension) (same : SameLaw h) → JoinLaws → (rows : List Row) (row : Row) (total : Aggregate) (set grown : DescSet)
    → IsRowOf h row → GrowsBy h row.at set grown → IsSummaryOf h rows total set → IsSummaryOf h (rows ++ row ∷ []) (join total (one row.measures)) grown
pushed_summary h same laws rows row total set grown valid grows s = record {
  valid = All-push (IsRowOf h) rows row s.valid valid;
  agg = ap (λ a. join a (one row.measures)) s.agg ∙ sym (laws.append rows (row ∷ []) ∙ ap (join (agg rows)) (agg-one row));
  set_of = grown_rows h same rows row set grown s.valid grows s.set_of;
}

pub appended_summary : (h : List Dimension) → JoinLaws → (xs ys : List Row) (a b : Aggregate) (s t both : DescSet)
    → JoinsTo h s t both → IsSummaryOf h xs a s → IsSummaryOf h ys b t → IsSummaryOf h (xs ++ ys) (join a b) both
appended_summary h laws xs ys a b s t both joins p q = record {
  valid = All-append (IsRowOf h) xs ys p.valid q.valid;
  agg = ap (λ x. join x b) p.agg ∙ ap (join (agg xs)) q.agg ∙ sym (laws.append xs ys);
  set_of = rw map-append (joins.joined (coords xs) (coords ys) (valid_coords h xs p.valid) (valid_coords h ys q.valid) p.set_of q.set_of);
}
