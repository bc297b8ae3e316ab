-- How the boxes of spots grow.
use Rattle.std.proofs.{Common.{ℕ, zero, suc, ◌≡◌, ◌+◌, ◌<◌, List, [], ◌∷◌, ◌++◌, length, get_or, set, take, drop, refl, sym, ap, ◌∙◌, subst, arith, All, add-zero, eq-eqb}, lemmas.Bool.{eqb-true}, lemmas.List.{append-nil, append_assoc, take_more, take_more_set, drop-set-lt, length-set, set-get_or, get_or-drop, drop-drop, map-id}, lemmas.List.Elements.{All-append, All-cons, All-nil, All-set, All-take, all_zip_more}, lemmas.List.FromFn.map-range_with_len_more, lemmas.List.Sorted.{IsPermutation-sym, IsPermutation-to_front, Contains-permutation}}
use Rattle.std.specs.{List.{AllZip, range_with_len}, Prelude.{◌==◌, ◌≢◌}}
use Rattle.dim_hierarchy.specs.{Dimension.Dimension, Row.IsCoordOf, declared.row.Coord.Coord}
use Rattle.describing_set.specs.{DescSet.IsSetOf, Sets.{IsDescSetOf, GrowsBy, AreAmong}, Sorted.{Below, Ascends}, declared.listing.Spot.Spot, declared.set.DescSet.DescSet}
use Rattle.server_image.specs.{Image.{grown_at, AreGrowths}, Registry.IsFirstSpot, Spots.{spot_ids, IsAt, IsGrown, Grows, AreBoxes, along}, declared.image.Growth.Growth}
use Rattle.server_image.proofs.Lists.{by_test, Ascends-at}

-- Lists place by place.

pub AllZip-snoc : {A B : Type 0} (R : A → B → Type 0) (xs : List A) (ys : List B) (x : A) (y : B) → AllZip R xs ys → R x y → AllZip R (xs ++ x ∷ []) (ys ++ y ∷ [])
AllZip-snoc R [] [] x y all r = (r, tt)
AllZip-snoc R [] (b ∷ ys) x y all r = absurd all
AllZip-snoc R (a ∷ xs) [] x y all r = absurd all
AllZip-snoc R (a ∷ xs) (b ∷ ys) x y all r = (all.0, AllZip-snoc R xs ys x y all.1 r)

pub Grows-ids : (h : List Dimension) (more : ℕ → List Coord) (xs ys : List Spot) → Grows h more xs ys → spot_ids ys ≡ spot_ids xs
Grows-ids h more [] [] g = refl
Grows-ids h more [] (y ∷ ys) g = absurd g
Grows-ids h more (x ∷ xs) [] g = absurd g
Grows-ids h more (x ∷ xs) (y ∷ ys) g = let first = g.0.shard in let rest = Grows-ids h more xs ys g.1 in cc

-- the ids still ascend
pub Grows-ascends : (h : List Dimension) (more : ℕ → List Coord) (xs ys : List Spot) → Grows h more xs ys → Ascends (spot_ids xs) → Ascends (spot_ids ys)
Grows-ascends h more xs ys g a = subst Ascends (sym (Grows-ids h more xs ys g)) a

pub Grows-length : (h : List Dimension) (more : ℕ → List Coord) (xs ys : List Spot) → Grows h more xs ys → length ys ≡ length xs
Grows-length h more [] [] g = refl
Grows-length h more [] (y ∷ ys) g = absurd g
Grows-length h more (x ∷ xs) [] g = absurd g
Grows-length h more (x ∷ xs) (y ∷ ys) g = ap (λ n. suc n) (Grows-length h more xs ys g.1)

-- before a place each spot has become what it should, from there on the spots are as they were, and each box is valid
abbrev pub AreDone : List Dimension → (Spot → Spot → Type 0) → ℕ → List Spot → List Spot → Type 0
AreDone h Becomes i before now = AllZip Becomes (take i before) (take i now) × (drop i now ≡ drop i before) × AreBoxes h now × (length now ≡ length before)

-- one spot more becomes what it should
pub done-more : (h : List Dimension) (Becomes : Spot → Spot → Type 0) (i : ℕ) (before now : List Spot) (x y : Spot) → i < length now → x ≡ get_or now i x → Becomes x y → IsDescSetOf h y.set
    → AreDone h Becomes i before now → AreDone h Becomes (i + 1) before (set now i y)
done-more h Becomes i before now x y lt is becomes valid done =
    let back = done.1 in
    let here : get_or before i x ≡ get_or now i x = at_drop before ∙ sym (ap (λ l. get_or l 0 x) back) ∙ sym (at_drop now) in (
      subst (AllZip Becomes (take (i + 1) before)) (sym (take_more_set now i y lt))
          (all_zip_more Becomes before (take i now) i x y (omega (arith, lt, done.3)) (is ∙ sym here) done.0 becomes),
      drop-set-lt (i + 1) now i y (omega arith) ∙ drop_more now ∙ ap (drop 1) back ∙ sym (drop_more before),
      All-set (λ s. IsDescSetOf h s.set) now i y valid done.2,
      length-set now i y ∙ done.3,
    )
  where
    at_drop : (l : List Spot) → get_or l i x ≡ get_or (drop i l) 0 x
    at_drop l = ap (λ n. get_or l n x) (sym (add-zero i)) ∙ sym (get_or-drop i l 0 x)

    drop_more : (l : List Spot) → drop (i + 1) l ≡ drop 1 (drop i l)
    drop_more l = sym (drop-drop 1 i l)

no_more : (h : List Dimension) (rows : List Coord) (set : DescSet) → IsSetOf h rows set → IsSetOf h (rows ++ []) set
no_more h rows set s = subst (λ l. IsSetOf h l set) (sym (append-nil rows)) s

-- A box that grows by one coordinate.

-- a set is that of the same coordinates in another order, as the law of sets says it
abbrev pub SameLaw : List Dimension → Type 0
SameLaw h = (rows others : List Coord) (set : DescSet) → AreAmong rows others → AreAmong others rows → IsSetOf h rows set → IsSetOf h others set

pub grown-last : (h : List Dimension) (same : SameLaw h) (at : Coord) (old new : DescSet) → GrowsBy h at old new → (rows : List Coord) → All (IsCoordOf h) rows → IsSetOf h rows old → IsSetOf h (rows ++ at ∷ []) new
grown-last h same at old new grows rows all s =
    let p = IsPermutation-to_front rows at in
    same (at ∷ rows) (rows ++ at ∷ []) new (λ x. Contains-permutation (at ∷ rows) (rows ++ at ∷ []) x (IsPermutation-sym (rows ++ at ∷ []) (at ∷ rows) p)) (λ x. Contains-permutation (rows ++ at ∷ []) (at ∷ rows) x p)
    (grows.grown rows all s)

-- A box of one id.

-- no spot has the id
pub Grows-absent : (h : List Dimension) (at : Coord) (id : ℕ) (xs : List Spot) → All (λ s. s.shard ≢ id) xs → Grows h (along (id ∷ []) at) xs xs
Grows-absent h at id [] all = tt
Grows-absent h at id (x ∷ xs) all = (
  by_test (id == x.shard)
      (λ e. absurd (all 0 x (omega arith) (sym (eqb-true id x.shard e))))
      (λ e. rw e (record { shard = refl; worker = refl; set = λ rows valid s. no_more h rows x.set s })),
  Grows-absent h at id xs (λ k d lt. all (suc k) d (omega (arith, lt))),
)

Below-apart : (m : ℕ) (xs : List Spot) → Below m (spot_ids xs) → All (λ s. s.shard ≢ m) xs
Below-apart m [] b = All-nil (λ s. s.shard ≢ m)
Below-apart m (x ∷ xs) b = All-cons (λ (s : Spot). s.shard ≢ m) x xs (λ same. let lt = b.0 in omega (arith, lt, same)) (Below-apart m xs b.1)

-- the spot at a place has the id
pub Grows-at : (h : List Dimension) (at : Coord) (id : ℕ) (xs : List Spot) (place : ℕ) (x y : Spot) → Ascends (spot_ids xs) → place < length xs → x ≡ get_or xs place x → (get_or xs place x).shard ≡ id → IsGrown h (at ∷ []) x y
    → Grows h (along (id ∷ []) at) xs (set xs place y)
Grows-at h at id [] place x y a lt is has grown = absurd (omega (arith, lt))
Grows-at h at id (z ∷ zs) zero x y a lt is has grown = (
  subst (λ (s : Spot). IsGrown h (along (id ∷ []) at s.shard) s y) is (rw (eq-eqb id x.shard (sym has ∙ ap (λ (s : Spot). s.shard) (sym is))) grown),
  Grows-absent h at id zs (subst (λ n. All (λ (s : Spot). s.shard ≢ n) zs) has (Below-apart z.shard zs a.0)),
)
Grows-at h at id (z ∷ zs) (suc place) x y a lt is has grown =
    let below : z.shard < (get_or zs place x).shard = Ascends-at (z ∷ zs) 0 (suc place) x a (omega arith) lt in (
      by_test (id == z.shard)
          (λ e. let same = eqb-true id z.shard e in absurd (omega (arith, below, has, same)))
          (λ e. rw e (record { shard = refl; worker = refl; set = λ rows valid s. no_more h rows z.set s })),
      Grows-at h at id zs place x y a.1 (omega (arith, lt)) is has grown,
    )

-- the spot at a place has the id, and stays as it is
pub Grows-kept : (h : List Dimension) (at : Coord) (id : ℕ) (xs : List Spot) (place : ℕ) (x : Spot) → Ascends (spot_ids xs) → IsAt id xs place → x ≡ get_or xs place x → IsGrown h (at ∷ []) x x
    → Grows h (along (id ∷ []) at) xs xs
Grows-kept h at id xs place x a found is grown =
    let same : set xs place x ≡ xs = ap (λ s. set xs place s) is ∙ set-get_or xs place x in
    subst (λ (now : List Spot). Grows h (along (id ∷ []) at) xs now) same (Grows-at h at id xs place x x a found.within is (found.shard x) grown)

-- a list of one is its first alone
pub alone : (xs : List ℕ) → length xs ≡ 1 → get_or xs 0 0 ∷ [] ≡ xs
alone [] e = absurd (omega (arith, e))
alone (x ∷ []) e = refl
alone (x ∷ y ∷ rest) e = absurd (omega (arith, e))

-- One growth after another.

pub Grows-nothing : (h : List Dimension) (xs : List Spot) → Grows h (grown_at []) xs xs
Grows-nothing h [] = tt
Grows-nothing h (x ∷ xs) = (record { shard = refl; worker = refl; set = λ rows all s. no_more h rows x.set s }, Grows-nothing h xs)

noted-valid : (h : List Dimension) (gs : List Growth) (id : ℕ) → AreGrowths h gs → All (IsCoordOf h) (grown_at gs id)
noted-valid h [] id all = All-nil (IsCoordOf h)
noted-valid h (g ∷ gs) id all = by_test (g.shard == id)
    (λ e. rw e (All-cons (IsCoordOf h) g.at (grown_at gs id) (all 0 g (omega arith)) (noted-valid h gs id (λ k d lt. all (suc k) d (omega (arith, lt))))))
    (λ e. rw e (noted-valid h gs id (λ k d lt. all (suc k) d (omega (arith, lt)))))

noted-push : (gs : List Growth) (g : Growth) (id : ℕ) → grown_at (gs ++ g ∷ []) id ≡ grown_at gs id ++ along (g.shard ∷ []) g.at id
noted-push [] g id = by_test (g.shard == id) (λ e. rw e) (λ e. rw e)
noted-push (x ∷ gs) g id = by_test (x.shard == id)
    (λ e. rw e (ap (λ l. x.at ∷ l) (noted-push gs g id)))
    (λ e. rw e (noted-push gs g id))

IsGrown-again : (h : List Dimension) (a b : List Coord) (old mid new : Spot) → All (IsCoordOf h) a → IsGrown h a old mid → IsGrown h b mid new → IsGrown h (a ++ b) old new
IsGrown-again h a b old mid new valid first second = record {
  shard = second.shard ∙ first.shard;
  worker = second.worker ∙ first.worker;
  set = λ rows all s. subst (λ l. IsSetOf h l new.set) (append_assoc rows a b)
      (second.set (rows ++ a) (All-append (IsCoordOf h) rows a all valid) (first.set rows all s));
}

pub Grows-more : (h : List Dimension) (gs : List Growth) (g : Growth) (xs ys zs : List Spot) → AreGrowths h gs → Grows h (grown_at gs) xs ys → Grows h (along (g.shard ∷ []) g.at) ys zs → Grows h (grown_at (gs ++ g ∷ [])) xs zs
Grows-more h gs g [] [] [] valid first second = tt
Grows-more h gs g [] [] (z ∷ zs) valid first second = absurd second
Grows-more h gs g [] (y ∷ ys) zs valid first second = absurd first
Grows-more h gs g (x ∷ xs) [] zs valid first second = absurd first
Grows-more h gs g (x ∷ xs) (y ∷ ys) [] valid first second = absurd second
Grows-more h gs g (x ∷ xs) (y ∷ ys) (z ∷ zs) valid first second = (
  subst (λ l. IsGrown h l x z) (sym (noted-push gs g x.shard))
      (IsGrown-again h (grown_at gs x.shard) (along (g.shard ∷ []) g.at x.shard) x y z (noted-valid h gs x.shard valid) first.0
      (subst (λ id. IsGrown h (along (g.shard ∷ []) g.at id) y z) first.0.shard second.0)),
  Grows-more h gs g xs ys zs valid first.1 second.1,
)

-- the growths up to a place, and then the one there
pub noted-next : (h : List Dimension) (gs : List Growth) (i : ℕ) (g : Growth) (xs ys zs : List Spot) → i < length gs → g ≡ get_or gs i g → AreGrowths h gs
    → Grows h (grown_at (take i gs)) xs ys → Grows h (along (g.shard ∷ []) g.at) ys zs → Grows h (grown_at (take (i + 1) gs)) xs zs
noted-next h gs i g xs ys zs lt is valid first second =
    subst (λ l. Grows h (grown_at l) xs zs) (sym (take_more gs i g lt ∙ ap (λ (x : Growth). take i gs ++ x ∷ []) (sym is)))
    (Grows-more h (take i gs) g xs ys zs (All-take (λ (x : Growth). IsCoordOf h x.at) i gs valid) first second)

-- The first shards.

pub first-ids : (h : List Dimension) (xs : List ℕ) (ys : List Spot) → AllZip (IsFirstSpot h) xs ys → spot_ids ys ≡ xs
first-ids h [] [] all = refl
first-ids h [] (y ∷ ys) all = absurd all
first-ids h (x ∷ xs) [] all = absurd all
first-ids h (x ∷ xs) (y ∷ ys) all = let first = all.0.shard in let rest = first-ids h xs ys all.1 in cc

range-Below : (m a n : ℕ) → m < a → Below m (range_with_len a n)
range-Below m a zero lt = tt
range-Below m a (suc n) lt = (lt, range-Below m (a + 1) n (omega (arith, lt)))

pub range-Ascends : (a n : ℕ) → Ascends (range_with_len a n)
range-Ascends a zero = tt
range-Ascends a (suc n) = (range-Below a (a + 1) n (omega arith), range-Ascends (a + 1) n)

pub range-more : (n : ℕ) → range_with_len 0 (n + 1) ≡ range_with_len 0 n ++ n ∷ []
range-more n = sym (map-id (range_with_len 0 (n + 1))) ∙ map-range_with_len_more (λ x. x) 0 n n (omega arith) ∙ ap (λ l. l ++ n ∷ []) (map-id (range_with_len 0 n))
