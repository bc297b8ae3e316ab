-- Boxes that grow cover what they covered, and the new rows; and lists of spots of which the boxes grow.
use Rattle.std.proofs.{Common.{◌≡◌, ℕ, ◌<◌, List, [], ◌∷◌, ◌++◌, map, Bool, true, false, IsTrue, length, get_or, refl, sym, ap, subst, arith, All, Any, Contains}, lemmas.List.{get_or_default, map-append}, lemmas.List.Elements.{All-cons, All-nil, All-head, All-tail, All-append, All-map, All-weaker, AllZip-get_or, length_all_zip, Contains-append_left, Contains-append_right}}
use Rattle.std.specs.{List.AllZip, Prelude.{if◌then◌else◌}}
use Rattle.dim_hierarchy.specs.{Dimension.{Dimension, IsHierarchy}, Row.IsCoordOf, declared.row.Coord.Coord, declared.row.Row.Row}
use Rattle.describing_set.specs.{DescSet.{IsSetOf, covers}, declared.listing.Spot.Spot}
use Rattle.describing_set.proofs.{Covering.{covers-Covers, IsSetOf-Covers}, Laws.IsSetOf-wider}
use Rattle.row_ledger.specs.{Listings.{IsBox, places_of}, Shards.{Place, place}}
use Rattle.server_image.specs.Spots.{Grows, IsGrown, along, is_among}
use Rattle.volap_cell.specs.Imaging.{HasGrown}

-- Lists side by side.

pub Any-zip : (R : Spot → Spot → Type 0) (P Q : Spot → Type 0) → ((x y : Spot) → R x y → P x → Q y) → (xs ys : List Spot) → AllZip R xs ys → Any P xs → Any Q ys
Any-zip R P Q step xs ys zip (n, x, within, here, is) =
    let long = length_all_zip R xs ys zip in
    let lt : n < length ys = omega arith in
    let y : Spot = get_or ys n x in
    (n, y, lt, get_or_default ys n y x lt, step x y (subst (λ (z : Spot). R z y) here (AllZip-get_or R xs ys n x x zip within)) is)

pub Any-back : (R : Spot → Spot → Type 0) (P Q : Spot → Type 0) → ((x y : Spot) → R x y → Q y → P x) → (xs ys : List Spot) → AllZip R xs ys → Any Q ys → Any P xs
Any-back R P Q step xs ys zip (n, y, within, here, is) =
    let long = length_all_zip R xs ys zip in
    let lt : n < length xs = omega arith in
    let x : Spot = get_or xs n y in
    (n, x, lt, get_or_default xs n x y lt, step x y (subst (λ (z : Spot). R x z) here (AllZip-get_or R xs ys n y y zip lt)) is)

pub All-zip : (R : Spot → Spot → Type 0) (P Q : Spot → Type 0) → ((x y : Spot) → R x y → P x → Q y) → (xs ys : List Spot) → AllZip R xs ys → All P xs → All Q ys
All-zip R P Q step xs ys zip all = λ n d lt.
    let long = length_all_zip R xs ys zip in
    let within : n < length xs = omega arith in
    step (get_or xs n d) (get_or ys n d) (AllZip-get_or R xs ys n d d zip within) (all n d within)

-- what is so of the first list tells more of both
pub AllZip-with : (R S : Spot → Spot → Type 0) (P : Spot → Type 0) → ((x y : Spot) → P x → R x y → S x y) → (xs ys : List Spot) → All P xs → AllZip R xs ys → AllZip S xs ys
AllZip-with R S P step [] [] all zip = tt
AllZip-with R S P step [] (y ∷ ys) all zip = absurd zip
AllZip-with R S P step (x ∷ xs) [] all zip = absurd zip
AllZip-with R S P step (x ∷ xs) (y ∷ ys) all zip = (step x y (All-head P x xs all) zip.0, AllZip-with R S P step xs ys (All-tail P x xs all) zip.1)

pub AllZip-through : (R S T : Spot → Spot → Type 0) → ((x y z : Spot) → R x y → S y z → T x z) → (xs ys zs : List Spot) → AllZip R xs ys → AllZip S ys zs → AllZip T xs zs
AllZip-through R S T step [] [] [] r s = tt
AllZip-through R S T step [] [] (z ∷ zs) r s = absurd s
AllZip-through R S T step [] (y ∷ ys) zs r s = absurd r
AllZip-through R S T step (x ∷ xs) [] zs r s = absurd r
AllZip-through R S T step (x ∷ xs) (y ∷ ys) [] r s = absurd s
AllZip-through R S T step (x ∷ xs) (y ∷ ys) (z ∷ zs) r s = (step x y z r.0 s.0, AllZip-through R S T step xs ys zs r.1 s.1)

-- spots of the same places have the same shards, one by one
pub zip-shards : (R : Spot → Spot → Type 0) (xs ys : List Spot) → places_of ys ≡ places_of xs → AllZip R xs ys → AllZip (λ (x y : Spot). (y.shard ≡ x.shard) × R x y) xs ys
zip-shards R [] [] same zip = tt
zip-shards R [] (y ∷ ys) same zip = absurd zip
zip-shards R (x ∷ xs) [] same zip = absurd zip
zip-shards R (x ∷ xs) (y ∷ ys) same zip =
    let head : place y.shard y.worker ≡ place x.shard x.worker = cc in
    let rest : places_of ys ≡ places_of xs = cc in
    ((ap (λ (p : Place). p.shard) head, zip.0), zip-shards R xs ys rest zip.1)

-- Boxes.

-- the box of rows, some of which may be counted, becomes that of these and more
pub box-grown : (h : List Dimension) (may more : List Row) (old new : Spot) → ((r : Row) → Contains may r → IsCoordOf h r.at) → All (Contains may) more → IsGrown h (map (λ (r : Row). r.at) more) old new
    → IsBox h may old.set → IsBox h may new.set
box-grown h may more old new valid usable grown box = record {
  rows = box.rows ++ more;
  usable = All-append (Contains may) box.rows more box.usable usable;
  set_of = subst (λ (at : List Coord). IsSetOf h at new.set) (sym (map-append (λ (r : Row). r.at) box.rows more))
      (grown.set (map (λ (r : Row). r.at) box.rows) (All-map (IsCoordOf h) (λ (r : Row). r.at) box.rows (All-weaker (Contains may) (λ (r : Row). IsCoordOf h r.at) valid box.rows box.usable)) box.set_of);
}

-- what a box of coordinates becomes covers all that it covered, and the new coordinates
pub grown-covers : (h : List Dimension) (rows more : List Coord) (old new : Spot) → IsHierarchy h → All (IsCoordOf h) rows → All (IsCoordOf h) more → IsSetOf h rows old.set → IsGrown h more old new
    → HasGrown h old new × ((at : Coord) → IsCoordOf h at → Contains more at → covers h new.set at ≡ true)
grown-covers h rows more old new tall valid valid_more set_of grown =
    let now : IsSetOf h (rows ++ more) new.set = grown.set rows valid set_of in (
      (λ at c is. (covers-Covers h new.set at now.count c).1
          (IsSetOf-wider h rows (rows ++ more) old.set new.set at tall (All-append (IsCoordOf h) rows more valid valid_more) (λ x has. Contains-append_left rows more x has) set_of now c
          ((covers-Covers h old.set at set_of.count c).0 is))),
      λ at c has. (covers-Covers h new.set at now.count c).1 (IsSetOf-Covers h (rows ++ more) new.set at now (Contains-append_right rows more at has)),
    )

-- The boxes of a path's shards grow by a row.

abbrev pub rows_along : List ℕ → Row → ℕ → List Row
rows_along path row id = if is_among path id then row ∷ [] else []

pub along-rows : (path : List ℕ) (row : Row) (id : ℕ) → map (λ (r : Row). r.at) (rows_along path row id) ≡ along path row.at id
along-rows path row id = at (is_among path id)
  where
    at : (b : Bool) → map (λ (r : Row). r.at) (if b then row ∷ [] else []) ≡ (if b then row.at ∷ [] else [])
    at true = refl
    at false = refl

pub All-along : {A : Type 0} (P : A → Type 0) (x : A) → P x → (b : Bool) → All P (if b then x ∷ [] else [])
All-along P x is true = All-cons P x [] is (All-nil P)
All-along P x is false = All-nil P

-- the places stay
pub same-places : (h : List Dimension) (more : ℕ → List Coord) (before now : List Spot) → Grows h more before now → places_of now ≡ places_of before
same-places h more [] [] grows = refl
same-places h more [] (y ∷ ys) grows = absurd grows
same-places h more (x ∷ xs) [] grows = absurd grows
same-places h more (x ∷ xs) (y ∷ ys) grows =
    let g = grows.0 in
    let head : place y.shard y.worker ≡ place x.shard x.worker = (λ k. place (g.shard k) (g.worker k)) in
    let rest = same-places h more xs ys grows.1 in
    λ k. head k ∷ rest k

-- What a spot has become whose box is of rows that may be counted: its box is again of such rows, covers what it covered, and
-- covers the row where the spot's shard is on the path.
pub record HasWidened (h : List Dimension) (may : List Row) (path : List ℕ) (at : Coord) (old new : Spot) : Type 0 where
  pub shard : new.shard ≡ old.shard
  pub worker : new.worker ≡ old.worker
  pub box : IsBox h may new.set
  pub wider : HasGrown h old new
  pub on_path : IsTrue (is_among path old.shard) → covers h new.set at ≡ true

widened : (h : List Dimension) (may : List Row) (path : List ℕ) (row : Row) → IsHierarchy h → ((r : Row) → Contains may r → IsCoordOf h r.at) → Contains may row → (old new : Spot) → IsBox h may old.set → IsGrown h (along path row.at old.shard) old new
    → HasWidened h may path row.at old new
widened h may path row tall valid has old new box grown =
    let more = along path row.at old.shard in
    let c = valid row has in
    let covered = grown-covers h (map (λ (r : Row). r.at) box.rows) more old new tall
    (All-map (IsCoordOf h) (λ (r : Row). r.at) box.rows (All-weaker (Contains may) (λ (r : Row). IsCoordOf h r.at) valid box.rows box.usable))
    (All-along (IsCoordOf h) row.at c (is_among path old.shard)) box.set_of grown in
    record {
      shard = grown.shard;
      worker = grown.worker;
      box = box-grown h may (rows_along path row old.shard) old new valid (All-along (Contains may) row has (is_among path old.shard))
          (subst (λ (m : List Coord). IsGrown h m old new) (sym (along-rows path row old.shard)) grown) box;
      wider = covered.0;
      on_path = λ on. covered.1 row.at c (subst (λ (b : Bool). Contains (if b then row.at ∷ [] else []) row.at) (sym on) (0, omega arith, refl));
    }

pub all-widened : (h : List Dimension) (may : List Row) (path : List ℕ) (row : Row) → IsHierarchy h → ((r : Row) → Contains may r → IsCoordOf h r.at) → Contains may row → (before now : List Spot) → All (λ (spot : Spot). IsBox h may spot.set) before
    → Grows h (along path row.at) before now → AllZip (HasWidened h may path row.at) before now
all-widened h may path row tall valid has before now boxes grows =
    AllZip-with (λ (old new : Spot). IsGrown h (along path row.at old.shard) old new) (HasWidened h may path row.at) (λ (spot : Spot). IsBox h may spot.set)
    (λ old new box grown. widened h may path row tall valid has old new box grown) before now boxes grows
