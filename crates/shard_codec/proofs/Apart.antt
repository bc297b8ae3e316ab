-- Rows of the format, of whatever hierarchy: a text is the text of one list of rows, and no first part of another text.
use Rattle.std.proofs.{Common.{◌≡◌, ℕ, ◌+◌, ◌-◌, ◌^◌, ◌<◌, List, [], ◌∷◌, ◌++◌, length, get_or, take, drop, replicate, Result, Ok, refl, sym, ap, subst, ◌∙◌, append_assoc, append-nil, arith}, lemmas.Int.to_z-of_z, lemmas.List.{drop_at, length-take, take-append-drop}, lemmas.List.Elements.{All-append, All-cons, All-head, All-nil, All-replicate, All-tail, All-take, All-weaker, recursion_from_All}, lemmas.Nat.from_be_bytes-to_be_bytes_4}
use Rattle.std.specs.{Int.{Width, w32, w64, to_be_bytes, cast_signed, cast_unsigned}, List.{AllByRecursion, flat_map}, Prelude.{ℤ, All}}
use Rattle.dim_hierarchy.specs.{Dimension.Dimension, declared.row.Row.Row}
use Rattle.shard_codec.specs.{Reading.number_at, Spelled.{AreOfFormat, AreSpelled, IsOfFormat, IsSpelled}, Wire.{id_wire, ids_wire, row_wire, head_wire, wire}, declared.fault.CodecFault.CodecFault}
use Rattle.shard_codec.proofs.{Again.{number-again, of_z-bound, u64-again}, Leaves.{AreLeaves, ArePlaces-of}}

-- Rows of a hierarchy.

leaves-fit : (h : List Dimension) (dim : ℕ) (ids : List ℕ) → AreLeaves h dim ids → All (λ id. id < 2 ^ 32) ids
leaves-fit h dim [] leaves = All-nil (λ (id : ℕ). id < 2 ^ 32)
leaves-fit h dim (id ∷ ids) leaves = All-cons (λ (id : ℕ). id < 2 ^ 32) id ids leaves.0 (leaves-fit h (dim + 1) ids leaves.2)

row-of-format : (h : List Dimension) (row : Row) → IsSpelled h row → IsOfFormat (length h) row
row-of-format h row w =
    let are = ArePlaces-of h row.at w.valid w.places in
    let ids = take (length h) row.at.at in
    let rest = replicate (8 - length h) 0 in
    record {
      places = w.places;
      ids = subst (All (λ (id : ℕ). id < 2 ^ 32)) (sym are.rest)
          (All-append (λ (id : ℕ). id < 2 ^ 32) ids rest (leaves-fit h 0 ids are.leaves) (All-replicate (λ (id : ℕ). id < 2 ^ 32) (8 - length h) 0 (omega arith)));
      rest = ap (drop (length h)) are.rest ∙ drop_at ids rest (length h) are.count;
      number = w.number;
      measures = w.measures;
    }

pub of-format : (h : List Dimension) (rows : List Row) → AreSpelled h rows → AreOfFormat (length h) rows
of-format h rows w = record { few = w.few; each = All-weaker (IsSpelled h) (IsOfFormat (length h)) (λ row spelled. row-of-format h row spelled) rows w.each }

-- Two texts that are alike begin with the same field, and the same follows.

abbrev done : {A : Type 0} → A → Result A CodecFault
done x = Ok x

ok-same : {A : Type 0} (x y : A) → done x ≡ done y → x ≡ y
ok-same x y same = cc

read-same : (w : Width) (n m : ℕ) (a b s t : List ℕ) → number_at w 0 s ≡ Ok (n, a) → number_at w 0 t ≡ Ok (m, b) → s ≡ t → (n ≡ m) × (a ≡ b)
read-same w n m a b s t first second same =
    let one : ℕ × List ℕ = (n, a) in
    let two : ℕ × List ℕ = (m, b) in
    let both : one ≡ two = ok-same one two (sym first ∙ ap (number_at w 0) same ∙ second) in
    (ap (λ (p : ℕ × List ℕ). p.0) both, ap (λ (p : ℕ × List ℕ). p.1) both)

u64-same : (n m : ℕ) (a b : List ℕ) → n < 2 ^ 64 → m < 2 ^ 64 → to_be_bytes w64 n ++ a ≡ to_be_bytes w64 m ++ b → (n ≡ m) × (a ≡ b)
u64-same n m a b fits fits2 same = read-same w64 n m a b (to_be_bytes w64 n ++ a) (to_be_bytes w64 m ++ b) (u64-again 0 n a fits) (u64-again 0 m b fits2) same

id-same : (n m : ℕ) (a b : List ℕ) → n < 2 ^ 32 → m < 2 ^ 32 → id_wire n ++ a ≡ id_wire m ++ b → (n ≡ m) × (a ≡ b)
unfolding id_wire
id-same n m a b fits fits2 same =
    read-same w32 n m a b (to_be_bytes w32 n ++ a) (to_be_bytes w32 m ++ b) (number-again w32 0 n a refl (from_be_bytes-to_be_bytes_4 n fits))
    (number-again w32 0 m b refl (from_be_bytes-to_be_bytes_4 m fits2)) same

ids-same : (xs ys a b : List ℕ) → length xs ≡ length ys → All (λ id. id < 2 ^ 32) xs → All (λ id. id < 2 ^ 32) ys → ids_wire xs ++ a ≡ ids_wire ys ++ b → (xs ≡ ys) × (a ≡ b)
ids-same [] [] a b count fit fit2 same = (refl, same)
ids-same [] (y ∷ ys) a b count fit fit2 same = absurd (omega (arith, count))
ids-same (x ∷ xs) [] a b count fit fit2 same = absurd (omega (arith, count))
ids-same (x ∷ xs) (y ∷ ys) a b count fit fit2 same =
    let first = id-same x y (ids_wire xs ++ a) (ids_wire ys ++ b) (All-head (λ (id : ℕ). id < 2 ^ 32) x xs fit) (All-head (λ (id : ℕ). id < 2 ^ 32) y ys fit2)
    (sym (append_assoc (id_wire x) (ids_wire xs) a) ∙ same ∙ append_assoc (id_wire y) (ids_wire ys) b) in
    let others = ids-same xs ys a b (omega (arith, count)) (All-tail (λ (id : ℕ). id < 2 ^ 32) x xs fit) (All-tail (λ (id : ℕ). id < 2 ^ 32) y ys fit2) first.1 in
    (ap (λ (n : ℕ). n ∷ xs) first.0 ∙ ap (λ (ns : List ℕ). y ∷ ns) others.0, others.1)

-- Rows.

row-same : (x y : Row) → x.no ≡ y.no → x.at.at ≡ y.at.at → x.measures ≡ y.measures → x ≡ y
row-same x y number at measures =
    let first : x ≡ record { no = y.no; at = x.at; measures = x.measures } = ap (λ (n : ℕ). record { no = n; at = x.at; measures = x.measures }) number in
    let second : record { no = y.no; at = x.at; measures = x.measures } ≡ record { no = y.no; at = y.at; measures = x.measures } =
    ap (λ (ids : List ℕ). record { no = y.no; at = record { at = ids }; measures = x.measures }) at in
    let third : record { no = y.no; at = y.at; measures = x.measures } ≡ y = ap (λ (z : ℤ). record { no = y.no; at = y.at; measures = z }) measures in
    first ∙ second ∙ third

fields : (number ids measures rest : List ℕ) → (number ++ (ids ++ measures)) ++ rest ≡ number ++ (ids ++ (measures ++ rest))
fields number ids measures rest = append_assoc number (ids ++ measures) rest ∙ ap (λ t. number ++ t) (append_assoc ids measures rest)

rows-begin : (dims : ℕ) (x y : Row) (a b : List ℕ) → IsOfFormat dims x → IsOfFormat dims y → row_wire dims x ++ a ≡ row_wire dims y ++ b → (x ≡ y) × (a ≡ b)
unfolding row_wire
rows-begin dims x y a b fits fits2 same =
    let measures = to_be_bytes w64 (cast_unsigned w64 x.measures) in
    let measure2 = to_be_bytes w64 (cast_unsigned w64 y.measures) in
    let ids = take dims x.at.at in
    let ids2 = take dims y.at.at in
    let number = u64-same x.no y.no (ids_wire ids ++ (measures ++ a)) (ids_wire ids2 ++ (measure2 ++ b)) fits.number fits2.number
    (sym (fields (to_be_bytes w64 x.no) (ids_wire ids) measures a) ∙ same ∙ fields (to_be_bytes w64 y.no) (ids_wire ids2) measure2 b) in
    let count : length ids ≡ length ids2 = omega (arith, length-take dims x.at.at, length-take dims y.at.at, fits.places, fits2.places) in
    let places = ids-same ids ids2 (measures ++ a) (measure2 ++ b) count (All-take (λ (id : ℕ). id < 2 ^ 32) dims x.at.at fits.ids)
    (All-take (λ (id : ℕ). id < 2 ^ 32) dims y.at.at fits2.ids) number.1 in
    let last = u64-same (cast_unsigned w64 x.measures) (cast_unsigned w64 y.measures) a b (of_z-bound x.measures fits.measures) (of_z-bound y.measures fits2.measures) places.1 in
    let at : x.at.at ≡ y.at.at =
    sym (take-append-drop dims x.at.at) ∙ ap (λ t. t ++ drop dims x.at.at) places.0 ∙ ap (λ t. ids2 ++ t) (fits.rest ∙ sym fits2.rest) ∙ take-append-drop dims y.at.at in
    let amount : x.measures ≡ y.measures =
    sym (to_z-of_z w64 x.measures fits.measures) ∙ ap (cast_signed w64) last.0 ∙ to_z-of_z w64 y.measures fits2.measures in
    (row-same x y number.0 at amount, last.1)

rows-same : (dims : ℕ) (xs ys : List Row) (a b : List ℕ) → length xs ≡ length ys → AllByRecursion (IsOfFormat dims) xs → AllByRecursion (IsOfFormat dims) ys
    → flat_map (row_wire dims) xs ++ a ≡ flat_map (row_wire dims) ys ++ b → (xs ≡ ys) × (a ≡ b)
rows-same dims [] [] a b count fit fit2 same = (refl, same)
rows-same dims [] (y ∷ ys) a b count fit fit2 same = absurd (omega (arith, count))
rows-same dims (x ∷ xs) [] a b count fit fit2 same = absurd (omega (arith, count))
rows-same dims (x ∷ xs) (y ∷ ys) a b count fit fit2 same =
    let texts = flat_map (row_wire dims) in
    let first = rows-begin dims x y (texts xs ++ a) (texts ys ++ b) fit.0 fit2.0 (sym (append_assoc (row_wire dims x) (texts xs) a) ∙ same ∙ append_assoc (row_wire dims y) (texts ys) b) in
    let others = rows-same dims xs ys a b (omega (arith, count)) fit.1 fit2.1 first.1 in
    (ap (λ (r : Row). r ∷ xs) first.0 ∙ ap (λ (rs : List Row). y ∷ rs) others.0, others.1)

-- The whole.

head-same : (dims more n m : ℕ) (a b : List ℕ) → n < 2 ^ 64 → m < 2 ^ 64 → head_wire dims n ++ a ≡ head_wire more m ++ b → (dims ≡ more) × (n ≡ m) × (a ≡ b)
unfolding head_wire
head-same dims more n m a b few few2 same =
    let behind : dims ∷ (to_be_bytes w64 n ++ a) ≡ more ∷ (to_be_bytes w64 m ++ b) = ap (drop 8) same in
    let count = u64-same n m a b few few2 (ap (drop 1) behind) in
    (ap (λ (t : List ℕ). get_or t 0 0) behind, count.0, count.1)

whole-same : (dims more : ℕ) (xs ys : List Row) (a b : List ℕ) → AreOfFormat dims xs → AreOfFormat more ys → wire dims xs ++ a ≡ wire more ys ++ b
    → (dims ≡ more) × (xs ≡ ys) × (a ≡ b)
whole-same dims more xs ys a b fit fit2 same =
    let texts = flat_map (row_wire dims) xs in
    let texts2 = flat_map (row_wire more) ys in
    let head = head-same dims more (length xs) (length ys) (texts ++ a) (texts2 ++ b) fit.few fit2.few
    (sym (append_assoc (head_wire dims (length xs)) texts a) ∙ same ∙ append_assoc (head_wire more (length ys)) texts2 b) in
    let one : texts ++ a ≡ flat_map (row_wire dims) ys ++ b = head.2 ∙ ap (λ (k : ℕ). flat_map (row_wire k) ys ++ b) (sym head.0) in
    let each : All (IsOfFormat dims) ys = subst (λ (k : ℕ). All (IsOfFormat k) ys) (sym head.0) fit2.each in
    let rows = rows-same dims xs ys a b head.1 (recursion_from_All (IsOfFormat dims) xs fit.each) (recursion_from_All (IsOfFormat dims) ys each) one in
    (head.0, rows.0, rows.1)

pub distinct : (dims more : ℕ) (xs ys : List Row) → AreOfFormat dims xs → AreOfFormat more ys → wire dims xs ≡ wire more ys → (dims ≡ more) × (xs ≡ ys)
distinct dims more xs ys fit fit2 same =
    let both = whole-same dims more xs ys [] [] fit fit2 (ap (λ (t : List ℕ). t ++ []) same) in
    (both.0, both.1)

pub no_prefix : (dims more : ℕ) (xs ys : List Row) (rest : List ℕ) → AreOfFormat dims xs → AreOfFormat more ys → wire more ys ≡ wire dims xs ++ rest → rest ≡ []
no_prefix dims more xs ys rest fit fit2 same = (whole-same dims more xs ys rest [] fit fit2 (sym same ∙ sym (append-nil (wire more ys)))).2
