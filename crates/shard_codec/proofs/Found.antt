-- What is read is the text of what it gives, and what follows it.
use Rattle.std.proofs.{Common.{◌≡◌, ℕ, zero, suc, ◌-◌, ◌+◌, ◌^◌, ◌≤◌, ◌<◌, Bool, true, false, cond, ltb, eqb, List, [], ◌∷◌, ◌++◌, length, get_or, take, drop, replicate, Result, Ok, Err, refl, sym, ap, subst, ◌∙◌, append_assoc, append-nil, arith, inl, inr}, Math.Facts.{Fits-of_lt, sfits_to_z}, lemmas.Bool.{cases_lt, eqb-true, ltb-false}, lemmas.Int.of_z-to_z, lemmas.List.{take_at, set_at, length-append, length-replicate, length-take, get_or-drop, get_or-take, get_or_past, nil_from_length, take-append-drop}, lemmas.List.Elements.All-from_recursion, lemmas.Nat.{be_bytes_4, be_bytes_8}, lemmas.Slice.Eq.bytes_eq-Decides}
use Rattle.std.specs.{Global.Vec, Int.{Width, w32, w64, byte_len, to_be_bytes, from_be_bytes, cast_signed, cast_unsigned}, List.{AllByRecursion, flat_map}, Prelude.{All, IfOk, slice_set}, Str.bytes_eq}
use Rattle.dim_hierarchy.specs.{Dimension.{Dimension, IsHierarchy}, Rows.IsRowOf, declared.row.Row.Row}
use Rattle.shard_codec.specs.{Reading.{◌>>=◌, GivesUnlessFull, mark_at, byte_at, number_at, is_leaf_concept, leaf_at, coord_at, row_at, rows_at, head_at, all_at_top, ended, decoded}, Spelled.{IsSpelled, AreSpelled}, Wire.{mark, id_wire, ids_wire, row_wire, head_wire, wire}, declared.fault.CodecFault.CodecFault, declared.fault.CodecFault.TheVariants.{Short, BadMark, BadCount, BadConcept, Trailing}}
use Rattle.shard_codec.proofs.{Again.all_at_top-splits, Leaves.{AreLeaves, ArePlaces, ArePlaces-found}}

-- Bytes.

abbrev pub IsBytes : List ℕ → Type 0
IsBytes bytes = (i : ℕ) → get_or bytes i 0 < 256

pub each-byte : (bytes : List ℕ) → All (λ b. b < 256) bytes → IsBytes bytes
each-byte bytes all i = elim (cases_lt i (length bytes)) [
  | inl lt ↦ all i 0 lt
  | inr past ↦ rw (get_or_past bytes i 0 past) (omega arith)
]

IsBytes-drop : (n : ℕ) (bytes : List ℕ) → IsBytes bytes → IsBytes (drop n bytes)
IsBytes-drop n bytes small i = rw get_or-drop (small (n + i))

IsBytes-take : (n : ℕ) (bytes : List ℕ) → IsBytes bytes → IsBytes (take n bytes)
IsBytes-take n bytes small i = elim (cases_lt i n) [
  | inl lt ↦ rw (get_or-take n bytes i 0 lt) (small i)
  | inr le ↦ rw (get_or_past (take n bytes) i 0 (omega (arith, length-take n bytes))) (omega arith)
]

-- the bytes are a text and what follows
record Begins (bytes text rest : List ℕ) : Type 0 where
  pub parts : bytes ≡ text ++ rest
  pub small : IsBytes rest

Begins-then : (a x b y c : List ℕ) → Begins a x b → Begins b y c → Begins a (x ++ y) c
Begins-then a x b y c p q = record { parts = p.parts ∙ ap (λ t. x ++ t) q.parts ∙ sym (append_assoc x y c); small = q.small }

-- Steps and tests that did not fail.

bind_ok : {A B : Type 0} (r : Result A CodecFault) (f : A → Result B CodecFault) (y : B) → (r >>= f) ≡ Ok y → (x : A) × (r ≡ Ok x) × (f x ≡ Ok y)
bind_ok (Ok x) f y e = (x, refl, e)
bind_ok (Err fault) f y e = absurd cc

unless_ok : {A : Type 0} (b : Bool) (fault : CodecFault) (r : Result A CodecFault) (y : A) → cond b (Err fault) r ≡ Ok y → (b ≡ false) × (r ≡ Ok y)
unless_ok true fault r y e = absurd cc
unless_ok false fault r y e = (refl, e)

where_ok : {A : Type 0} (b : Bool) (fault : CodecFault) (r : Result A CodecFault) (y : A) → cond b r (Err fault) ≡ Ok y → (b ≡ true) × (r ≡ Ok y)
where_ok true fault r y e = (refl, e)
where_ok false fault r y e = absurd cc

abbrev done : {A : Type 0} → A → Result A CodecFault
done x = Ok x

ok_is : {A : Type 0} (x y : A) → done x ≡ done y → x ≡ y
ok_is x y e = cc

-- Numbers.

-- how bytes stand for the numbers below a limit
record IsWide (w : Width) (limit : ℕ) : Type 0 where
  pub back : (bytes : List ℕ) → length bytes ≡ byte_len w → IsBytes bytes → to_be_bytes w (from_be_bytes w bytes) ≡ bytes
  pub below : (bytes : List ℕ) → IsBytes bytes → from_be_bytes w bytes < limit

wide32 : IsWide w32 (2 ^ 32)
wide32 = record {
  back = λ bytes len small. be_bytes_4 bytes _ len small refl;
  below = λ bytes small. omega (arith, small 0, small 1, small 2, small 3);
}

wide64 : IsWide w64 (2 ^ 64)
wide64 = record {
  back = λ bytes len small. be_bytes_8 bytes _ len small refl;
  below = λ bytes small. omega (arith, small 0, small 1, small 2, small 3, small 4, small 5, small 6, small 7);
}

record IsNumberRead (w : Width) (limit : ℕ) (bytes : List ℕ) (read : ℕ × List ℕ) : Type 0 where
  pub text : Begins bytes (to_be_bytes w read.0) read.1
  pub fits : read.0 < limit

number-found : (w : Width) (limit : ℕ) → IsWide w limit → (len : ℕ) (bytes : List ℕ) (read : ℕ × List ℕ) → IsBytes bytes → number_at w len bytes ≡ Ok read → IsNumberRead w limit bytes read
unfolding number_at
number-found w limit wide len bytes read small e =
    let front = take (byte_len w) bytes in
    let made : ℕ × List ℕ = (from_be_bytes w front, drop (byte_len w) bytes) in
    let long = unless_ok (ltb (length bytes) (byte_len w)) (Short len) (Ok made) read e in
    let enough : byte_len w ≤ length bytes = ltb-false _ _ long.0 in
    let back : to_be_bytes w (from_be_bytes w front) ≡ front =
    wide.back front (omega (arith, length-take (byte_len w) bytes)) (IsBytes-take (byte_len w) bytes small) in
    subst (IsNumberRead w limit bytes) (ok_is made read long.1)
    record {
      text = record {
        parts = sym (ap (λ t. t ++ drop (byte_len w) bytes) back ∙ take-append-drop (byte_len w) bytes);
        small = IsBytes-drop (byte_len w) bytes small;
      };
      fits = wide.below front (IsBytes-take (byte_len w) bytes small);
    }

-- The concepts of a row.

record IsLeafRead (h : List Dimension) (dim : ℕ) (bytes : List ℕ) (read : ℕ × List ℕ) : Type 0 where
  pub text : Begins bytes (id_wire read.0) read.1
  pub fits : read.0 < 2 ^ 32
  pub leaf : is_leaf_concept h dim read.0 ≡ true

leaf-found : (h : List Dimension) (len dim : ℕ) (bytes : List ℕ) (read : ℕ × List ℕ) → IsBytes bytes → leaf_at h len dim bytes ≡ Ok read → IsLeafRead h dim bytes read
unfolding leaf_at id_wire
leaf-found h len dim bytes read small e =
    let fault = λ (n : ℕ). BadConcept (len - length bytes) n in
    let id = bind_ok (number_at w32 len bytes) (λ n. cond (is_leaf_concept h dim n.0) (Ok n) (Err (fault n.0))) read e in
    let number = number-found w32 (2 ^ 32) wide32 len bytes id.0 small id.1 in
    let test = where_ok (is_leaf_concept h dim id.0.0) (fault id.0.0) (Ok id.0) read id.2 in
    subst (IsLeafRead h dim bytes) (ok_is id.0 read test.1) record { text = number.text; fits = number.fits; leaf = test.0 }

-- leaf concepts that come between those that are in their places and the rest
record AreLeavesRead (h : List Dimension) (dim n : ℕ) (front rest bytes : List ℕ) (read : List ℕ × List ℕ) : Type 0 where
  pub ids : List ℕ
  pub count : length ids ≡ n
  pub leaves : AreLeaves h dim ids
  pub at : read.0 ≡ (front ++ ids) ++ rest
  pub text : Begins bytes (ids_wire ids) read.1

leaves_behind : (h : List Dimension) (dim n : ℕ) (front rest bytes : List ℕ) (id : ℕ × List ℕ) (read : List ℕ × List ℕ) → IsLeafRead h dim bytes id
    → AreLeavesRead h (dim + 1) n (front ++ id.0 ∷ []) rest id.1 read → AreLeavesRead h dim (suc n) front rest bytes read
leaves_behind h dim n front rest bytes id read first others = record {
  ids = id.0 ∷ others.ids;
  count = ap suc others.count;
  leaves = (first.fits, first.leaf, others.leaves);
  at = others.at ∙ ap (λ t. t ++ rest) (append_assoc front (id.0 ∷ []) others.ids);
  text = Begins-then bytes (id_wire id.0) id.1 (ids_wire others.ids) read.1 first.text others.text;
}

place_set : (front places rest : List ℕ) (place id dim : ℕ) → length front ≡ dim → slice_set (front ++ ((place ∷ places) ++ rest)) dim id ≡ (front ++ id ∷ []) ++ (places ++ rest)
place_set front places rest place id dim count = set_at front place (places ++ rest) id dim count ∙ sym (append_assoc front (id ∷ []) (places ++ rest))

coord-found : (h : List Dimension) (len dim : ℕ) (front places rest bytes : List ℕ) (read : List ℕ × List ℕ) → length front ≡ dim → IsBytes bytes
    → coord_at h len (length places) dim (front ++ (places ++ rest)) bytes ≡ Ok read → AreLeavesRead h dim (length places) front rest bytes read
unfolding coord_at
coord-found h len dim front [] rest bytes read count small e =
    let made : List ℕ × List ℕ = (front ++ rest, bytes) in
    subst (AreLeavesRead h dim 0 front rest bytes) (ok_is made read e)
    record { ids = []; count = refl; leaves = tt; at = ap (λ t. t ++ rest) (sym (append-nil front)); text = record { parts = refl; small = small } }
coord-found h len dim front (place ∷ places) rest bytes read count small e =
    let next = λ (at : List ℕ) (id : ℕ × List ℕ). coord_at h len (length places) (dim + 1) at id.1 in
    let id = bind_ok (leaf_at h len dim bytes) (λ id. next (slice_set (front ++ ((place ∷ places) ++ rest)) dim id.0) id) read e in
    let first = leaf-found h len dim bytes id.0 small id.1 in
    let longer : length (front ++ id.0.0 ∷ []) ≡ dim + 1 = omega (arith, length-append front (id.0.0 ∷ []), count) in
    leaves_behind h dim (length places) front rest bytes id.0 read first
    (coord-found h len (dim + 1) (front ++ id.0.0 ∷ []) places rest id.0.1 read longer first.text.small
    (subst (λ at. next at id.0 ≡ Ok read) (place_set front places rest place id.0.0 dim count) id.2))

coords-found : (h : List Dimension) (len : ℕ) (bytes : List ℕ) (read : List ℕ × List ℕ) → length h ≤ 8 → IsBytes bytes
    → coord_at h len (length h) 0 all_at_top bytes ≡ Ok read → AreLeavesRead h 0 (length h) [] (replicate (8 - length h) 0) bytes read
coords-found h len bytes read few small e =
    let places = replicate (length h) 0 in
    let rest = replicate (8 - length h) 0 in
    let count : length places ≡ length h = length-replicate (length h) 0 in
    let split : coord_at h len (length places) 0 (places ++ rest) bytes ≡ Ok read =
    ap (λ n. coord_at h len n 0 (places ++ rest) bytes) count
    ∙ sym (ap (λ at. coord_at h len (length h) 0 at bytes) (all_at_top-splits (length h) few))
    ∙ e in
    subst (λ n. AreLeavesRead h 0 n [] rest bytes read) count (coord-found h len 0 [] places rest bytes read refl small split)

-- Rows.

record IsRowRead (h : List Dimension) (bytes : List ℕ) (read : Row × List ℕ) : Type 0 where
  pub text : Begins bytes (row_wire (length h) read.0) read.1
  pub row : IsSpelled h read.0

-- a row of three fields that are read one after the other
row_of_fields : (h : List Dimension) (bytes : List ℕ) (number : ℕ × List ℕ) (at : List ℕ × List ℕ) (measures : ℕ × List ℕ) (read : Row × List ℕ) → IsHierarchy h
    → IsNumberRead w64 (2 ^ 64) bytes number → AreLeavesRead h 0 (length h) [] (replicate (8 - length h) 0) number.1 at → IsNumberRead w64 (2 ^ 64) at.1 measures
    → done (record { no = number.0; at = record { at = at.0 }; measures = cast_signed w64 measures.0 }, measures.1) ≡ Ok read → IsRowRead h bytes read
unfolding row_wire
row_of_fields h bytes number at measures read w first places last e =
    let n = length h in
    let few = w.few in
    let count = places.count in
    let row : Row = record { no = number.0; at = record { at = at.0 }; measures = cast_signed w64 measures.0 } in
    let ids : take n at.0 ≡ places.ids = ap (take n) places.at ∙ take_at places.ids (replicate (8 - n) 0) n count in
    let bits : cast_unsigned w64 (cast_signed w64 measures.0) ≡ measures.0 = of_z-to_z w64 measures.0 last.fits in
    let same : row_wire n row ≡ to_be_bytes w64 number.0 ++ (ids_wire places.ids ++ to_be_bytes w64 measures.0) =
    ap (λ t. to_be_bytes w64 number.0 ++ (ids_wire t ++ to_be_bytes w64 (cast_unsigned w64 (cast_signed w64 measures.0)))) ids
    ∙ ap (λ m. to_be_bytes w64 number.0 ++ (ids_wire places.ids ++ to_be_bytes w64 m)) bits in
    let behind = Begins-then number.1 (ids_wire places.ids) at.1 (to_be_bytes w64 measures.0) measures.1 places.text last.text in
    let parts = Begins-then bytes (to_be_bytes w64 number.0) number.1 (ids_wire places.ids ++ to_be_bytes w64 measures.0) measures.1 first.text behind in
    let are : ArePlaces h at.0 = record {
      count = ap length ids ∙ count;
      leaves = subst (AreLeaves h 0) (sym ids) places.leaves;
      rest = places.at ∙ ap (λ t. t ++ replicate (8 - n) 0) (sym ids);
    } in
    subst (IsRowRead h bytes) (ok_is (row, measures.1) read e)
    record {
      text = subst (λ t. Begins bytes t measures.1) (sym same) parts;
      row = record {
        valid = ArePlaces-found h row.at w are;
        places = omega (arith, ap length places.at, length-append places.ids (replicate (8 - n) 0), length-replicate {A = ℕ} (8 - n) 0);
        number = first.fits;
        measures = sfits_to_z {w = w64} {n = measures.0} (Fits-of_lt {w = w64} {n = measures.0} last.fits);
      };
    }

row-found : (h : List Dimension) (len : ℕ) (bytes : List ℕ) (read : Row × List ℕ) → IsHierarchy h → IsBytes bytes → row_at h len bytes ≡ Ok read → IsRowRead h bytes read
unfolding row_at
row-found h len bytes read w small e =
    let made = λ (number : ℕ × List ℕ) (at : List ℕ × List ℕ) (measures : ℕ × List ℕ). done (record { no = number.0; at = record { at = at.0 }; measures = cast_signed w64 measures.0 }, measures.1) in
    let number = bind_ok (number_at w64 len bytes) (λ number. coord_at h len (length h) 0 all_at_top number.1 >>= λ at. number_at w64 len at.1 >>= λ measures. made number at measures) read e in
    let at = bind_ok (coord_at h len (length h) 0 all_at_top number.0.1) (λ at. number_at w64 len at.1 >>= λ measures. made number.0 at measures) read number.2 in
    let measures = bind_ok (number_at w64 len at.0.1) (λ measures. made number.0 at.0 measures) read at.2 in
    let first = number-found w64 (2 ^ 64) wide64 len bytes number.0 small number.1 in
    let places = coords-found h len number.0.1 at.0 w.few first.text.small at.1 in
    let last = number-found w64 (2 ^ 64) wide64 len at.0.1 measures.0 places.text.small measures.1 in
    row_of_fields h bytes number.0 at.0 measures.0 read w first places last measures.2

record AreRowsRead (h : List Dimension) (n : ℕ) (front : List Row) (bytes : List ℕ) (read : List Row × List ℕ) : Type 0 where
  pub rows : List Row
  pub count : length rows ≡ n
  pub whole : read.0 ≡ front ++ rows
  pub each : AllByRecursion (IsSpelled h) rows
  pub text : Begins bytes (flat_map (row_wire (length h)) rows) read.1

rows-found : (h : List Dimension) (len count : ℕ) (front : List Row) (bytes : List ℕ) (read : List Row × List ℕ) → IsHierarchy h → IsBytes bytes
    → rows_at h len count front bytes ≡ Ok read → AreRowsRead h count front bytes read
unfolding rows_at
rows-found h len zero front bytes read w small e =
    let made : List Row × List ℕ = (front, bytes) in
    subst (AreRowsRead h 0 front bytes) (ok_is made read e)
    record { rows = []; count = refl; whole = sym (append-nil front); each = tt; text = record { parts = refl; small = small } }
rows-found h len (suc count) front bytes read w small e =
    let row = bind_ok (row_at h len bytes) (λ row. rows_at h len count (front ++ row.0 ∷ []) row.1) read e in
    let first = row-found h len bytes row.0 w small row.1 in
    let others = rows-found h len count (front ++ row.0.0 ∷ []) row.0.1 read w first.text.small row.2 in
    record {
      rows = row.0.0 ∷ others.rows;
      count = ap suc others.count;
      whole = others.whole ∙ append_assoc front (row.0.0 ∷ []) others.rows;
      each = (first.row, others.each);
      text = Begins-then bytes (row_wire (length h) row.0.0) row.0.1 (flat_map (row_wire (length h)) others.rows) read.1 first.text others.text;
    }

-- The whole.

mark-found : (len : ℕ) (bytes read : List ℕ) → IsBytes bytes → mark_at len bytes ≡ Ok read → Begins bytes mark read
unfolding mark_at
mark-found len bytes read small e =
    let long = unless_ok (ltb (length bytes) 8) (Short len) (cond (bytes_eq (take 8 bytes) mark) (Ok (drop 8 bytes)) (Err BadMark)) read e in
    let test = where_ok (bytes_eq (take 8 bytes) mark) BadMark (Ok (drop 8 bytes)) read long.1 in
    let same : take 8 bytes ≡ mark = (bytes_eq-Decides (take 8 bytes) mark).0 test.0 in
    subst (λ rest. Begins bytes mark rest) (ok_is (drop 8 bytes) read test.1)
    record { parts = sym (ap (λ t. t ++ drop 8 bytes) (sym same) ∙ take-append-drop 8 bytes); small = IsBytes-drop 8 bytes small }

byte-found : (len : ℕ) (bytes : List ℕ) (read : ℕ × List ℕ) → IsBytes bytes → byte_at len bytes ≡ Ok read → Begins bytes (read.0 ∷ []) read.1
unfolding byte_at
byte-found len [] read small e = absurd cc
byte-found len (b ∷ bytes) read small e =
    let made : ℕ × List ℕ = (b, bytes) in
    subst (λ (r : ℕ × List ℕ). Begins (b ∷ bytes) (r.0 ∷ []) r.1) (ok_is made read e) record { parts = refl; small = λ i. small (suc i) }

record IsHeadRead (dims : ℕ) (bytes : List ℕ) (read : ℕ × List ℕ) : Type 0 where
  pub text : Begins bytes (head_wire dims read.0) read.1
  pub fits : read.0 < 2 ^ 64

head-found : (dims len : ℕ) (bytes : List ℕ) (read : ℕ × List ℕ) → IsBytes bytes → head_at dims len bytes ≡ Ok read → IsHeadRead dims bytes read
unfolding head_at head_wire
head-found dims len bytes read small e =
    let count = λ (told : ℕ × List ℕ). cond (eqb told.0 dims) (number_at w64 len told.1) (Err (BadCount told.0 dims)) in
    let rest = bind_ok (mark_at len bytes) (λ rest. byte_at len rest >>= count) read e in
    let told = bind_ok (byte_at len rest.0) count read rest.2 in
    let test = where_ok (eqb told.0.0 dims) (BadCount told.0.0 dims) (number_at w64 len told.0.1) read told.2 in
    let marked = mark-found len bytes rest.0 small rest.1 in
    let byte : Begins rest.0 (dims ∷ []) told.0.1 =
    subst (λ b. Begins rest.0 (b ∷ []) told.0.1) (eqb-true told.0.0 dims test.0) (byte-found len rest.0 told.0 marked.small told.1) in
    let number = number-found w64 (2 ^ 64) wide64 len told.0.1 read byte.small test.1 in
    record {
      text = Begins-then bytes mark rest.0 (dims ∷ to_be_bytes w64 read.0) read.1 marked (Begins-then rest.0 (dims ∷ []) told.0.1 (to_be_bytes w64 read.0) read.1 byte number.text);
      fits = number.fits;
    }

-- the bytes are the text of rows of the hierarchy
pub record IsFound (h : List Dimension) (bytes : List ℕ) (rows : List Row) : Type 0 where
  pub text : bytes ≡ wire (length h) rows
  pub spelled : AreSpelled h rows

nothing_behind : (dims n : ℕ) (rows : List Row) (bytes rest : List ℕ) → Begins bytes (head_wire dims n ++ flat_map (row_wire dims) rows) rest → length rows ≡ n → length rest ≡ 0 → bytes ≡ wire dims rows
nothing_behind dims n rows bytes rest both count none =
    let texts = flat_map (row_wire dims) rows in
    both.parts
    ∙ ap (λ r. (head_wire dims n ++ texts) ++ r) (nil_from_length rest none)
    ∙ append-nil (head_wire dims n ++ texts)
    ∙ ap (λ k. head_wire dims k ++ texts) (sym count)

pub decoded-found : (h : List Dimension) (bytes : List ℕ) (rows : List Row) → IsHierarchy h → IsBytes bytes → decoded h bytes ≡ Ok rows → IsFound h bytes rows
unfolding decoded
decoded-found h bytes rows w small e =
    let len = length bytes in
    let dims = length h in
    let count = bind_ok (head_at dims len bytes) (λ count. rows_at h len count.0 [] count.1 >>= ended len) rows e in
    let read = bind_ok (rows_at h len count.0.0 [] count.0.1) (ended len) rows count.2 in
    let test = where_ok (eqb (length read.0.1) 0) (Trailing (len - length read.0.1)) (Ok read.0.0) rows read.2 in
    let head = head-found dims len bytes count.0 small count.1 in
    let all = rows-found h len count.0.0 [] count.0.1 read.0 w head.text.small read.1 in
    let rows_are : all.rows ≡ rows = sym all.whole ∙ ok_is read.0.0 rows test.1 in
    let both = Begins-then bytes (head_wire dims count.0.0) count.0.1 (flat_map (row_wire dims) all.rows) read.0.1 head.text all.text in
    subst (IsFound h bytes) rows_are
    record {
      text = nothing_behind dims count.0.0 all.rows bytes read.0.1 both all.count (eqb-true _ _ test.0);
      spelled = record { few = omega (arith, all.count, head.fits); each = All-from_recursion (IsSpelled h) all.rows all.each };
    }

-- What a call gave, where it gave rows.

pub given_text : (h : List Dimension) (bytes : List ℕ) (answer : Result (Vec Row) CodecFault) → IsHierarchy h → IsBytes bytes → GivesUnlessFull (λ rows. rows.items) answer (decoded h bytes)
    → IfOk answer (λ rows. bytes ≡ wire (length h) rows.items)
given_text h bytes (Ok rows) w small gives = (decoded-found h bytes rows.items w small gives).text
given_text h bytes (Err fault) w small gives = tt

pub given_rows : (h : List Dimension) (bytes : List ℕ) (answer : Result (Vec Row) CodecFault) → IsHierarchy h → IsBytes bytes → GivesUnlessFull (λ rows. rows.items) answer (decoded h bytes)
    → IfOk answer (λ rows. All (IsRowOf h) rows.items)
given_rows h bytes (Ok rows) w small gives = λ k d lt. ((decoded-found h bytes rows.items w small gives).spelled.each k d lt).valid
given_rows h bytes (Err fault) w small gives = tt
