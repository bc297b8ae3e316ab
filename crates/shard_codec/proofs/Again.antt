-- What is written is read again, whatever follows.
use Rattle.std.proofs.{Common.{◌≡◌, ℕ, ◌-◌, ◌+◌, ◌^◌, ◌≤◌, ◌<◌, true, false, cond, ltb, List, [], ◌∷◌, ◌++◌, length, take, replicate, Result, Ok, Err, refl, sym, ap, ◌∙◌, append_assoc, append-nil, arith}, lemmas.Bool.{le-ltb, eq-eqb}, lemmas.Int.{ints, to_z-of_z}, lemmas.List.{take_at, drop_at, set_at, length-append, length-replicate, replicate-append-replicate}, lemmas.List.Elements.recursion_from_All, lemmas.Nat.{from_be_bytes-to_be_bytes_4, from_be_bytes-to_be_bytes_8}}
use Rattle.std.specs.{Int.{Width, w32, w64, byte_len, to_be_bytes, from_be_bytes, cast_unsigned}, List.{AllByRecursion, flat_map}, Prelude.{ℤ, FitsSigned, slice_set}}
use Rattle.dim_hierarchy.specs.{Dimension.Dimension, declared.row.Row.Row}
use Rattle.shard_codec.specs.{Reading.{◌>>=◌, mark_at, byte_at, number_at, is_leaf_concept, leaf_at, coord_at, row_at, rows_at, head_at, all_at_top, ended, decoded}, Spelled.{IsSpelled, AreSpelled}, Wire.{mark, id_wire, ids_wire, row_wire, head_wire, wire}, declared.fault.CodecFault.CodecFault, declared.fault.CodecFault.TheVariants.BadConcept}
use Rattle.shard_codec.proofs.Leaves.{AreLeaves, ArePlaces-of}

-- Numbers.

pub number-again : (w : Width) (len n : ℕ) (rest : List ℕ) → length (to_be_bytes w n) ≡ byte_len w → from_be_bytes w (to_be_bytes w n) ≡ n
    → number_at w len (to_be_bytes w n ++ rest) ≡ Ok (n, rest)
unfolding number_at
number-again w len n rest wide back =
    let long : ltb (length (to_be_bytes w n ++ rest)) (byte_len w) ≡ false = le-ltb _ _ (omega (arith, length-append (to_be_bytes w n) rest)) in
    rw (long, take_at (to_be_bytes w n) rest (byte_len w) wide, drop_at (to_be_bytes w n) rest (byte_len w) wide, back) refl

pub u64-again : (len n : ℕ) (rest : List ℕ) → n < 2 ^ 64 → number_at w64 len (to_be_bytes w64 n ++ rest) ≡ Ok (n, rest)
u64-again len n rest fits = number-again w64 len n rest refl (from_be_bytes-to_be_bytes_8 n fits)

-- The concepts of a row.

leaf-again : (h : List Dimension) (len dim id : ℕ) (rest : List ℕ) → id < 2 ^ 32 → is_leaf_concept h dim id ≡ true → leaf_at h len dim (id_wire id ++ rest) ≡ Ok (id, rest)
unfolding leaf_at id_wire
leaf-again h len dim id rest fits leaf =
    let at = len - length (to_be_bytes w32 id ++ rest) in
    ap (λ r. r >>= λ n. cond (is_leaf_concept h dim n.0) (Ok n) (Err (BadConcept at n.0))) (number-again w32 len id rest refl (from_be_bytes-to_be_bytes_4 id fits))
    ∙ ap (λ b. cond b (Ok (id, rest)) (Err (BadConcept at id))) leaf

coord-again : (h : List Dimension) (len pad dim : ℕ) (done ids places rest : List ℕ) → length done ≡ dim → AreLeaves h dim ids → length places ≡ length ids
    → coord_at h len (length ids) dim (done ++ (places ++ replicate pad 0)) (ids_wire ids ++ rest) ≡ Ok ((done ++ ids) ++ replicate pad 0, rest)
unfolding coord_at
coord-again h len pad dim done [] [] rest count leaves same = ap (λ at. Ok (at ++ replicate pad 0, rest)) (sym (append-nil done))
coord-again h len pad dim done [] (p ∷ places) rest count leaves same = absurd (omega (arith, same))
coord-again h len pad dim done (id ∷ ids) [] rest count leaves same = absurd (omega (arith, same))
coord-again h len pad dim done (id ∷ ids) (p ∷ places) rest count leaves same =
    let fewer : length places ≡ length ids = omega (arith, same) in
    let longer : length (done ++ id ∷ []) ≡ dim + 1 = omega (arith, length-append done (id ∷ []), count) in
    let at = done ++ ((p ∷ places) ++ replicate pad 0) in
    let regrouped : ids_wire (id ∷ ids) ++ rest ≡ id_wire id ++ (ids_wire ids ++ rest) = append_assoc (id_wire id) (ids_wire ids) rest in
    ap (λ bytes. leaf_at h len dim bytes >>= λ n. coord_at h len (length ids) (dim + 1) (slice_set at dim n.0) n.1) regrouped
    ∙ ap (λ r. r >>= λ n. coord_at h len (length ids) (dim + 1) (slice_set at dim n.0) n.1) (leaf-again h len dim id (ids_wire ids ++ rest) leaves.0 leaves.1)
    ∙ ap (λ a. coord_at h len (length ids) (dim + 1) a (ids_wire ids ++ rest)) (set_at done p (places ++ replicate pad 0) id dim count ∙ sym (append_assoc done (id ∷ []) (places ++ replicate pad 0)))
    ∙ coord-again h len pad (dim + 1) (done ++ id ∷ []) ids places rest longer leaves.2 fewer
    ∙ ap (λ a. Ok (a ++ replicate pad 0, rest)) (append_assoc done (id ∷ []) ids)

pub all_at_top-splits : (dims : ℕ) → dims ≤ 8 → all_at_top ≡ replicate dims 0 ++ replicate (8 - dims) 0
all_at_top-splits dims few =
    let whole : dims + (8 - dims) ≡ 8 = omega arith in
    sym (replicate-append-replicate dims (8 - dims) 0 ∙ ap (λ n. replicate n 0) whole)

coords-again : (h : List Dimension) (len : ℕ) (ids rest : List ℕ) → length h ≤ 8 → length ids ≡ length h → AreLeaves h 0 ids
    → coord_at h len (length h) 0 all_at_top (ids_wire ids ++ rest) ≡ Ok (ids ++ replicate (8 - length h) 0, rest)
coords-again h len ids rest few count leaves =
    ap (λ n. coord_at h len n 0 all_at_top (ids_wire ids ++ rest)) (sym count)
    ∙ ap (λ at. coord_at h len (length ids) 0 at (ids_wire ids ++ rest)) (all_at_top-splits (length h) few)
    ∙ coord-again h len (8 - length h) 0 [] ids (replicate (length h) 0) rest refl leaves (omega (arith, length-replicate {A = ℕ} (length h) 0, count))

-- Rows.

pub of_z-bound : (z : ℤ) → FitsSigned w64 z → cast_unsigned w64 z < 2 ^ 64
of_z-bound z fits = omega (arith, ints)

row-again : (h : List Dimension) (len : ℕ) (row : Row) (rest : List ℕ) → IsSpelled h row → row_at h len (row_wire (length h) row ++ rest) ≡ Ok (row, rest)
unfolding row_at row_wire
row-again h len row rest spelled =
    let are = ArePlaces-of h row.at spelled.valid spelled.places in
    let ids = take (length h) row.at.at in
    let measures = to_be_bytes w64 (cast_unsigned w64 row.measures) in
    let after = ids_wire ids ++ (measures ++ rest) in
    let regrouped : row_wire (length h) row ++ rest ≡ to_be_bytes w64 row.no ++ after =
    append_assoc (to_be_bytes w64 row.no) (ids_wire ids ++ measures) rest ∙ ap (λ t. to_be_bytes w64 row.no ++ t) (append_assoc (ids_wire ids) measures rest) in
    let places : coord_at h len (length h) 0 all_at_top after ≡ Ok (row.at.at, measures ++ rest) =
    coords-again h len ids (measures ++ rest) spelled.valid.hierarchy.few are.count are.leaves ∙ ap (λ at. Ok (at, measures ++ rest)) (sym are.rest) in
    ap (row_at h len) regrouped
    ∙ rw (u64-again len row.no after spelled.number, places, u64-again len (cast_unsigned w64 row.measures) rest (of_z-bound row.measures spelled.measures), to_z-of_z w64 row.measures spelled.measures) refl

rows-again : (h : List Dimension) (len : ℕ) (front rows : List Row) (rest : List ℕ) → AllByRecursion (IsSpelled h) rows
    → rows_at h len (length rows) front (flat_map (row_wire (length h)) rows ++ rest) ≡ Ok (front ++ rows, rest)
unfolding rows_at
rows-again h len front [] rest each = ap (λ rs. Ok (rs, rest)) (sym (append-nil front))
rows-again h len front (row ∷ rows) rest each =
    let regrouped : flat_map (row_wire (length h)) (row ∷ rows) ++ rest ≡ row_wire (length h) row ++ (flat_map (row_wire (length h)) rows ++ rest) =
    append_assoc (row_wire (length h) row) (flat_map (row_wire (length h)) rows) rest in
    ap (λ bytes. row_at h len bytes >>= λ r. rows_at h len (length rows) (front ++ r.0 ∷ []) r.1) regrouped
    ∙ ap (λ r. r >>= λ r. rows_at h len (length rows) (front ++ r.0 ∷ []) r.1) (row-again h len row (flat_map (row_wire (length h)) rows ++ rest) each.0)
    ∙ rows-again h len (front ++ row ∷ []) rows rest each.1
    ∙ ap (λ rs. Ok (rs, rest)) (append_assoc front (row ∷ []) rows)

-- The whole.

head-again : (dims len count : ℕ) (rest : List ℕ) → count < 2 ^ 64 → head_at dims len (head_wire dims count ++ rest) ≡ Ok (count, rest)
unfolding head_at head_wire mark_at byte_at
head-again dims len count rest few =
    let after = to_be_bytes w64 count ++ rest in
    let long : ltb (length (mark ++ (dims ∷ after))) 8 ≡ false = le-ltb _ _ (omega (arith, length-append mark (dims ∷ after))) in
    rw (long, eq-eqb dims dims refl, u64-again len count rest few) refl

-- the rows of a text and what follows them
abbrev all_at : List Dimension → ℕ → List ℕ → Result (List Row × List ℕ) CodecFault
all_at h len bytes = head_at (length h) len bytes >>= λ count. rows_at h len count.0 [] count.1

all-again : (h : List Dimension) (len : ℕ) (rows : List Row) (rest : List ℕ) → AreSpelled h rows → all_at h len (wire (length h) rows ++ rest) ≡ Ok (rows, rest)
all-again h len rows rest spelled =
    let texts = flat_map (row_wire (length h)) rows in
    ap (all_at h len) (append_assoc (head_wire (length h) (length rows)) texts rest)
    ∙ ap (λ r. r >>= λ count. rows_at h len count.0 [] count.1) (head-again (length h) len (length rows) (texts ++ rest) spelled.few)
    ∙ rows-again h len [] rows rest (recursion_from_All (IsSpelled h) rows spelled.each)

bind-bind : {A B C : Type 0} (r : Result A CodecFault) (f : A → Result B CodecFault) (g : B → Result C CodecFault) → (r >>= λ x. f x >>= g) ≡ ((r >>= f) >>= g)
bind-bind (Ok x) f g = refl
bind-bind (Err fault) f g = refl

pub decoded-again : (h : List Dimension) (rows : List Row) → AreSpelled h rows → decoded h (wire (length h) rows) ≡ Ok rows
unfolding decoded
decoded-again h rows spelled =
    let text = wire (length h) rows in
    let whole : all_at h (length text) text ≡ Ok (rows, []) = ap (all_at h (length text)) (sym (append-nil text)) ∙ all-again h (length text) rows [] spelled in
    bind-bind (head_at (length h) (length text) text) (λ count. rows_at h (length text) count.0 [] count.1) (ended (length text)) ∙ ap (λ r. r >>= ended (length text)) whole
