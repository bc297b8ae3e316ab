-- Reading concepts and rows one after the other, as a loop does.
use Rattle.std.proofs.Common.{◌≡◌, ℕ, suc, ◌-◌, ◌+◌, ◌≤◌, ◌<◌, List, [], ◌∷◌, ◌++◌, Result, Ok, Err, sym, ap, ◌∙◌, arith}
use Rattle.std.specs.Prelude.{slice_set}
use Rattle.dim_hierarchy.specs.{Dimension.Dimension, declared.row.Row.Row}
use Rattle.shard_codec.specs.{Reading.{◌>>=◌, FailsUnlessFull, leaf_at, coord_at, row_at, rows_at}, declared.fault.CodecFault.CodecFault, declared.fault.CodecFault.TheVariants.{Short, BadMark, BadCount, BadConcept, Trailing, NoMemory}}

-- Concepts.

coord-step : (h : List Dimension) (len dims dim : ℕ) (at bytes : List ℕ) → dim < dims
    → coord_at h len (dims - dim) dim at bytes ≡ (leaf_at h len dim bytes >>= λ id. coord_at h len (dims - (dim + 1)) (dim + 1) (slice_set at dim id.0) id.1)
unfolding coord_at
coord-step h len dims dim at bytes within =
    let more : dims - dim ≡ suc (dims - (dim + 1)) = omega arith in
    ap (λ n. coord_at h len n dim at bytes) more

pub coord-more : (h : List Dimension) (len dims dim : ℕ) (at bytes : List ℕ) (id : ℕ) (after : List ℕ) (total : Result (List ℕ × List ℕ) CodecFault) → dim < dims
    → leaf_at h len dim bytes ≡ Ok (id, after) → coord_at h len (dims - dim) dim at bytes ≡ total
    → coord_at h len (dims - (dim + 1)) (dim + 1) (slice_set at dim id) after ≡ total
coord-more h len dims dim at bytes id after total within read before =
    sym (coord-step h len dims dim at bytes within ∙ ap (λ r. r >>= λ id. coord_at h len (dims - (dim + 1)) (dim + 1) (slice_set at dim id.0) id.1) read) ∙ before

pub coord-fails : (h : List Dimension) (len dims dim : ℕ) (at bytes : List ℕ) (fault : CodecFault) (total : Result (List ℕ × List ℕ) CodecFault) → dim < dims
    → leaf_at h len dim bytes ≡ Err fault → coord_at h len (dims - dim) dim at bytes ≡ total → total ≡ Err fault
coord-fails h len dims dim at bytes fault total within read before =
    sym before ∙ coord-step h len dims dim at bytes within ∙ ap (λ r. r >>= λ id. coord_at h len (dims - (dim + 1)) (dim + 1) (slice_set at dim id.0) id.1) read

pub coord-all : (h : List Dimension) (len dims dim : ℕ) (at bytes : List ℕ) (total : Result (List ℕ × List ℕ) CodecFault) → dims ≤ dim
    → coord_at h len (dims - dim) dim at bytes ≡ total → total ≡ Ok (at, bytes)
unfolding coord_at
coord-all h len dims dim at bytes total done before =
    let none : dims - dim ≡ 0 = omega arith in
    sym before ∙ ap (λ n. coord_at h len n dim at bytes) none

-- Rows.

rows-step : (h : List Dimension) (len count i : ℕ) (rows : List Row) (bytes : List ℕ) → i < count
    → rows_at h len (count - i) rows bytes ≡ (row_at h len bytes >>= λ row. rows_at h len (count - (i + 1)) (rows ++ row.0 ∷ []) row.1)
unfolding rows_at
rows-step h len count i rows bytes within =
    let more : count - i ≡ suc (count - (i + 1)) = omega arith in
    ap (λ n. rows_at h len n rows bytes) more

pub rows-more : (h : List Dimension) (len count i : ℕ) (rows pushed : List Row) (bytes : List ℕ) (row : Row) (after : List ℕ) (total : Result (List Row × List ℕ) CodecFault)
    → i < count → row_at h len bytes ≡ Ok (row, after) → pushed ≡ rows ++ row ∷ [] → rows_at h len (count - i) rows bytes ≡ total
    → rows_at h len (count - (i + 1)) pushed after ≡ total
rows-more h len count i rows pushed bytes row after total within read pushed_is before =
    ap (λ rs. rows_at h len (count - (i + 1)) rs after) pushed_is
    ∙ sym (rows-step h len count i rows bytes within ∙ ap (λ r. r >>= λ row. rows_at h len (count - (i + 1)) (rows ++ row.0 ∷ []) row.1) read)
    ∙ before

fails : {Y : Type 0} (fault : CodecFault) (read : Result Y CodecFault) → read ≡ Err fault → FailsUnlessFull fault read
fails (Short len) read is = is
fails BadMark read is = is
fails (BadCount told dims) read is = is
fails (BadConcept at id) read is = is
fails (Trailing at) read is = is
fails NoMemory read is = tt

pub rows-fails : (h : List Dimension) (len count i : ℕ) (rows : List Row) (bytes : List ℕ) (fault : CodecFault) (total : Result (List Row × List ℕ) CodecFault)
    → i < count → row_at h len bytes ≡ Err fault → rows_at h len (count - i) rows bytes ≡ total → FailsUnlessFull fault total
rows-fails h len count i rows bytes fault total within read before =
    fails fault total (sym before ∙ rows-step h len count i rows bytes within ∙ ap (λ r. r >>= λ row. rows_at h len (count - (i + 1)) (rows ++ row.0 ∷ []) row.1) read)

pub rows-all : (h : List Dimension) (len count i : ℕ) (rows : List Row) (bytes : List ℕ) (total : Result (List Row × List ℕ) CodecFault)
    → count ≤ i → rows_at h len (count - i) rows bytes ≡ total → total ≡ Ok (rows, bytes)
unfolding rows_at
rows-all h len count i rows bytes total done before =
    let none : count - i ≡ 0 = omega arith in
    sym before ∙ ap (λ n. rows_at h len n rows bytes) none
