-- Reading a transfer text from left to right, with the first fault that is met. `len` is the length of the whole text,
-- and `bytes` is what is left of it.
use Rattle.std.specs.{Int.{Width, w32, w64, byte_len, from_be_bytes, cast_signed}, Prelude.{ℕ, zero, suc, ◌≡◌, ◌+◌, ◌-◌, List, [], ◌∷◌, ◌++◌, length, take, drop, replicate, slice_set, Bool, ◌&&◌, ◌==◌, nat_lt, Result, Ok, Err, MatchResult, if◌then◌else◌, ⊤}, Str.bytes_eq}
use Rattle.dim_hierarchy.specs.{Concept.level_of, Dimension.{Dimension, tree}, Tree.{is_concept, leaf_level}, declared.row.Row.Row}
use Rattle.shard_codec.specs.{Wire.mark, declared.fault.CodecFault.CodecFault, declared.fault.CodecFault.TheVariants.{Short, BadMark, BadCount, BadConcept, Trailing, NoMemory}}

-- the next field, or the fault
infixl 10 ◌>>=◌
abbrev pub ◌>>=◌ : {A B : Type 0} → Result A CodecFault → (A → Result B CodecFault) → Result B CodecFault
(Ok x) >>= f = f x
(Err fault) >>= f = Err fault

-- what a call answers, seen by view, is what reading gives
abbrev pub Gives : {X Y : Type 0} → (X → Y) → Result X CodecFault → Result Y CodecFault → Type 0
Gives view answer read = MatchResult answer (λ x. read ≡ Ok (view x)) (λ fault. read ≡ Err fault)

-- the same, unless memory ran out

abbrev pub FailsUnlessFull : {Y : Type 0} → CodecFault → Result Y CodecFault → Type 0
FailsUnlessFull NoMemory read = ⊤
FailsUnlessFull fault read = read ≡ Err fault

abbrev pub GivesUnlessFull : {X Y : Type 0} → (X → Y) → Result X CodecFault → Result Y CodecFault → Type 0
GivesUnlessFull view answer read = MatchResult answer (λ x. read ≡ Ok (view x)) (λ fault. FailsUnlessFull fault read)

-- Fields, each with what is left behind it.

unfoldable pub mark_at : ℕ → List ℕ → Result (List ℕ) CodecFault
mark_at len bytes =
    if nat_lt (length bytes) 8 then Err (Short len)
    else if bytes_eq (take 8 bytes) mark then Ok (drop 8 bytes)
    else Err BadMark

unfoldable pub byte_at : ℕ → List ℕ → Result (ℕ × List ℕ) CodecFault
byte_at len [] = Err (Short len)
byte_at len (b ∷ rest) = Ok (b, rest)

unfoldable pub number_at : Width → ℕ → List ℕ → Result (ℕ × List ℕ) CodecFault
number_at w len bytes =
    if nat_lt (length bytes) (byte_len w) then Err (Short len) else Ok (from_be_bytes w (take (byte_len w) bytes), drop (byte_len w) bytes)

-- the id is a leaf concept of the dimension
abbrev pub is_leaf_concept : List Dimension → ℕ → ℕ → Bool
is_leaf_concept h dim id = (level_of id == leaf_level (tree h dim)) && is_concept (tree h dim) id

unfoldable pub leaf_at : List Dimension → ℕ → ℕ → List ℕ → Result (ℕ × List ℕ) CodecFault
leaf_at h len dim bytes = do
  n ← number_at w32 len bytes
  if is_leaf_concept h dim n.0 then Ok n else Err (BadConcept (len - length bytes) n.0)

-- Rows.

-- ALL in each dimension
abbrev pub all_at_top : List ℕ
all_at_top = replicate 8 0

-- the concepts of n dimensions from this one on, in their places
unfoldable pub coord_at : List Dimension → ℕ → ℕ → ℕ → List ℕ → List ℕ → Result (List ℕ × List ℕ) CodecFault
coord_at h len zero dim at bytes = Ok (at, bytes)
coord_at h len (suc n) dim at bytes = do
  id ← leaf_at h len dim bytes
  coord_at h len n (dim + 1) (slice_set at dim id.0) id.1

unfoldable pub row_at : List Dimension → ℕ → List ℕ → Result (Row × List ℕ) CodecFault
row_at h len bytes = do
  number ← number_at w64 len bytes
  at ← coord_at h len (length h) 0 all_at_top number.1
  measures ← number_at w64 len at.1
  Ok (record { no = number.0; at = record { at = at.0 }; measures = cast_signed w64 measures.0 }, measures.1)

-- n rows behind others
unfoldable pub rows_at : List Dimension → ℕ → ℕ → List Row → List ℕ → Result (List Row × List ℕ) CodecFault
rows_at h len zero rows bytes = Ok (rows, bytes)
rows_at h len (suc n) rows bytes = do
  row ← row_at h len bytes
  rows_at h len n (rows ++ row.0 ∷ []) row.1

-- The whole.

-- the number of rows, behind the mark and the number of dimensions
unfoldable pub head_at : ℕ → ℕ → List ℕ → Result (ℕ × List ℕ) CodecFault
head_at dims len bytes = do
  rest ← mark_at len bytes
  told ← byte_at len rest
  if told.0 == dims then number_at w64 len told.1 else Err (BadCount told.0 dims)

-- nothing follows the last row
abbrev pub ended : ℕ → List Row × List ℕ → Result (List Row) CodecFault
ended len read = if length read.1 == 0 then Ok read.0 else Err (Trailing (len - length read.1))

-- the rows of a text, or its first fault
unfoldable pub decoded : List Dimension → List ℕ → Result (List Row) CodecFault
decoded h bytes = do
  count ← head_at (length h) (length bytes) bytes
  read ← rows_at h (length bytes) count.0 [] count.1
  ended (length bytes) read
