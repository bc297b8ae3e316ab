-- The records of a text are those that a reader gives until it stops, and each takes a byte at least.
use Rattle.std.proofs.{Common.{◌≡◌, ◌≤◌, ◌<◌, ◌+◌, ◌++◌, ℕ, suc, zero, List, [], ◌∷◌, length, arith, refl, ◌∙◌, Bor, true, false, Option, Some, None, inl, inr, length-append}, lemmas.Bool.cases_Bool, lemmas.Bool.Decides.nat_tests, lemmas.List.{append_assoc, append-nil}}
use Rattle.csv.proofs.ReadFacts.{rows-end}
use Rattle.csv.specs.{Machine.{Read, ends_at_end, field_after, fields_after, in_field, is_end, next_record, start_field, start_record, step}, Reading.{NextIs, ReadRecord, Ready, ReadsNext, default_config, pending_of, records_from, source_of, strip_bom}, declared.parser.State.State, declared.reader.Reader.Reader}
use Rattle.csv.specs.declared.parser.State.TheVariants as st
use Rattle.csv.specs.declared.reader.Trim.TheVariants as trim
use Rattle.script_form.specs.{Fields.Record, Scripts.records_of}

-- Behind a byte that ends a record, no record is open.

in_field_closes : (c : ℕ) → is_end (in_field default_config c).1 ≡ true → ends_at_end (in_field default_config c).0 ≡ false
in_field_closes c ends = grind (arith, nat_tests)

start_field_closes : (c : ℕ) → is_end (start_field default_config c).1 ≡ true → ends_at_end (start_field default_config c).0 ≡ false
start_field_closes c ends = grind (arith, nat_tests)

start_record_closes : (c : ℕ) → is_end (start_record default_config c).1 ≡ true → ends_at_end (start_record default_config c).0 ≡ false
start_record_closes c ends = grind (arith, nat_tests)

in_quoted_closes : (c : ℕ) → is_end (step default_config st.InQuoted c).1 ≡ true → ends_at_end (step default_config st.InQuoted c).0 ≡ false
in_quoted_closes c ends = grind (arith, nat_tests)

after_quote_closes : (c : ℕ) → is_end (step default_config st.AfterQuote c).1 ≡ true → ends_at_end (step default_config st.AfterQuote c).0 ≡ false
after_quote_closes c ends = grind (arith, nat_tests)

in_comment_closes : (c : ℕ) → is_end (step default_config st.InComment c).1 ≡ true → ends_at_end (step default_config st.InComment c).0 ≡ false
in_comment_closes c ends = grind (arith, nat_tests)

after_cr_closes : (c : ℕ) → is_end (step default_config st.AfterCr c).1 ≡ true → ends_at_end (step default_config st.AfterCr c).0 ≡ false
after_cr_closes c ends = grind (arith, nat_tests)

step_closes : (s : State) (c : ℕ) → is_end (step default_config s c).1 ≡ true → ends_at_end (step default_config s c).0 ≡ false
step_closes st.StartRecord c ends = start_record_closes c ends
step_closes st.StartField c ends = start_field_closes c ends
step_closes st.InField c ends = in_field_closes c ends
step_closes st.InQuoted c ends = in_quoted_closes c ends
step_closes st.InEscape c ends = cc
step_closes st.AfterQuote c ends = after_quote_closes c ends
step_closes st.InComment c ends = in_comment_closes c ends
step_closes st.AfterCr c ends = after_cr_closes c ends

-- What is left behind a record that was read: no open record, and no more than so many bytes.
record Leaves (r : Read) (most : ℕ) : Type 0 where
  closed : ends_at_end r.1 ≡ false
  fits : length r.2 ≤ most

leaves_same : (a r : Read) (most : ℕ) → Some a ≡ Some r → Leaves a most → Leaves r most
leaves_same a r most same leaves = let e : a ≡ r = cc in rw (← e) leaves

leaves_more : (r : Read) (some more : ℕ) → some ≤ more → Leaves r some → Leaves r more
leaves_more r some more h leaves = record { closed = leaves.closed; fits = omega arith }

next_leaves : (s : State) (fields : Record) (field xs : List ℕ) (r : Read) → next_record default_config s fields field xs ≡ Some r → Leaves r (length xs)
unfolding next_record
next_leaves s fields field [] r read =
    elim (cases_Bool (ends_at_end s)) [
      | inl open_ ↦ leaves_same _ r 0 (rw open_ at read) (record { closed = refl; fits = omega arith })
      | inr closed ↦ let none = rw closed at read in cc
    ]
next_leaves s fields field (c ∷ xs) r read =
    elim (cases_Bool (is_end (step default_config s c).1)) [
      | inl ends ↦ leaves_same _ r (length (c ∷ xs)) (rw ends at read) (record { closed = step_closes s c ends; fits = omega arith })
      | inr goes ↦ leaves_more r (length xs) (length (c ∷ xs)) (omega arith) (next_leaves (step default_config s c).0 (fields_after (step default_config s c).1 fields field) (field_after (step default_config s c).1 c field) xs r (rw goes at read))
    ]

-- a record that begins where none is open takes a byte at least
pub next_takes : (s : State) (xs : List ℕ) (r : Read) → ends_at_end s ≡ false → next_record default_config s [] [] xs ≡ Some r → (ends_at_end r.1 ≡ false) × (length r.2 < length xs)
unfolding next_record
next_takes s [] r closed read = let none = rw closed at read in cc
next_takes s (c ∷ xs) r closed read =
    let leaves : Leaves r (length xs) =
    elim (cases_Bool (is_end (step default_config s c).1)) [
      | inl ends ↦ leaves_same _ r (length xs) (rw ends at read) (record { closed = step_closes s c ends; fits = omega arith })
      | inr goes ↦ next_leaves (step default_config s c).0 (fields_after (step default_config s c).1 [] []) (field_after (step default_config s c).1 c []) xs r (rw goes at read)
    ]
    in (leaves.closed, omega arith)

pub strip_bom_shorter : (text : List ℕ) → length (strip_bom text) ≤ length text
unfolding strip_bom
strip_bom_shorter [] = omega arith
strip_bom_shorter (a ∷ []) = omega arith
strip_bom_shorter (a ∷ b ∷ []) = omega arith
strip_bom_shorter (a ∷ b ∷ c ∷ rest) = grind (arith, nat_tests)

-- These records of a text were read, and the others are those of the bytes that are left.
pub record AreRead (text : List ℕ) (rows : List Record) (s : State) (left : List ℕ) : Type 0 where
  pub more : ℕ
  pub all : records_of text ≡ rows ++ records_from default_config more s left
  pub room : length left < more
  pub closed : ends_at_end s ≡ false
  pub few : length rows + length left ≤ length text

pub none_read : (text : List ℕ) → AreRead text [] st.StartRecord (strip_bom text)
none_read text =
    let shorter = strip_bom_shorter text in
    record { more = length (strip_bom text) + 1; all = refl; room = omega arith; closed = refl; few = omega arith }

one_read : (text left : List ℕ) (rows : List Record) (s : State) (r : Read) (n : ℕ) → records_of text ≡ rows ++ records_from default_config n s left
    → length left < n → length rows + length left ≤ length text → ends_at_end s ≡ false → next_record default_config s [] [] left ≡ Some r
    → AreRead text (rows ++ r.0 ∷ []) r.1 r.2
unfolding records_from
one_read text left rows s r zero all room few closed read = absurd (omega arith)
one_read text left rows s r (suc n) all room few closed read =
    let takes = next_takes s left r closed read in
    record { more = n; all = rw append_assoc (rw read at all); room = omega arith; closed = takes.0; few = omega (arith, length-append rows (r.0 ∷ [])) }

all_read : (text left : List ℕ) (rows : List Record) (s : State) (n : ℕ) → records_of text ≡ rows ++ records_from default_config n s left
    → length left < n → next_record default_config s [] [] left ≡ None → records_of text ≡ rows
unfolding records_from
all_read text left rows s zero all room stop = absurd (omega arith)
all_read text left rows s (suc n) all room stop = (rw stop at all) ∙ append-nil rows

-- A reader of a slice, without a header row and for records of any length, has read these records of a text.

abbrev pub left_in : Bor (List ℕ) → Option (List ℕ)
left_in slice = Some slice.now

pub record IsReading (reader : Reader (Bor (List ℕ))) (text : List ℕ) (rows : List Record) : Type 0 where
  pub plain : reader.trim ≡ trim.None
  pub ready : Ready reader
  pub config : reader.config ≡ default_config
  pub flexible : reader.flexible ≡ true
  pub left : List ℕ
  pub source : source_of left_in reader ≡ Some left
  pub read : AreRead text rows reader.state left

next_some : (o : Option Read) (r : Record) (s : State) (left : List ℕ) → NextIs o true r s left → (p : Read) × (o ≡ Some p) × (r ≡ p.0) × (s ≡ p.1) × (left ≡ p.2)
next_some None r s left is = cc is
next_some (Some p) r s left is = (p, refl, is.1, is.2, is.3)

same_read : (text : List ℕ) (rows : List Record) (p : Read) (r : Record) (s : State) (left : List ℕ) → r ≡ p.0 → s ≡ p.1 → left ≡ p.2
    → AreRead text (rows ++ p.0 ∷ []) p.1 p.2 → AreRead text (rows ++ r ∷ []) s left
same_read text rows p r s left a b c read = rw (a, b, c) read

next_read : (text left : List ℕ) (rows : List Record) (old new : State) (r : Record) (pending : Option (List ℕ)) → ReadsNext default_config old (Some left) pending true r new
    → AreRead text rows old left → (z : List ℕ) × (pending ≡ Some z) × AreRead text (rows ++ r ∷ []) new z
next_read text left rows old new r None reads read = absurd reads
next_read text left rows old new r (Some z) reads read =
    let next = next_some _ r new z reads in
    (z, refl, same_read text rows next.0 r new z next.2 next.3 next.4 (one_read text left rows old next.0 read.more read.all read.room read.few read.closed next.1))

-- a record more was read
pub reading_more : (old new : Reader (Bor (List ℕ))) (text : List ℕ) (rows : List Record) (r : Record) → IsReading old text rows
    → ReadRecord left_in old new true r → Ready new → new.flexible ≡ old.flexible → IsReading new text (rows ++ r ∷ [])
reading_more old new text rows r reading read ready flexible =
    let next = next_read text reading.left rows old.state new.state r (pending_of (left_in new.rdr) new) (rw (reading.config, reading.source) at read.0) reading.read in
    record {
      plain = read.3 ∙ reading.plain;
      ready = ready;
      config = read.2 ∙ reading.config;
      flexible = flexible ∙ reading.flexible;
      left = next.0;
      source = rw read.1 next.1;
      read = next.2;
    }

-- where no record was left, these were all
pub reading_stops : (old new : Reader (Bor (List ℕ))) (text : List ℕ) (rows : List Record) (r : Record) → IsReading old text rows
    → ReadRecord left_in old new false r → records_of text ≡ rows
reading_stops old new text rows r reading read =
    let none = rows-end left_in old new r default_config reading.left reading.config reading.source read in
    all_read text reading.left rows old.state reading.read.more reading.read.all reading.read.room none
