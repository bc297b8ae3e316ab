-- A text whose fields call for no quotes is read as the records that it was made of.
use Rattle.std.proofs.{Common.{◌≡◌, ◌≤◌, ◌∙◌, ◌++◌, ℕ, zero, suc, List, [], ◌∷◌, length, Bool, true, false, ◌&&◌, ap, sym, refl, arith, append-nil, length-append}, lemmas.Bool.and_parts, lemmas.Bool.Decides.nat_tests}
use Rattle.std.specs.{List.{join_with_byte, list_all, list_any}, Prelude.{not, nat_lt, codes}}
use Rattle.csv.specs.{Machine.next_record, Reading.{default_config, records_from}, Writing.{default_writer, field_text, fields_text, is_blank, needs_byte, row_text}}
use Rattle.csv.specs.declared.parser.State.TheVariants as st
use Rattle.csv.proofs.RoundTrip.{read-write}
use Rattle.volap_gen.specs.Generated.{record_line, text_of}
use Rattle.script_form.specs.Fields.{Record}

-- no byte of a field calls for quotes
abbrev pub is_unquoted : List ℕ → Bool
is_unquoted x = not (list_any (needs_byte default_writer) x)

-- no field of a record does, and the record shows a byte
unfoldable pub is_plain : Record → Bool
is_plain [] = false
is_plain (x ∷ rest) = nat_lt 0 (length x) && list_all is_unquoted (x ∷ rest)

not_false : (b : Bool) → not b ≡ true → b ≡ false
not_false true is = cc
not_false false is = refl

field_plain : (x : List ℕ) → is_unquoted x ≡ true → field_text default_writer x ≡ x
field_plain x plain = let none = not_false (list_any (needs_byte default_writer) x) plain in rw none refl

fields_plain : (x : List ℕ) (rest : Record) → list_all is_unquoted (x ∷ rest) ≡ true → field_text default_writer x ++ fields_text default_writer rest ≡ join_with_byte 44 (x ∷ rest)
unfolding fields_text
fields_plain x [] plain =
    let parts = and_parts (is_unquoted x) true plain in
    ap (λ t. t ++ []) (field_plain x parts.0) ∙ append-nil x
fields_plain x (y ∷ rest) plain =
    let parts = and_parts (is_unquoted x) (list_all is_unquoted (y ∷ rest)) plain in
    ap (λ t. t ++ (44 ∷ (field_text default_writer y ++ fields_text default_writer rest))) (field_plain x parts.0)
    ∙ ap (λ t. x ++ (44 ∷ t)) (fields_plain y rest parts.1)

shows : (x : List ℕ) (rest : Record) → nat_lt 0 (length x) ≡ true → is_unquoted x ≡ true → is_blank default_writer (x ∷ rest) ≡ false
unfolding is_blank
shows x [] some plain = rw (field_plain x plain) (grind (arith, nat_tests))
shows x (y ∷ rest) some plain = refl

row_plain : (x : List ℕ) (rest : Record) → is_plain (x ∷ rest) ≡ true → row_text default_writer (x ∷ rest) ≡ record_line (x ∷ rest)
unfolding is_plain
row_plain x rest plain =
    let parts = and_parts (nat_lt 0 (length x)) (list_all is_unquoted (x ∷ rest)) plain in
    let first = and_parts (is_unquoted x) (list_all is_unquoted rest) parts.1 in
    let blank = shows x rest parts.0 first.0 in
    rw blank (ap (λ t. t ++ (10 ∷ [])) (fields_plain x rest parts.1))

empty_is_none : (rs : List Record) → list_all is_plain ([] ∷ rs) ≡ true → ⊥
unfolding is_plain
empty_is_none rs plain = cc

pub lines_read : (rs : List Record) (n : ℕ) → length rs ≤ n → list_all is_plain rs ≡ true → records_from default_config n st.StartRecord (text_of rs) ≡ rs
unfolding records_from next_record
lines_read [] zero room plain = refl
lines_read [] (suc n) room plain = refl
lines_read (r ∷ rs) zero room plain = absurd (omega arith)
lines_read ([] ∷ rs) (suc n) room plain = absurd (empty_is_none rs plain)
lines_read ((x ∷ rest) ∷ rs) (suc n) room plain =
    let parts = and_parts (is_plain (x ∷ rest)) (list_all is_plain rs) plain in
    let text : text_of ((x ∷ rest) ∷ rs) ≡ row_text default_writer (x ∷ rest) ++ text_of rs = ap (λ t. t ++ text_of rs) (sym (row_plain x rest parts.0)) in
    rw (text, read-write (x ∷ rest) (text_of rs)) (ap (λ t. (x ∷ rest) ∷ t) (lines_read rs n (omega arith) parts.1))

-- each record takes a byte at least
pub lines_fit : (rs : List Record) → length rs ≤ length (text_of rs)
lines_fit [] = omega arith
lines_fit (r ∷ rs) =
    let line = length-append (join_with_byte 44 r) (codes "\n") in
    let all = length-append (record_line r) (text_of rs) in
    omega (arith, line, all, lines_fit rs)
