-- Numbers, measures, names and filters as the fields of a record spell them.
use Rattle.script_form.specs.Limits.{most_bytes}
use Rattle.std.specs.{List.{list_any, list_all, slice_split}, Option.option_map_or, Prelude.{ℕ, ◌+◌, ◌-◌, ◌*◌, ◌==◌, ◌&&◌, ◌||◌, nat_lt, nat_le, not, Bool, false, ℤ, pos, neg_ℤ, Option, Some, None, unwrap_or, option_and_then, if◌then◌else◌, List, [], ◌∷◌, length, fold, bytes_eq, codes}}
use Rattle.csv.specs.Records.{field_at}

-- a record: its fields in order, each a list of bytes
abbrev pub Record : Type 0
Record = List (List ℕ)

-- the field at a place, empty where there is none
abbrev pub field : Record → ℕ → List ℕ
field r i = unwrap_or (field_at r i) []

-- Numbers: 1 to 20 decimal digits.

abbrev pub is_digit : ℕ → Bool
is_digit b = nat_le 48 b && nat_le b 57

-- the number that digits spell, the first digit the highest
abbrev pub digits_value : List ℕ → ℕ
digits_value text = fold (λ value b. 10 * value + (b - 48)) 0 text

abbrev pub number_of : List ℕ → Option ℕ
number_of text = if nat_le 1 (length text) && nat_le (length text) 20 && list_all is_digit text then Some (digits_value text) else None

abbrev pub in_range : List ℕ → ℕ → ℕ → Bool
in_range text low high = option_map_or (λ value. nat_le low value && nat_le value high) (number_of text) false

abbrev pub is_below : List ℕ → ℕ → Bool
is_below text limit = option_map_or (λ value. nat_lt value limit) (number_of text) false

-- the value of a number, and 0 where there is none
abbrev pub value_of : List ℕ → ℕ
value_of text = unwrap_or (number_of text) 0

-- Measures: a number with one `-` in front or without, from -2^63 to 2^63 - 1.

abbrev pub not_below_zero : ℕ → Option ℤ
not_below_zero value = if nat_lt value 9223372036854775808 then Some (pos value) else None

abbrev pub below_zero : ℕ → Option ℤ
below_zero value = if nat_le value 9223372036854775808 then Some (neg_ℤ (pos value)) else None

abbrev pub measure_of : List ℕ → Option ℤ
measure_of [] = None
measure_of (b ∷ bs) = if b == 45 then option_and_then below_zero (number_of bs) else option_and_then not_below_zero (number_of (b ∷ bs))

-- Names: 1 to 64 bytes, no vertical bar among them, and not the one byte `*`.

abbrev pub is_star : List ℕ → Bool
is_star text = bytes_eq text (codes "*")

abbrev pub is_bar : ℕ → Bool
is_bar b = b == 124

abbrev pub is_name : List ℕ → Bool
is_name text = nat_le 1 (length text) && nat_le (length text) most_bytes && not (list_any is_bar text) && not (is_star text)

-- Picks of a filter: `*`, or names joined by vertical bars.

abbrev pub pieces : List ℕ → List (List ℕ)
pieces text = slice_split is_bar text

abbrev pub is_pick : List ℕ → Bool
is_pick text = is_star text || list_all is_name (pieces text)
