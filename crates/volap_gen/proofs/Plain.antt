-- The generated records call for no quotes, and those behind the concepts are commands.
use Rattle.std.proofs.{Common.{◌≡◌, ◌<◌, ◌∙◌, ◌+◌, ◌++◌, ℕ, zero, suc, List, [], ◌∷◌, Bool, true, false, ◌&&◌, ap, sym, refl, arith, pos, ◌%◌, ◌/◌}, lemmas.Bool.and_parts}
use Rattle.std.specs.{Fmt.{decimal, digits, signed_decimal}, List.{flat_map, list_all, range_with_len}, Prelude.{codes, is_some, ◌==◌, ◌||◌, ◌-ℤ◌, if◌then◌else◌}}
use Rattle.csv.specs.Records.{field_at}
use Rattle.script_form.specs.Fields.{is_below, is_name, measure_of, Record}
use Rattle.script_form.proofs.Standing.{is_command}
use Rattle.volap_gen.proofs.Lines.{is_plain, is_unquoted}
use Rattle.volap_gen.specs.{Generated.{closing, concept_records, day_at, insert_record, item_at, leaf_records, measure_at, middle_records, opening, pulls, row_records, generated_rows}, Names.{leaf_at, leaf_name, middle_name, top_name}, declared.names.Dim.TheVariants.{Date, Store, Product}}

-- What can be looked through.

pub plain_opening : list_all is_plain opening ≡ true
unfolding opening is_plain
plain_opening = refl

pub plain_date : list_all is_plain (concept_records Date) ≡ true
unfolding concept_records middle_records leaf_records top_name middle_name leaf_name digits is_plain
plain_date = refl

pub plain_store : list_all is_plain (concept_records Store) ≡ true
unfolding concept_records middle_records leaf_records top_name middle_name leaf_name digits is_plain
plain_store = refl

pub plain_product : list_all is_plain (concept_records Product) ≡ true
unfolding concept_records middle_records leaf_records top_name middle_name leaf_name digits is_plain
plain_product = refl

abbrev is_good : Record → Bool
is_good r = is_plain r && is_command 4 3 r

good_pulls : list_all is_good pulls ≡ true
unfolding pulls is_plain is_command field_at
good_pulls = refl

good_closing : list_all is_good closing ≡ true
unfolding closing is_plain is_command field_at
good_closing = refl

abbrev is_leaf : List ℕ → Bool
is_leaf x = is_unquoted x && is_name x

days_good : list_all (λ n. is_leaf (leaf_at Date n)) (range_with_len 0 1008) ≡ true
unfolding top_name middle_name leaf_name digits
days_good = refl

shops_good : list_all (λ n. is_leaf (leaf_at Store n)) (range_with_len 0 100) ≡ true
unfolding top_name middle_name leaf_name digits
shops_good = refl

items_good : list_all (λ n. is_leaf (leaf_at Product n)) (range_with_len 0 200) ≡ true
unfolding top_name middle_name leaf_name digits
items_good = refl

servers_good : list_all (λ n. is_unquoted (decimal n) && is_below (decimal n) 4) (range_with_len 0 4) ≡ true
unfolding digits
servers_good = refl

measures_good : list_all (λ n. is_unquoted (signed_decimal (pos n -ℤ pos 100)) && is_some (measure_of (signed_decimal (pos n -ℤ pos 100)))) (range_with_len 0 201) ≡ true
unfolding digits
measures_good = refl

-- Lists.

at_zero : (p : ℕ → Bool) (a b : ℕ) → a ≡ b → p a ≡ true → p b ≡ true
at_zero p a b is good = ap p (sym is) ∙ good

in_range_from : (p : ℕ → Bool) (a n k : ℕ) → list_all p (range_with_len a n) ≡ true → k < n → p (a + k) ≡ true
in_range_from p a zero k all within = absurd (omega arith)
in_range_from p a (suc n) zero all within = at_zero p a (a + zero) (omega arith) (and_parts (p a) (list_all p (range_with_len (a + 1) n)) all).0
in_range_from p a (suc n) (suc k) all within =
    at_zero p ((a + 1) + k) (a + suc k) (omega arith) (in_range_from p (a + 1) n k (and_parts (p a) (list_all p (range_with_len (a + 1) n)) all).1 (omega arith))

in_range_at : (p : ℕ → Bool) (n k : ℕ) → list_all p (range_with_len 0 n) ≡ true → k < n → p k ≡ true
in_range_at p n k all within = at_zero p (0 + k) k (omega arith) (in_range_from p 0 n k all within)

pub all_append : {X : Type 0} (p : X → Bool) (xs ys : List X) → list_all p xs ≡ true → list_all p ys ≡ true → list_all p (xs ++ ys) ≡ true
all_append p [] ys a b = b
all_append p (x ∷ xs) ys a b = let parts = and_parts (p x) (list_all p xs) a in rw parts.0 (all_append p xs ys parts.1 b)

all_mapped : (p : Record → Bool) (f : ℕ → List Record) (xs : List ℕ) → ((n : ℕ) → list_all p (f n) ≡ true) → list_all p (flat_map f xs) ≡ true
all_mapped p f [] each = refl
all_mapped p f (x ∷ xs) each = all_append p (f x) (flat_map f xs) (each x) (all_mapped p f xs each)

firsts : (p q : Record → Bool) (rs : List Record) → list_all (λ r. p r && q r) rs ≡ true → list_all p rs ≡ true
firsts p q [] all = refl
firsts p q (r ∷ rs) all =
    let parts = and_parts (p r && q r) (list_all (λ x. p x && q x) rs) all in
    rw ((and_parts (p r) (q r) parts.0).0) (firsts p q rs parts.1)

seconds : (p q : Record → Bool) (rs : List Record) → list_all (λ r. p r && q r) rs ≡ true → list_all q rs ≡ true
seconds p q [] all = refl
seconds p q (r ∷ rs) all =
    let parts = and_parts (p r && q r) (list_all (λ x. p x && q x) rs) all in
    rw ((and_parts (p r) (q r) parts.0).1) (seconds p q rs parts.1)

-- Rows.

insert_good : (server measure day shop item : List ℕ) → is_unquoted server ≡ true → is_below server 4 ≡ true → is_unquoted measure ≡ true → is_some (measure_of measure) ≡ true
    → is_leaf day ≡ true → is_leaf shop ≡ true → is_leaf item ≡ true → is_good (codes "insert" ∷ server ∷ measure ∷ day ∷ shop ∷ item ∷ []) ≡ true
unfolding is_plain is_command field_at
insert_good server measure day shop item a b c d e f g =
    let day_parts = and_parts (is_unquoted day) (is_name day) e in
    let shop_parts = and_parts (is_unquoted shop) (is_name shop) f in
    let item_parts = and_parts (is_unquoted item) (is_name item) g in
    rw (a, b, c, d, day_parts.0, day_parts.1, shop_parts.0, shop_parts.1, item_parts.0, item_parts.1) refl

row_good : (seed i : ℕ) → is_good (insert_record seed i) ≡ true
unfolding insert_record
row_good seed i =
    let measure = (i / 100 + seed % 201) % 201 in
    let server = and_parts (is_unquoted (decimal (i % 4))) (is_below (decimal (i % 4)) 4) (in_range_at (λ n. is_unquoted (decimal n) && is_below (decimal n) 4) 4 (i % 4) servers_good (omega arith)) in
    let amount = and_parts (is_unquoted (signed_decimal (pos measure -ℤ pos 100))) (is_some (measure_of (signed_decimal (pos measure -ℤ pos 100))))
    (in_range_at (λ n. is_unquoted (signed_decimal (pos n -ℤ pos 100)) && is_some (measure_of (signed_decimal (pos n -ℤ pos 100)))) 201 measure measures_good (omega arith)) in
    insert_good (decimal (i % 4)) (signed_decimal (measure_at seed i)) (leaf_at Date (day_at seed i)) (leaf_at Store (i % 100)) (leaf_at Product (item_at i))
    server.0 server.1 amount.0 amount.1
    (in_range_at (λ n. is_leaf (leaf_at Date n)) 1008 (day_at seed i) days_good (omega arith))
    (in_range_at (λ n. is_leaf (leaf_at Store n)) 100 (i % 100) shops_good (omega arith))
    (in_range_at (λ n. is_leaf (leaf_at Product n)) 200 (item_at i) items_good (omega arith))

good_or_none : (b : Bool) → list_all is_good (if b then pulls else []) ≡ true
good_or_none true = good_pulls
good_or_none false = refl

rows_good : (rows seed i : ℕ) → list_all is_good (row_records rows seed i) ≡ true
rows_good rows seed i = rw (row_good seed i) (good_or_none ((i + 1) % 1000 == 0 || i + 1 == rows))

-- the records of rows and of what is done beside them, and of the queries
pub good_rest : (rows seed : ℕ) → list_all is_good (generated_rows rows seed ++ closing) ≡ true
unfolding generated_rows
good_rest rows seed = all_append is_good (generated_rows rows seed) closing (all_mapped is_good (row_records rows seed) (range_with_len 0 rows) (rows_good rows seed)) good_closing

pub plain_rest : (rows seed : ℕ) → list_all is_plain (generated_rows rows seed ++ closing) ≡ true
plain_rest rows seed = firsts is_plain (is_command 4 3) (generated_rows rows seed ++ closing) (good_rest rows seed)

pub commands_rest : (rows seed : ℕ) → list_all (is_command 4 3) (generated_rows rows seed ++ closing) ≡ true
commands_rest rows seed = seconds is_plain (is_command 4 3) (generated_rows rows seed ++ closing) (good_rest rows seed)
