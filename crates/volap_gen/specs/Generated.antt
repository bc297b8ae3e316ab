-- The generated script, as a list of records, and its text.
use Rattle.std.specs.{Fmt.{decimal, signed_decimal}, List.{flat_map, join_with_byte, range_with_len}, Prelude.{ℕ, ◌+◌, ◌*◌, ◌/◌, ◌%◌, ℤ, pos, ◌-ℤ◌, List, [], ◌∷◌, ◌++◌, map, ◌==◌, ◌||◌, if◌then◌else◌, codes}}
use Rattle.script_form.specs.Fields.{Record}
use Rattle.volap_gen.specs.{Names.{dim_name, top_count, middle_count, leaf_count, top_name, middle_name, leaf_name, leaf_at}, declared.names.Dim.Dim, declared.names.Dim.TheVariants.{Date, Store, Product}}

-- a record's line: its fields with commas between them
abbrev pub record_line : Record → List ℕ
record_line r = join_with_byte 44 r ++ codes "\n"

abbrev pub text_of : List Record → List ℕ
text_of rs = flat_map record_line rs

-- The settings and the dimensions.

abbrev pub dim_record : Dim → Record
dim_record dim = codes "dim" ∷ dim_name dim ∷ codes "3" ∷ []

unfoldable pub opening : List Record
opening =
    (codes "volap" ∷ codes "1" ∷ [])
    ∷ (codes "use" ∷ codes "4" ∷ codes "4" ∷ codes "2" ∷ codes "16384" ∷ [])
    ∷ dim_record Date
    ∷ dim_record Store
    ∷ dim_record Product
    ∷ []

-- The concepts, each before those under it.

abbrev pub concept_record : Dim → List ℕ → List ℕ → Record
concept_record dim name parent = codes "concept" ∷ dim_name dim ∷ name ∷ parent ∷ []

abbrev pub top_record : Dim → ℕ → Record
top_record dim i = concept_record dim (top_name dim i) (codes "*")

abbrev pub middle_record : Dim → ℕ → ℕ → Record
middle_record dim i j = concept_record dim (middle_name dim i j) (top_name dim i)

abbrev pub leaf_record : Dim → ℕ → ℕ → ℕ → Record
leaf_record dim i j k = concept_record dim (leaf_name dim i j k) (middle_name dim i j)

unfoldable pub leaf_records : Dim → ℕ → ℕ → List Record
leaf_records dim i j = map (leaf_record dim i j) (range_with_len 0 (leaf_count dim))

unfoldable pub middle_records : Dim → ℕ → List Record
middle_records dim i = flat_map (λ j. middle_record dim i j ∷ leaf_records dim i j) (range_with_len 0 (middle_count dim))

unfoldable pub concept_records : Dim → List Record
concept_records dim = flat_map (λ i. top_record dim i ∷ middle_records dim i) (range_with_len 0 (top_count dim))

-- The rows. Row i is the shop `i % 100` in round `i / 100`.

abbrev pub shops : ℕ
shops = 100

-- how many measures there are, the least being -100
abbrev pub measures : ℕ
measures = 201

abbrev pub measure_at : ℕ → ℕ → ℤ
measure_at seed i = pos ((i / shops + seed % measures) % measures) -ℤ pos 100

-- how many days there are: of 3 years with 12 months of 28 days
abbrev pub days : ℕ
days = 1008

abbrev pub day_at : ℕ → ℕ → ℕ
day_at seed i = (5 * (i / shops) + i % shops % 5 + seed % days) % days

abbrev pub item_at : ℕ → ℕ
item_at i = 2 * (17 * (i % shops) % shops) + i / shops % 2

unfoldable pub insert_record : ℕ → ℕ → Record
insert_record seed i =
    codes "insert" ∷ decimal (i % 4) ∷ signed_decimal (measure_at seed i) ∷ leaf_at Date (day_at seed i) ∷ leaf_at Store (i % shops)
    ∷ leaf_at Product (item_at i)
    ∷ []

-- each of four servers pulls, and the load is balanced, before the next rows begin
unfoldable pub pulls : List Record
pulls =
    (codes "sync" ∷ codes "0" ∷ [])
    ∷ (codes "sync" ∷ codes "1" ∷ [])
    ∷ (codes "sync" ∷ codes "2" ∷ [])
    ∷ (codes "sync" ∷ codes "3" ∷ [])
    ∷ (codes "balance" ∷ codes "4" ∷ [])
    ∷ (codes "barrier" ∷ [])
    ∷ []

-- after how many rows that is done
abbrev pub stage : ℕ
stage = 1000

-- a row's record, and what is done after it where it is the last of its stage or of all
abbrev pub row_records : ℕ → ℕ → ℕ → List Record
row_records rows seed i = insert_record seed i ∷ (if (i + 1) % stage == 0 || i + 1 == rows then pulls else [])

unfoldable pub generated_rows : ℕ → ℕ → List Record
generated_rows rows seed = flat_map (row_records rows seed) (range_with_len 0 rows)

-- The queries: of everything, of a year, of two countries and of a group of products.

abbrev pub query_record : List ℕ → List ℕ → List ℕ → List ℕ → Record
query_record server date store product = codes "query" ∷ server ∷ date ∷ store ∷ product ∷ []

unfoldable pub closing : List Record
closing =
    (codes "settle" ∷ [])
    ∷ query_record (codes "0") (codes "*") (codes "*") (codes "*")
    ∷ query_record (codes "1") (codes "y0") (codes "*") (codes "*")
    ∷ query_record (codes "2") (codes "*") (codes "c1|c3") (codes "*")
    ∷ query_record (codes "3") (codes "*") (codes "*") (codes "g2")
    ∷ (codes "audit" ∷ [])
    ∷ []

-- The whole.

-- the script of so many rows by a seed
abbrev pub generated : ℕ → ℕ → List Record
generated rows seed = opening ++ (concept_records Date ++ (concept_records Store ++ (concept_records Product ++ (generated_rows rows seed ++ closing))))
