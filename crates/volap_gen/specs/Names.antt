-- The dimensions of the generated hierarchy, and the names of their concepts.
use Rattle.std.specs.Prelude.{ℕ, ◌*◌, ◌/◌, ◌%◌, List, ◌++◌, codes, decimal}
use Rattle.volap_gen.specs.{declared.names.Dim.Dim, declared.names.Dim.TheVariants.{Date, Store, Product}}

abbrev pub dim_name : Dim → List ℕ
dim_name Date = codes "date"
dim_name Store = codes "store"
dim_name Product = codes "product"

-- How many concepts there are: of the first level, and under each of a level.

abbrev pub top_count : Dim → ℕ
top_count Date = 3
top_count Store = 4
top_count Product = 5

abbrev pub middle_count : Dim → ℕ
middle_count Date = 12
middle_count Store = 5
middle_count Product = 4

abbrev pub leaf_count : Dim → ℕ
leaf_count Date = 28
leaf_count Store = 5
leaf_count Product = 10

-- Names: a letter for each level, with the number of the concept under the one above it.

abbrev pub top_letter : Dim → List ℕ
top_letter Date = codes "y"
top_letter Store = codes "c"
top_letter Product = codes "g"

abbrev pub middle_letter : Dim → List ℕ
middle_letter Date = codes "m"
middle_letter Store = codes "t"
middle_letter Product = codes "l"

abbrev pub leaf_letter : Dim → List ℕ
leaf_letter Date = codes "d"
leaf_letter Store = codes "s"
leaf_letter Product = codes "i"

unfoldable pub top_name : Dim → ℕ → List ℕ
top_name dim i = top_letter dim ++ decimal i

unfoldable pub middle_name : Dim → ℕ → ℕ → List ℕ
middle_name dim i j = top_name dim i ++ (middle_letter dim ++ decimal j)

unfoldable pub leaf_name : Dim → ℕ → ℕ → ℕ → List ℕ
leaf_name dim i j k = middle_name dim i j ++ (leaf_letter dim ++ decimal k)

-- the name of the leaf concept with this number in its dimension, counted from 0
abbrev pub leaf_at : Dim → ℕ → List ℕ
leaf_at dim n = leaf_name dim (n / (middle_count dim * leaf_count dim)) (n % (middle_count dim * leaf_count dim) / leaf_count dim) (n % leaf_count dim)
