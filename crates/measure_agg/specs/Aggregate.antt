-- Aggregates of rows.
use Rattle.std.specs.{Int.{int_min, int_max}, Prelude.{ℕ, ℤ, pos, ◌+ℤ◌, List, [], ◌∷◌, length, map, Option, Some, None}}
use Rattle.dim_hierarchy.specs.declared.row.Row.{Row}

-- how many rows there are, the sum of their measures, the least and the greatest of them
pub record Aggregate : Type 0 where
  pub count : ℕ
  pub sum : ℤ
  pub least : Option ℤ
  pub greatest : Option ℤ

-- the lesser and the greater of two numbers, either of which may be missing
abbrev pub lesser : Option ℤ → Option ℤ → Option ℤ
lesser None b = b
lesser (Some x) None = Some x
lesser (Some x) (Some y) = Some (int_min x y)

abbrev pub greater : Option ℤ → Option ℤ → Option ℤ
greater None b = b
greater (Some x) None = Some x
greater (Some x) (Some y) = Some (int_max x y)

-- of a list of numbers

abbrev pub total : List ℤ → ℤ
total [] = pos 0
total (x ∷ xs) = x +ℤ total xs

abbrev pub least_of : List ℤ → Option ℤ
least_of [] = None
least_of (x ∷ xs) = lesser (Some x) (least_of xs)

abbrev pub greatest_of : List ℤ → Option ℤ
greatest_of [] = None
greatest_of (x ∷ xs) = greater (Some x) (greatest_of xs)

-- of a list of rows

abbrev pub measures : List Row → List ℤ
measures rows = map (λ r. r.measures) rows

abbrev pub agg : List Row → Aggregate
agg rows = record {
  count = length rows;
  sum = total (measures rows);
  least = least_of (measures rows);
  greatest = greatest_of (measures rows);
}
