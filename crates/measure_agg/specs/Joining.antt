-- The aggregate of one row, and of two lists of rows together.
use Rattle.std.specs.Prelude.{◌+◌, ℤ, ◌+ℤ◌, Some}
use Rattle.measure_agg.specs.Aggregate.{Aggregate, lesser, greater}

-- of one row with this measure
abbrev pub one : ℤ → Aggregate
one measures = record { count = 1; sum = measures; least = Some measures; greatest = Some measures }

-- of the rows of both
abbrev pub join : Aggregate → Aggregate → Aggregate
join a b = record {
  count = a.count + b.count;
  sum = a.sum +ℤ b.sum;
  least = lesser a.least b.least;
  greatest = greater a.greatest b.greatest;
}
