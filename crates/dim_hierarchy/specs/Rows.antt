-- The rows of a hierarchy.
use Rattle.std.specs.Prelude.{List}
use Rattle.dim_hierarchy.specs.{Dimension.Dimension, Row.IsCoordOf, declared.row.Row.Row}

-- a row whose coordinate is one of the hierarchy
abbrev pub IsRowOf : List Dimension → Row → Type 0
IsRowOf h row = IsCoordOf h row.at
