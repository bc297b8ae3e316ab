-- The ids of a path, however many it has.
use Rattle.std.specs.Prelude.{ℕ, List, []}
use Rattle.describing_set.specs.{declared.path.PathIds.PathIds, declared.path.PathIds.TheVariants.{None, One, Many}}

abbrev pub ids_of : PathIds → List ℕ
ids_of None = []
ids_of (One ids) = ids
ids_of (Many ids) = ids.items
