use Rattle.std.proofs.Common.{◌≡◌, length}
use Rattle.std.specs.Prelude.{All}
use Rattle.dim_hierarchy.specs.Rows.{IsRowOf}
use Rattle.tree_tests.proofs.builds.rows.Given as goal

abbrev pub invariant-loop-no : goal.invariant-loop-no
invariant-loop-no l = All (IsRowOf l.h) l.rows.items × (length l.rows.items ≡ l.no)
