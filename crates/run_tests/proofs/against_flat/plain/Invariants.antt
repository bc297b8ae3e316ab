use Rattle.std.specs.Prelude.{All}
use Rattle.dim_hierarchy.specs.Rows.{IsRowOf}
use Rattle.run_tests.proofs.against_flat.plain.Given as goal

abbrev pub invariant-loop-i : goal.invariant-loop-i
invariant-loop-i l = All (IsRowOf l.script.hierarchy) l.flat.rows
