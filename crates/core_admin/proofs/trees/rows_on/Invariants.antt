use Rattle.std.proofs.Common.{◌≡◌, take}
use Rattle.core_admin.specs.BuildDue.{side_of}
use Rattle.core_admin.proofs.trees.rows_on.Given as goal

abbrev pub invariant-loop-row : goal.invariant-loop-row
invariant-loop-row l = record { found : l.found.items ≡ side_of l.h l.plane l.fn.left (take l.row-index l.rows) }
