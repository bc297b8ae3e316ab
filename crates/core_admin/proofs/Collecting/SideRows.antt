-- The rows of one side of a plane may stand in a queue where all of them may.
use Rattle.std.proofs.{Common.{Bool, List, arith}, lemmas.List.Elements.All-filter, lemmas.List.Sums.{count_by-le-length, length-filter}}
use Rattle.describing_set.specs.{Plane.goes_left, declared.plane.Plane.Plane}
use Rattle.dim_hierarchy.specs.{Dimension.Dimension, Rows.IsRowOf, declared.row.Row.Row}
use Rattle.core_admin.specs.{BuildDue.{is_side, side_of}, FinishDue.CanQueue}

pub side-queue : (h : List Dimension) (plane : Plane) (left : Bool) (rows : List Row) → CanQueue h rows → CanQueue h (side_of h plane left rows)
side-queue h plane left rows all =
    let goes : Row → Bool = λ r. is_side left (goes_left h plane r.at) in
    record {
      valid = All-filter goes (IsRowOf h) rows all.valid;
      few = (let some = length-filter goes rows in let most = count_by-le-length goes rows in let few = all.few in omega (arith, some, most, few));
    }
