use Rattle.std.proofs.Common.{◌≡◌, [], ◌∷◌, length, take}
use Rattle.std.specs.{List.AllZip, Prelude.All}
use Rattle.describing_set.specs.{DescSet.IsSetOf, Sets.IsDescSetOf}
use Rattle.link_descent.proofs.cuts.row_sets.Given as goal

abbrev pub invariant-loop-place : goal.invariant-loop-place
invariant-loop-place l = record {
  sets : AllZip (λ r s. IsSetOf l.h (r.at ∷ []) s) (take l.place l.rows.items) l.sets.items;
  valid : All (IsDescSetOf l.h) l.sets.items;
  count : length l.sets.items ≡ l.place;
}
