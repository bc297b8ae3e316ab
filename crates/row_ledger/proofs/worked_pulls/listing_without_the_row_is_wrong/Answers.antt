use Rattle.std.proofs.{Common.{[], ◌∷◌, arith}, lemmas.Bool.{false≢true}}
use Rattle.dim_hierarchy.specs.Tree as way
use Rattle.row_ledger.specs.Worked.{row}
use Rattle.row_ledger.proofs.worked_pulls.listing_without_the_row_is_wrong.Goals as goal

pub returns : goal.returns
unfolding way.up way.climb
returns c right =
    let lists = (right.each.1.0 (omega arith)).lists in
    false≢true (lists.own 0 (record { server = 0; row = row; path = 0 ∷ [] }) (omega arith))
