use Rattle.std.proofs.Common.{ℕ, Bool, true, [], ◌∷◌, refl}
use Rattle.dim_hierarchy.specs.Tree.{is_under, way_up}
use Rattle.row_ledger.specs.Worked.{site, row, for_de, once, opened, answered}
use Rattle.row_ledger.proofs.{Answering.{CanAnswer-insert, KeepsRight-insert, KeepsRight-query}, Growth.IsRight-kept, Opened.{opened_right, opened_answer}}
use Rattle.row_ledger.proofs.worked.row_one_is_right.Goals as goal

abbrev all : ℕ → Bool
all number = true

pub returns : goal.returns
unfolding is_under way_up
returns c =
    let keeps = KeepsRight-insert site all opened 0 0 row (0 ∷ []) (opened_right all) refl refl in
    let can = CanAnswer-insert site all opened [] 0 0 row (0 ∷ []) (opened_right all) (opened_answer all) refl refl in
    IsRight-kept site all (answered once) (KeepsRight-query site all _ 0 0 for_de (row ∷ []) once keeps can refl)
