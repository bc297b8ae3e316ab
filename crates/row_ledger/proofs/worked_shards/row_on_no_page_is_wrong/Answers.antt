use Rattle.std.proofs.{Common.{◌≡◌, List, [], ◌∷◌, ◌++◌, length, arith}, lemmas.List.length-append, lemmas.List.Sorted.length_permutation}
use Rattle.std.specs.{List.AllZip, Prelude.flat_map}
use Rattle.dim_hierarchy.specs.declared.row.Row.{Row}
use Rattle.row_ledger.specs.{Pages.IsShardLine, Past.acked_rows, Worked.{site, once}, WorkedShards.{across_split, lines_without}}
use Rattle.row_ledger.proofs.worked_shards.row_on_no_page_is_wrong.Goals as goal

-- the lines have one row together
one_row : (parts : List (List Row)) → AllZip (IsShardLine site.hierarchy (across_split once)) lines_without parts → length (flat_map (λ rows. rows) parts) ≡ 1
one_row [] each = absurd each
one_row (a ∷ []) each = absurd each.1
one_row (a ∷ b ∷ []) each = absurd each.1.1
one_row (a ∷ b ∷ c ∷ []) each =
    rw (length-append a (b ++ (c ++ [])), length-append b (c ++ []), length-append c [])
    (omega (arith, each.0.count, each.1.0.count, each.1.1.0.count))
one_row (a ∷ b ∷ c ∷ d ∷ parts) each = absurd each.1.1.1

pub returns : goal.returns
returns c right =
    let shown = right.each.1.0.shown in
    let two : length (flat_map (λ rows. rows) shown.parts) ≡ length (acked_rows (across_split once)) =
    length_permutation (acked_rows (across_split once)) (flat_map (λ rows. rows) shown.parts) shown.divided in
    omega (arith, two, one_row shown.parts shown.each)
