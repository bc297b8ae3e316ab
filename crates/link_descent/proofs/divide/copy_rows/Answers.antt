use Rattle.std.proofs.{Common.{◌<◌, ◌≡◌, length, sym, ap, get_or, take, drop, ◌+◌, ◌∙◌, ◌++◌, ◌∷◌, [], arith}, lemmas.List.{take_more, get_or-drop, length-drop}}
use Rattle.dim_hierarchy.specs.declared.row.Row.{Row}
use Rattle.link_descent.proofs.Items.{no_row, row_there}
use Rattle.link_descent.proofs.divide.copy_rows.Goals as goal

pub loop-number-preserved : goal.loop-number-preserved
loop-number-preserved c =
    let rows = c.args.rows.now.items in
    let first = c.args.first in
    let k = c.loop-number.number in
    let lt : first + k < length rows = omega (arith, c.loop-number-test.true, c.requires.within) in
    let row = get_or rows (first + k) no_row in
    let n = length-drop first rows in
    let more = take_more (drop first rows) k no_row (omega (arith, n, lt)) ∙ ap (λ r. take k (drop first rows) ++ r ∷ []) (get_or-drop first rows k no_row) in
    let pushed = row_there (λ (r : Row). c.copy_row.new.other.items ≡ c.loop-number.copies.items ++ r ∷ []) rows (first + k) lt c.copy_row.ensures.items in
    (pushed ∙ ap (λ l. l ++ row ∷ []) c.loop-number.invariant.0 ∙ sym more, c.copy_row.ensures.len ∙ ap (λ j. j + 1) c.loop-number.invariant.1)
