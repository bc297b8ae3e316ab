use Rattle.std.proofs.Common.{◌<◌, length, sym, ap, get_or, ◌+◌, ◌∙◌, ◌++◌, ◌∷◌, [], ◌≡◌, arith}
use Rattle.dim_hierarchy.specs.declared.row.Row.{Row}
use Rattle.link_descent.proofs.Items.{items_at-more, no_row, row_there, row_read}
use Rattle.link_descent.proofs.divide.rows_at.Goals as goal

pub loop-place-preserved : goal.loop-place-preserved
loop-place-preserved c =
    let i = c.loop-place.place-index in
    let rows = c.args.rows.now.items in
    let place = c.from.result in
    let within = c.requires.places i 0 c.loop-place-test.true in
    let lt : place < length rows = omega (arith, within, c.from.ensures) in
    let row = get_or rows place no_row in
    let more = items_at-more rows c.args.places.now i place row c.loop-place-test.true c.from.ensures lt (row_read rows place lt) in
    let pushed = row_there (λ (r : Row). c.copy_row.new.other.items ≡ c.loop-place.some.items ++ r ∷ []) rows place lt c.copy_row.ensures.items in
    (pushed ∙ ap (λ l. l ++ row ∷ []) c.loop-place.invariant.0 ∙ sym more, c.copy_row.ensures.len ∙ ap (λ n. n + 1) c.loop-place.invariant.1)
