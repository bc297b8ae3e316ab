use Rattle.std.proofs.{Common.{List, ◌≡◌, ◌+◌, ◌∷◌, drop, sym, ap, ◌∙◌, subst, arith}, lemmas.List.{drop_all, drop_more}}
use Rattle.dim_hierarchy.specs.{Rows.IsRowOf, declared.row.Row.Row}
use Rattle.group_answer.specs.{Adding.with_rows, Groups.all_of}
use Rattle.group_answer.proofs.RowSteps.{row-few}
use Rattle.group_answer.proofs.found.Found.add_rows.Goals as goal

pub add_row-requires-clause-row : goal.add_row-requires-clause-row
add_row-requires-clause-row c = subst (IsRowOf c.args.asked.now.hierarchy) (sym c.row-item.is) (c.requires.rows c.loop-row.row-index c.row-item.result c.loop-row-test.true)

pub add_row-requires-clause-few : goal.add_row-requires-clause-few
add_row-requires-clause-few c = omega (arith, c.requires.few, c.loop-row.invariant.few, c.loop-row-test.true)

pub loop-row-preserved : goal.loop-row-preserved
loop-row-preserved c =
    let q = c.args.asked.now in
    let i = c.loop-row.row-index in
    let rows = c.args.rows.now in
    let row = c.row-item.result in
    let before = c.loop-row.self.lines.items in
    let here : drop i rows ≡ row ∷ drop (i + 1) rows = drop_more rows i row c.loop-row-test.true ∙ ap (λ (r : Row). r ∷ drop (i + 1) rows) (sym c.row-item.is) in
    let added = c.in_ok-add_row.ensures.lines in
    let one = row-few q row before in
    record {
      lines = ap (with_rows q (drop (i + 1) rows)) added ∙ ap (λ (l : List Row). with_rows q l before) (sym here) ∙ c.loop-row.invariant.lines;
      few = omega (arith, one, c.loop-row.invariant.few, c.loop-row-test.true, ap (λ l. (all_of l).count) added);
      looks = c.add_row.ensures.looks ∙ c.loop-row.invariant.looks;
    }

pub returns-clause-lines : goal.returns-clause-lines
returns-clause-lines c =
    ap (λ (l : List Row). with_rows c.args.asked.now l c.loop-row.self.lines.items) (sym (drop_all c.loop-row.row-index c.args.rows.now (omega (arith, c.loop-row-test.false)))) ∙ c.loop-row.invariant.lines
