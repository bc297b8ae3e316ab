use Rattle.std.proofs.Common.{List, ◌≡◌, All, length, sym, ap, ◌∙◌, subst, arith}
use Rattle.dim_hierarchy.specs.{Rows.IsRowOf}
use Rattle.core_pages.specs.Looks.{blocks_of, cells_in}
use Rattle.group_answer.specs.{Adding.with_rows, Groups.all_of, Reading.rows_at}
use Rattle.row_ledger.specs.declared.page.GroupLine.{GroupLine}
use Rattle.group_answer.proofs.Steps.{on-ok}
use Rattle.group_answer.proofs.walk.add_leaves.Goals as goal

pub add_rows-requires-clause-rows : goal.add_rows-requires-clause-rows
add_rows-requires-clause-rows g c =
    let rows_is : c.as_slice.result.now ≡ rows_at (blocks_of c.args.many (cells_in (g.C.Cells.state c.args.cells.now))) 0 c.args.entry.now = c.as_slice.ensures.value ∙ c.in_ok-group.ensures.kept in
    subst (All (IsRowOf c.args.asked.now.hierarchy)) (sym rows_is) c.requires.rows

pub add_rows-requires-clause-few : goal.add_rows-requires-clause-few
add_rows-requires-clause-few g c =
    let rows_is : c.as_slice.result.now ≡ rows_at (blocks_of c.args.many (cells_in (g.C.Cells.state c.args.cells.now))) 0 c.args.entry.now = c.as_slice.ensures.value ∙ c.in_ok-group.ensures.kept in
    omega (arith, c.requires.few, ap length rows_is, ap (λ (l : List GroupLine). (all_of l).count) c.look.ensures.lines)

pub returns-clause-lines : goal.returns-clause-lines
returns-clause-lines g c =
    let rows_is : c.as_slice.result.now ≡ rows_at (blocks_of c.args.many (cells_in (g.C.Cells.state c.args.cells.now))) 0 c.args.entry.now = c.as_slice.ensures.value ∙ c.in_ok-group.ensures.kept in
    on-ok c.add_rows.result (λ added. added ∙ (λ k. with_rows c.args.asked.now (rows_is k) (c.look.ensures.lines k))) c.add_rows.ensures.lines
