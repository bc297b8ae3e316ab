use Rattle.std.proofs.Common.{List, [], ◌≡◌, sym, ap, ◌∙◌}
use Rattle.group_answer.specs.{Adding.with_rows, Groups.{Question, all_of, question}}
use Rattle.group_answer.proofs.{StateAcked.acked-in, StateGroups.{few-lines, page-of, rows_in}}
use Rattle.group_answer.proofs.answer.group.Goals as goal

pub all-all-requires : goal.all-all-requires
all-all-requires g c =
    let q = question c.args.h.now c.args.filter.now c.args.dim c.args.level in
    let state = g.C.Cells.state c.args.cells.now in
    let rows = rows_in c.args.servers c.args.many state c.requires.quiet c.requires.count in
    let lines = c.add_shards-added.new.found.lines.items in
    let are : lines ≡ with_rows q rows [] = c.in_ok-added.ensures.lines ∙ ap (λ (x : Question). with_rows x rows []) c.new-asked.ensures in
    let few = few-lines c.args.servers c.args.many state c.requires.quiet c.requires.count q lines are c.args.h.now c.requires.state in
    record { few = few }

pub returns-clause-page : goal.returns-clause-page
returns-clause-page g c =
    let q = question c.args.h.now c.args.filter.now c.args.dim c.args.level in
    let state = g.C.Cells.state c.args.cells.now in
    let rows = rows_in c.args.servers c.args.many state c.requires.quiet c.requires.count in
    let lines = c.add_shards-added.new.found.lines.items in
    let are : lines ≡ with_rows q rows [] = c.in_ok-added.ensures.lines ∙ ap (λ (x : Question). with_rows x rows []) c.new-asked.ensures in
    page-of c.args.servers c.args.many state c.requires.quiet c.requires.count q c.into_lines.result (c.into_lines.ensures ∙ are) c.all-all.result
    (c.all-all.ensures ∙ ap all_of (sym c.into_lines.ensures))

pub returns-clause-acked : goal.returns-clause-acked
returns-clause-acked g c =
    let q = question c.args.h.now c.args.filter.now c.args.dim c.args.level in
    acked-in q (g.C.Cells.state c.args.cells.now) (record { lines = c.into_lines.result; all = c.all-all.result }) (returns-clause-page g c)
