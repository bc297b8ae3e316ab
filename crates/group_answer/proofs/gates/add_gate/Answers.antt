use Rattle.std.proofs.{Common.{List, ◌-◌, ◌≡◌, length, sym, ap, ◌∙◌, arith}, lemmas.List.length-append}
use Rattle.core_pages.specs.Looks.{blocks_of, cells_in, gate_in}
use Rattle.core_pages.specs.shard_store.specs.Gate.{root_entry}
use Rattle.group_answer.specs.{Adding.with_rows, Groups.all_of, Reading.rows_at}
use Rattle.row_ledger.specs.declared.page.GroupLine.{GroupLine}
use Rattle.group_answer.proofs.{RowSteps.{rows-append, rows-few}, Steps.on-ok}
use Rattle.group_answer.proofs.gates.add_gate.Goals as goal

pub add_entry-requires-clause-few : goal.add_entry-requires-clause-few
add_entry-requires-clause-few g c =
    let state = g.C.Cells.state c.args.cells.now in
    let gate = gate_in (cells_in state c.args.at) in
    let blocks = blocks_of c.args.many (cells_in state) in
    let read : length (rows_at (blocks_of c.args.many (cells_in (g.C.Cells.state c.open.new.cells))) (c.in_ok-top.top.height - 1) c.in_ok-top.top.root) ≡ length (rows_at blocks (gate.height - 1) (root_entry gate)) =
    λ k. length (rows_at (blocks_of c.args.many (cells_in (c.open.ensures.same k))) (c.in_ok-top.ensures.height k - 1) (c.in_ok-top.ensures.root k)) in
    let one = rows-few c.args.asked.now gate.queue.rows c.args.found.now.lines.items in
    let sum = length-append gate.queue.rows (rows_at blocks (gate.height - 1) (root_entry gate)) in
    omega (arith, c.requires.few, one, sum, read, ap (λ (l : List GroupLine). (all_of l).count) c.in_ok-top.ensures.lines)

pub returns-clause-lines : goal.returns-clause-lines
returns-clause-lines g c =
    let q = c.args.asked.now in
    let state = g.C.Cells.state c.args.cells.now in
    let gate = gate_in (cells_in state c.args.at) in
    let blocks = blocks_of c.args.many (cells_in state) in
    on-ok c.add_entry.result
    (λ added. added
    ∙ (λ k. with_rows q (rows_at (blocks_of c.args.many (cells_in (c.open.ensures.same k))) (c.in_ok-top.ensures.height k - 1) (c.in_ok-top.ensures.root k)) (c.in_ok-top.ensures.lines k))
    ∙ sym (rows-append q gate.queue.rows (rows_at blocks (gate.height - 1) (root_entry gate)) c.args.found.now.lines.items))
    c.add_entry.ensures.lines
