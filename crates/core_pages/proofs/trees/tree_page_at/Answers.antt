use Rattle.std.proofs.lemmas.Result.{IfOk-weaker}
use Rattle.core_pages.specs.{Looks.{blocks_of, cells_in, gate_in}, Seen.{IsOfGate, IsSeenIn}, Still.ShowsTree}
use Rattle.core_pages.proofs.StateTrees.{gate-seen, of-gate, seen-in, tall-seen}
use Rattle.core_pages.proofs.trees.tree_page_at.Goals as goal

pub page_of-requires-clause-gate : goal.page_of-requires-clause-gate
page_of-requires-clause-gate g c = gate-seen (g.C.Cells.state c.args.cells.now) c.args.many c.args.gate_at c.requires.state c.requires.can

pub page_of-requires-clause-tall : goal.page_of-requires-clause-tall
page_of-requires-clause-tall g c = tall-seen (g.C.Cells.state c.args.cells.now) c.args.many c.args.gate_at c.requires.state c.requires.can

pub returns-clause-page : goal.returns-clause-page
returns-clause-page g c =
    let state = g.C.Cells.state c.args.cells.now in
    IfOk-weaker c.page_of.result (ShowsTree (gate_in (cells_in state c.args.gate_at)) (blocks_of c.args.many (cells_in state))) (IsSeenIn state) (seen-in state c.args.many c.args.gate_at c.requires.can) c.page_of.ensures.page

pub returns-clause-shard : goal.returns-clause-shard
returns-clause-shard g c =
    let state = g.C.Cells.state c.args.cells.now in
    IfOk-weaker c.page_of.result (ShowsTree (gate_in (cells_in state c.args.gate_at)) (blocks_of c.args.many (cells_in state))) (IsOfGate state c.args.gate_at)
    (λ p shows. of-gate state c.args.many c.args.gate_at c.requires.state c.requires.can p shows.shard) c.page_of.ensures.page
