use Rattle.std.proofs.Common.{ap}
use Rattle.core_tree.specs.volap_cell.specs.{Cells.{StockCell, cell_of}, Values.actor_of}
use Rattle.core_admin.proofs.Reusing.ReusesGateHere.{gate-out, reuse-gate-makes}
use Rattle.core_admin.proofs.reuses.reuse_gate.Goals as goal

pub put-requires : goal.put-requires
put-requires c =
    gate-out c.frame_law.ensures c.args.h.now c.args.gate_at c.args.stock_at (cell_of c.args.gate.now) (cell_of c.args.stock.now) (actor_of c.args.actor.now) c.requires.here c.requires.due
    c.stock_in-stock.result.now (ap cell_of c.stock_in-stock.ensures.value)

pub returns : goal.returns
returns c = record {
  made = reuse-gate-makes c.frame_law.ensures c.args.h.now c.args.gate_at c.args.stock_at (cell_of c.args.gate.now) (cell_of c.args.stock.now) (actor_of c.args.actor.now) c.requires.here c.requires.due
      c.stock_in-stock.result.now _ _
      (ap cell_of c.stock_in-stock.ensures.value)
      c.free.ensures
      (ap StockCell c.put.ensures)
      _ (λ k. record (actor_of c.args.actor.now) { gone_gates = c.take_off.ensures k });
}
