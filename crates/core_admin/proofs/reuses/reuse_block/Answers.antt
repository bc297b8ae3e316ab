use Rattle.std.proofs.Common.{IsSome, ap, subst, sym, refl}
use Rattle.core_tree.specs.shard_store.specs.declared.gate.Phase.TheVariants.{Gone}
use Rattle.core_tree.specs.volap_cell.specs.{Cells.{GateCell, StockCell, cell_of, gate_shard}, Values.actor_of}
use Rattle.core_admin.proofs.Reusing.ReusesHere.{gate-in, block-out, listed, reuse-block-makes}
use Rattle.core_admin.proofs.reuses.reuse_block.Goals as goal

pub gate_in-gate-requires : goal.gate_in-gate-requires
gate_in-gate-requires c =
    let (x, is) = gate-in (cell_of c.args.gate.now) Gone c.requires.due.can.gone in
    subst IsSome (sym (ap gate_shard is)) refl

pub shorten-requires : goal.shorten-requires
shorten-requires c = record {
  some = listed c.frame_law.ensures c.args.h.now c.args.gate_at c.args.at c.args.stock_at (cell_of c.args.gate.now) (cell_of c.args.block.now) (cell_of c.args.stock.now) (actor_of c.args.actor.now) c.requires.here c.requires.due
      c.gate_in-gate.result.now (ap cell_of c.gate_in-gate.ensures.value);
}

pub put-requires : goal.put-requires
put-requires c =
    block-out c.frame_law.ensures c.args.h.now c.args.gate_at c.args.at c.args.stock_at (cell_of c.args.gate.now) (cell_of c.args.block.now) (cell_of c.args.stock.now) (actor_of c.args.actor.now) c.requires.here c.requires.due
    c.stock_in-stock.result.now (ap cell_of c.stock_in-stock.ensures.value)

pub returns : goal.returns
returns c = record {
  made = reuse-block-makes c.frame_law.ensures c.args.h.now c.args.gate_at c.args.at c.args.stock_at (cell_of c.args.gate.now) (cell_of c.args.block.now) (cell_of c.args.stock.now) (actor_of c.args.actor.now) c.requires.here c.requires.due
      c.gate_in-gate.result.now c.shorten.new.gate.gone c.shorten.ensures.last.0 c.stock_in-stock.result.now _ _ _
      (ap cell_of c.gate_in-gate.ensures.value)
      (ap cell_of c.stock_in-stock.ensures.value)
      c.shorten.ensures.last.1
      (ap GateCell c.shorten.ensures.same)
      c.free.ensures
      (ap StockCell c.put.ensures);
}
