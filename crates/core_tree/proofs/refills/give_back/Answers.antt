use Rattle.std.proofs.Common.{ap, refl}
use Rattle.volap_cell.specs.{Cells.cell_of, Values.actor_of}
use Rattle.core_tree.proofs.EachStep.FillsPurse.{can-give, give-makes}
use Rattle.core_tree.proofs.refills.give_back.Goals as goal

pub give-requires : goal.give-requires
give-requires c = can-give c.args.h.now c.args.stock_at (cell_of c.args.stock.now) (actor_of c.args.actor.now) c.stock_in.result.now c.requires.here (ap cell_of c.stock_in.ensures.value)

pub returns : goal.returns
returns c = record {
  made = give-makes c.args.h.now c.args.stock_at (cell_of c.args.stock.now) c.stock_in.result.now c.give.new.self (actor_of c.args.actor.now) _ c.args.actor.now.purse c.give.new.purse c.requires.due
      (ap cell_of c.stock_in.ensures.value) refl c.give.ensures.given
      (λ k. record (actor_of c.args.actor.now) { purse = c.give.ensures.given.emptied k });
}
