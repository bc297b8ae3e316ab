use Rattle.std.proofs.Common.{refl, ◌∙◌}
use Rattle.link_descent.proofs.Steps.{Enters-halves, Enters-cuts, fresh_with_top}
use Rattle.link_descent.proofs.descend.enter_root.Goals as goal

pub returns-in-Half-clause-step : goal.returns-in-Half-clause-step
returns-in-Half-clause-step c =
    let gate = c.args.gate.now in
    Enters-halves c.args.h.now c.args.row.now c.args.tail.now gate (record gate { agg = c.add_row.new.self.agg; set = c.add_row.new.self.set }) c.args.root.now c.make_room-room.new.head c.args.purse.now c.make_room-room.new.purse c.one.result
    c.root_entry-entry.result c.add_row.new.self c.in-Half.fresh c.root_entry-entry.ensures c.add_row.ensures refl c.in-Half.ensures.step c.one.ensures.fresh (c.one.ensures.at ∙ c.add_row.ensures.child)

pub returns-in-Two-clause-step : goal.returns-in-Two-clause-step
returns-in-Two-clause-step c =
    Enters-cuts c.args.h.now c.args.row.now c.args.tail.now c.args.gate.now c.raise.new.gate c.args.root.now c.make_room-room.new.head c.args.purse.now c.make_room-room.new.purse c.raise.new.purse c.raise.result
    c.root_entry-entry.result c.add_row.new.self c.in-Two.left c.in-Two.right c.in-Two.fresh c.root_entry-entry.ensures c.add_row.ensures c.in-Two.ensures.step c.raise.ensures.raised

pub returns-in-Two-clause-fresh : goal.returns-in-Two-clause-fresh
returns-in-Two-clause-fresh c =
    let new = c.in-Two.ensures.new in
    fresh_with_top c.args.h.now (record c.args.gate.now { agg = c.add_row.new.self.agg; set = c.add_row.new.self.set }) c.raise.new.gate c.in-Two.fresh c.in-Two.left c.in-Two.right c.make_room-room.new.purse c.raise.new.purse c.raise.result
    c.raise.ensures.raised new.0 new.1.valid new.2.valid
