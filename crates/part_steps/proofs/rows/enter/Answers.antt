use Rattle.part_steps.proofs.PartsMade.{went-taken}
use Rattle.part_steps.proofs.rows.enter.Goals as goal

pub returns : goal.returns
returns g c = record { went = went-taken c.args.floor.now c.args.player.now c.take_in-step.new.player c.make_row.new.player c.take_in-step.ensures.same c.make_row.ensures.went }
