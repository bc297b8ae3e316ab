use Rattle.part_steps.proofs.PartsMade.{went-taken}
use Rattle.part_steps.proofs.rows.descend.Goals as goal

pub returns : goal.returns
returns g c = record { went = went-taken c.args.floor.now c.args.player.now c.take_down-step.new.player c.make_row.new.player c.take_down-step.ensures.same c.make_row.ensures.went }
