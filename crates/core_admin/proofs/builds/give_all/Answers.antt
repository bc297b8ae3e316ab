use Rattle.core_tree.specs.volap_cell.specs.{AdminKinds.spent_in, Values.stage_of}
use Rattle.core_admin.proofs.builds.give_all.Goals as goal

pub give_spent-requires : goal.give_spent-requires
give_spent-requires c = c.laws.ensures.given c.args.stock.now c.give.new.self c.args.purse.now c.give.new.purse (spent_in (stage_of c.args.job.now.stage)) c.requires.all c.give.ensures.given
