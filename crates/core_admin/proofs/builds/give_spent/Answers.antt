use Rattle.core_admin.proofs.Postponing.PostponeReady.{none-spent}
use Rattle.core_admin.proofs.builds.give_spent.Goals as goal

pub returns-in_default : goal.returns-in_default
returns-in_default c = none-spent c.args.stock.now c.args.stage.now c.in_default.not-Building
