use Rattle.std.proofs.Common.{refl}
use Rattle.row_ledger.specs.declared.class.Subject.TheVariants as subject
use Rattle.actor_run.proofs.hall.Hall.tree.Goals as goal

pub told-requires-clause-page : goal.told-requires-clause-page
told-requires-clause-page g c = (subject.Tree c.args.shard, refl)
