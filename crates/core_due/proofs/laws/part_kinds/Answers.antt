use Rattle.core_due.proofs.PartKinds.{part-kind}
use Rattle.core_due.proofs.laws.part_kinds.Goals as goal

pub returns : goal.returns
returns c = part-kind
