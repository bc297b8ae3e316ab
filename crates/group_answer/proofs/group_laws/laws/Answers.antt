use Rattle.group_answer.proofs.Grouped.{all-groups}
use Rattle.group_answer.proofs.group_laws.laws.Goals as goal

pub returns : goal.returns
returns c = all-groups
