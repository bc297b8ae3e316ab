use Rattle.core_laws.proofs.InLine.{line-law}
use Rattle.core_laws.proofs.laws.acknowledged_rows_stay_in_line.Goals as goal

pub returns : goal.returns
returns c = line-law
