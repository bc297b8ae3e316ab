use Rattle.core_laws.proofs.CellUses.{cell-use-law}
use Rattle.core_laws.proofs.laws.each_cell_has_one_use.Goals as goal

pub returns : goal.returns
returns c = cell-use-law
