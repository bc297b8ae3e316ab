use Rattle.cell_stock.proofs.Cells.{Takes-AreFresh, none-AreOut, Takes-AreOut, Gives-AreOut}
use Rattle.cell_stock.proofs.stock.laws.Goals as goal

pub returns-clause-fresh : goal.returns-clause-fresh
returns-clause-fresh c = Takes-AreFresh

pub returns-clause-none : goal.returns-clause-none
returns-clause-none c = none-AreOut

pub returns-clause-taken : goal.returns-clause-taken
returns-clause-taken c = Takes-AreOut

pub returns-clause-given : goal.returns-clause-given
returns-clause-given c = Gives-AreOut
