use Rattle.script_run.proofs.Whole.{part_law, serial_law}
use Rattle.script_run.proofs.laws.parts_by_places.Goals as goal

pub returns-clause-part : goal.returns-clause-part
returns-clause-part c = part_law

pub returns-clause-serial : goal.returns-clause-serial
returns-clause-serial c = serial_law
