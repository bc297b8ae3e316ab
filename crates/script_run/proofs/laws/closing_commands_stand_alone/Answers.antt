use Rattle.script_run.proofs.Closing.{closing-law}
use Rattle.script_run.proofs.laws.closing_commands_stand_alone.Goals as goal

pub returns : goal.returns
returns c = closing-law
