use Rattle.volap_turns.specs.Law.{lawful}
use Rattle.volap_turns.proofs.laws.step_is_lawful.Goals as goal

pub returns : goal.returns
returns c = lawful
