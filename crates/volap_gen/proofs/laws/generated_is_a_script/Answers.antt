use Rattle.volap_gen.proofs.Whole.{generated_read, generated_script}
use Rattle.volap_gen.proofs.laws.generated_is_a_script.Goals as goal

pub returns : goal.returns
returns c = λ rows seed. (generated_read rows seed, generated_script rows seed)
