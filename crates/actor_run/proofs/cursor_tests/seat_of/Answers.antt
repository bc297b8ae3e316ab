use Rattle.actor_run.proofs.Given.{bare, rests}
use Rattle.whole_steps.specs.volap_turns.specs.Law.{rests-free}
use Rattle.actor_run.proofs.cursor_tests.seat_of.Goals as goal

pub returns-clause-empty : goal.returns-clause-empty
returns-clause-empty c = bare c.pass.invariant

pub returns-clause-idle : goal.returns-clause-idle
returns-clause-idle c j x y has needs = rests-free x y (rests c.pass.invariant j x has) needs
