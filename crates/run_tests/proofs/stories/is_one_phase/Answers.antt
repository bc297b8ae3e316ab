use Rattle.std.proofs.{Common.{◌≡◌, ◌≤◌, arith, length, subst}, lemmas.Bool.eqb-true, lemmas.List.take_all}
use Rattle.library_runs.specs.seeded_run.specs.Phase.{ClosesLast}
use Rattle.run_tests.proofs.stories.is_one_phase.Goals as goal
use Rattle.library_runs.specs.olap_top.proofs.PhaseSteps.{closes-last}

pub returns : goal.returns
returns c = λ is.
    let same : c.phase_len.result ≡ length c.args.phase.now = eqb-true _ _ is in
    let all : length c.args.phase.now ≤ c.phase_len.result = omega (arith, same) in
    subst ClosesLast (take_all c.phase_len.result c.args.phase.now all) (closes-last c.args.phase.now c.phase_len.result c.phase_len.ensures.some c.phase_len.ensures.within c.phase_len.ensures.closing)
