use Rattle.std.proofs.Common.{◌≡◌, List, sym, subst}
use Rattle.script_form.specs.declared.script.Command.{Command}
use Rattle.threaded_run.specs.Streams.{AllFit, ClosesLast}
use Rattle.phase_tests.proofs.Fitting.{closes-last, first-fit}
use Rattle.phase_tests.proofs.runs.run_first.Goals as goal

pub run_phase-requires-clause-fits : goal.run_phase-requires-clause-fits
run_phase-requires-clause-fits g c κs within =
    subst (λ (l : List Command). AllFit c.args.hall.now l) (sym c.split_at.ensures.front) (first-fit c.args.hall.now c.args.commands.now c.phase_len-many.result c.requires.fits)

pub run_phase-requires-clause-closes_last : goal.run_phase-requires-clause-closes_last
run_phase-requires-clause-closes_last g c κs within =
    subst ClosesLast (sym c.split_at.ensures.front) (closes-last c.args.commands.now c.phase_len-many.result c.phase_len-many.ensures.some c.phase_len-many.ensures.within c.phase_len-many.ensures.closing)
