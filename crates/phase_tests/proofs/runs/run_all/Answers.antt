use Rattle.std.proofs.Common.{◌≡◌, List, sym, subst, arith}
use Rattle.script_form.specs.declared.script.Command.{Command}
use Rattle.threaded_run.specs.Streams.{AllFit}
use Rattle.phase_tests.proofs.Fitting.{rest-fit}
use Rattle.phase_tests.proofs.runs.run_all.Goals as goal

pub loop-done-init : goal.loop-done-init
loop-done-init g c = record { within = omega arith; phased = c.requires.phased }

pub run_first-requires-clause-fits : goal.run_first-requires-clause-fits
run_first-requires-clause-fits g c κs within =
    subst (λ (l : List Command). AllFit c.args.hall.now l) (sym c.split_at.ensures.back) (rest-fit c.args.hall.now c.args.commands.now c.loop-done.done c.requires.fits)
