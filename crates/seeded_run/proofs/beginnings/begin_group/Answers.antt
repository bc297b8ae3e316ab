use Rattle.std.proofs.Common.{refl}
use Rattle.script_form.specs.declared.script.Command.TheVariants.{Group}
use Rattle.seeded_run.proofs.{Ready.BeginsReady.{begun-group, group-may}, States.core-sound}
use Rattle.seeded_run.proofs.beginnings.begin_group.Goals as goal

pub make-requires-clause-sound : goal.make-requires-clause-sound
make-requires-clause-sound c = core-sound c.args.h.now c.args.with.now c.args.state.now c.requires.core

pub make-requires-clause-may : goal.make-requires-clause-may
make-requires-clause-may c =
    group-may c.args.h.now c.args.with.now c.args.state.now c.requires.core c.args.number c.args.dim c.args.level c.args.names.now c.requires.begins c.in_ok-filter.filter c.in_ok-filter.ensures.ok

pub returns-clause-begun : goal.returns-clause-begun
returns-clause-begun c =
    begun-group c.args.h.now c.args.with.now c.args.state.now c.requires.core c.args.number (Group c.args.dim c.args.level c.args.names.now) c.requires.begins c.make.new.state
    c.args.dim c.args.level c.args.names.now refl c.in_ok-filter.filter c.in_ok-filter.ensures.ok c.in_ok-make.ensures.told
