use Rattle.seeded_run.specs.Machine.{HoldsNow, LeavesAtMost}
use Rattle.seeded_run.proofs.Phases.WholePhases.{PartRun, WholeRun, any-way, begins-alone, begins-hands, begins-kept, ends-so, has-left, on-fault, on-one, some-actor}
use Rattle.seeded_run.proofs.phase.run_whole.Goals as goal

pub look_first-requires-clause-kept : goal.look_first-requires-clause-kept
look_first-requires-clause-kept c = begins-kept c.args.running.now c.requires.first

pub look_first-requires-clause-within : goal.look_first-requires-clause-within
look_first-requires-clause-within c = some-actor c.args.running.now c.requires.first

pub look_first-requires-clause-alone : goal.look_first-requires-clause-alone
look_first-requires-clause-alone c = begins-alone c.args.running.now c.requires.first

pub look_first-requires-clause-hands : goal.look_first-requires-clause-hands
look_first-requires-clause-hands c = begins-hands c.args.running.now c.requires.first

pub run_turns-requires-clause-held : goal.run_turns-requires-clause-held
unfolding HoldsNow
run_turns-requires-clause-held c = c.look_first.ensures.held

pub run_turns-requires-clause-left : goal.run_turns-requires-clause-left
unfolding LeavesAtMost
run_turns-requires-clause-left c = has-left c.look_first.new.self c.look_first.ensures.held.kept

pub returns-clause-held : goal.returns-clause-held
unfolding HoldsNow
returns-clause-held c = c.run_turns.ensures.held

pub returns-clause-same : goal.returns-clause-same
unfolding HoldsNow
returns-clause-same c = (let x = ends-so c.args.running.now c.requires.first c.args.schedule.now c.requires.order c.look_first.new.self c.run_turns.new.running c.look_first.ensures.same c.look_first.ensures.held c.run_turns.ensures.held c.run_turns.new.schedule c.run_turns.result c.run_turns.ensures.turns c.run_turns.ensures.ended c.run_turns.ensures.stopped in any-way c.run_turns.result _ _ _ (λ (w : WholeRun _ _ _ _). w.same) (λ (p : PartRun _ _ _ _). p.same) x.0 x.1)

pub returns-clause-about : goal.returns-clause-about
unfolding HoldsNow
returns-clause-about c = (let x = ends-so c.args.running.now c.requires.first c.args.schedule.now c.requires.order c.look_first.new.self c.run_turns.new.running c.look_first.ensures.same c.look_first.ensures.held c.run_turns.ensures.held c.run_turns.new.schedule c.run_turns.result c.run_turns.ensures.turns c.run_turns.ensures.ended c.run_turns.ensures.stopped in any-way c.run_turns.result _ _ _ (λ (w : WholeRun _ _ _ _). w.about) (λ (p : PartRun _ _ _ _). p.about) x.0 x.1)

pub returns-clause-order : goal.returns-clause-order
unfolding HoldsNow
returns-clause-order c = (let x = ends-so c.args.running.now c.requires.first c.args.schedule.now c.requires.order c.look_first.new.self c.run_turns.new.running c.look_first.ensures.same c.look_first.ensures.held c.run_turns.ensures.held c.run_turns.new.schedule c.run_turns.result c.run_turns.ensures.turns c.run_turns.ensures.ended c.run_turns.ensures.stopped in any-way c.run_turns.result _ _ _ (λ (w : WholeRun _ _ _ _). w.order) (λ (p : PartRun _ _ _ _). p.order) x.0 x.1)

pub returns-clause-turns : goal.returns-clause-turns
unfolding HoldsNow
returns-clause-turns c = (let x = ends-so c.args.running.now c.requires.first c.args.schedule.now c.requires.order c.look_first.new.self c.run_turns.new.running c.look_first.ensures.same c.look_first.ensures.held c.run_turns.ensures.held c.run_turns.new.schedule c.run_turns.result c.run_turns.ensures.turns c.run_turns.ensures.ended c.run_turns.ensures.stopped in on-one c.run_turns.result _ _ (λ (w : WholeRun _ _ _ _). w.turns) x.0)

pub returns-clause-rested : goal.returns-clause-rested
unfolding HoldsNow
returns-clause-rested c = (let x = ends-so c.args.running.now c.requires.first c.args.schedule.now c.requires.order c.look_first.new.self c.run_turns.new.running c.look_first.ensures.same c.look_first.ensures.held c.run_turns.ensures.held c.run_turns.new.schedule c.run_turns.result c.run_turns.ensures.turns c.run_turns.ensures.ended c.run_turns.ensures.stopped in on-one c.run_turns.result _ _ (λ (w : WholeRun _ _ _ _). w.rested) x.0)

pub returns-clause-idle : goal.returns-clause-idle
unfolding HoldsNow
returns-clause-idle c = (let x = ends-so c.args.running.now c.requires.first c.args.schedule.now c.requires.order c.look_first.new.self c.run_turns.new.running c.look_first.ensures.same c.look_first.ensures.held c.run_turns.ensures.held c.run_turns.new.schedule c.run_turns.result c.run_turns.ensures.turns c.run_turns.ensures.ended c.run_turns.ensures.stopped in on-one c.run_turns.result _ _ (λ (w : WholeRun _ _ _ _). w.idle) x.0)

pub returns-clause-begun : goal.returns-clause-begun
unfolding HoldsNow
returns-clause-begun c = (let x = ends-so c.args.running.now c.requires.first c.args.schedule.now c.requires.order c.look_first.new.self c.run_turns.new.running c.look_first.ensures.same c.look_first.ensures.held c.run_turns.ensures.held c.run_turns.new.schedule c.run_turns.result c.run_turns.ensures.turns c.run_turns.ensures.ended c.run_turns.ensures.stopped in on-one c.run_turns.result _ _ (λ (w : WholeRun _ _ _ _). w.begun) x.0)

pub returns-clause-behind : goal.returns-clause-behind
unfolding HoldsNow
returns-clause-behind c = (let x = ends-so c.args.running.now c.requires.first c.args.schedule.now c.requires.order c.look_first.new.self c.run_turns.new.running c.look_first.ensures.same c.look_first.ensures.held c.run_turns.ensures.held c.run_turns.new.schedule c.run_turns.result c.run_turns.ensures.turns c.run_turns.ensures.ended c.run_turns.ensures.stopped in on-one c.run_turns.result _ _ (λ (w : WholeRun _ _ _ _). w.behind) x.0)

pub returns-clause-stopped : goal.returns-clause-stopped
unfolding HoldsNow
returns-clause-stopped c = (let x = ends-so c.args.running.now c.requires.first c.args.schedule.now c.requires.order c.look_first.new.self c.run_turns.new.running c.look_first.ensures.same c.look_first.ensures.held c.run_turns.ensures.held c.run_turns.new.schedule c.run_turns.result c.run_turns.ensures.turns c.run_turns.ensures.ended c.run_turns.ensures.stopped in on-fault c.run_turns.result _ _ (λ (p : PartRun _ _ _ _). p.stopped) x.1)

pub returns-clause-into : goal.returns-clause-into
unfolding HoldsNow
returns-clause-into c = (let x = ends-so c.args.running.now c.requires.first c.args.schedule.now c.requires.order c.look_first.new.self c.run_turns.new.running c.look_first.ensures.same c.look_first.ensures.held c.run_turns.ensures.held c.run_turns.new.schedule c.run_turns.result c.run_turns.ensures.turns c.run_turns.ensures.ended c.run_turns.ensures.stopped in on-fault c.run_turns.result _ _ (λ (p : PartRun _ _ _ _). p.behind) x.1)
