use Rattle.seeded_run.specs.Machine.{HoldsNow}
use Rattle.seeded_run.proofs.{Phases.ByHand.{after-look, later-then, moved-from-first, stopped-from-first}, Phases.WholePhases.{begins-alone, begins-hands, begins-kept, some-actor, stopped-behind}}
use Rattle.seeded_run.proofs.by_hand.make_whole.Goals as goal

pub look_first-requires-clause-kept : goal.look_first-requires-clause-kept
look_first-requires-clause-kept c = begins-kept c.args.running.now c.requires.first

pub look_first-requires-clause-within : goal.look_first-requires-clause-within
look_first-requires-clause-within c = some-actor c.args.running.now c.requires.first

pub look_first-requires-clause-alone : goal.look_first-requires-clause-alone
look_first-requires-clause-alone c = begins-alone c.args.running.now c.requires.first

pub look_first-requires-clause-hands : goal.look_first-requires-clause-hands
look_first-requires-clause-hands c = begins-hands c.args.running.now c.requires.first

pub make_all-requires : goal.make_all-requires
unfolding HoldsNow
make_all-requires c = record { holds = c.look_first.ensures.held }

pub returns-clause-held : goal.returns-clause-held
unfolding HoldsNow
returns-clause-held c = c.make_all.ensures.holds

pub returns-clause-same : goal.returns-clause-same
returns-clause-same c =
    let later = later-then c.args.running.now c.look_first.new.self c.make_all.new.self (after-look c.args.running.now c.look_first.new.self c.look_first.ensures.same) c.make_all.ensures.later in
    later.same

pub returns-clause-about : goal.returns-clause-about
returns-clause-about c =
    let later = later-then c.args.running.now c.look_first.new.self c.make_all.new.self (after-look c.args.running.now c.look_first.new.self c.look_first.ensures.same) c.make_all.ensures.later in
    later.about

pub returns-clause-into : goal.returns-clause-into
unfolding HoldsNow
returns-clause-into c =
    let later = later-then c.args.running.now c.look_first.new.self c.make_all.new.self (after-look c.args.running.now c.look_first.new.self c.look_first.ensures.same) c.make_all.ensures.later in
    stopped-behind c.args.running.now c.make_all.new.self c.requires.first.before later.same later.about c.make_all.ensures.holds

pub returns-clause-moved : goal.returns-clause-moved
returns-clause-moved c = moved-from-first c.args.running.now c.look_first.new.self c.make_all.new.self c.look_first.ensures.same c.args.moves.now c.make_all.result c.make_all.ensures.moved

pub returns-clause-stopped : goal.returns-clause-stopped
returns-clause-stopped c = stopped-from-first c.args.running.now c.look_first.new.self c.make_all.new.self c.look_first.ensures.same c.args.moves.now c.make_all.result c.make_all.ensures.stopped
