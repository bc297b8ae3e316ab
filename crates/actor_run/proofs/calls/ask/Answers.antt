use Rattle.std.proofs.Common.{◌∙◌, List, refl, sym, subst}
use Rattle.actor_run.proofs.Ends.{as-before-on, as-before-self, asked-behind, still-begins}
use Rattle.dim_hierarchy.specs.{Filter.IsFilterOf, declared.filter.Pick.Pick}
use Rattle.whole_steps.specs.session_steps.specs.Begins.{HasAsked}
use Rattle.actor_run.proofs.calls.ask.Goals as goal

pub loop-init : goal.loop-init
loop-init g c = (as-before-self c.args.floor.now c.args.player.now c.requires.stands, refl)

pub begin_query-requires-clause-stands : goal.begin_query-requires-clause-stands
begin_query-requires-clause-stands g c = c.loop.invariant.0.stands

pub begin_query-requires-clause-begins : goal.begin_query-requires-clause-begins
begin_query-requires-clause-begins g c = still-begins c.args.floor.now c.args.player.now c.loop.player c.requires.begins c.loop.invariant.0

pub begin_query-requires-clause-filter : goal.begin_query-requires-clause-filter
begin_query-requires-clause-filter g c = subst (IsFilterOf c.args.floor.now.hierarchy) (sym c.loop.invariant.1) c.requires.filter

pub loop-preserved : goal.loop-preserved
loop-preserved g c =
    let begun = c.in-Waits.ensures.begun in
    (as-before-on c.args.floor.now c.args.player.now c.loop.player c.begin_query.new.player c.loop.invariant.0 begun.1, begun.0 ∙ c.loop.invariant.1)

pub returns-in-At-clause-begun : goal.returns-in-At-clause-begun
returns-in-At-clause-begun g c =
    let f = c.args.floor.now in
    let has = subst (λ (l : List Pick). HasAsked f c.in-At.of l c.loop.player c.begin_query.new.player) c.loop.invariant.1 c.in-At.ensures.begun in
    asked-behind f c.args.player.now c.loop.player c.begin_query.new.player c.in-At.of c.args.filter c.requires.begins c.loop.invariant.0 has

pub returns-in-NoMemory-clause-same : goal.returns-in-NoMemory-clause-same
returns-in-NoMemory-clause-same g c = as-before-on c.args.floor.now c.args.player.now c.loop.player c.begin_query.new.player c.loop.invariant.0 c.in-NoMemory.ensures.begun
