use Rattle.std.proofs.{Common.{◌∙◌, ◌≡◌, List, Option, None, Some, ap, get_or, option_copied, subst, sym}, lemmas.List.get_or_read}
use Rattle.core_pages.specs.volap_cell.specs.{Values.actor_of, declared.cell.Cell.Cell}
use Rattle.core_due.specs.{Look.world_by, Wants.is_drained}
use Rattle.seeded_run.specs.Takes.{AsksHere}
use Rattle.seeded_run.proofs.Takings.{bytes-so, can-pick, desk-empty, stays-so, steps-so}
use Rattle.seeded_run.proofs.turn.due.Goals as goal

pub returns-then-not-is_drained-clause-step : goal.returns-then-not-is_drained-clause-step
returns-then-not-is_drained-clause-step c = λ s w rest core told.
    let actors = c.args.state.now.actors.items in
    let cells = c.args.state.now.cells.items in
    let a = c.in-Some.actor in
    let at : get_or actors c.args.number None ≡ Some a = sym (get_or_read actors c.args.number _ c.requires.within c.index.ensures None) ∙ c.in-Some.is in
    stays-so c.args.h.now c.args.with.now cells actors s w c.args.number core c.requires.within a at rest (option_copied c.args.next) c.args.left told
    (ap (λ (cs : List (Option Cell)). is_drained (world_by cs) (actor_of a).job) (sym c.deref.ensures.value) ∙ sym c.is_drained.ensures ∙ c.if-not-is_drained.true)

pub actor_due-requires-clause-fits : goal.actor_due-requires-clause-fits
actor_due-requires-clause-fits c = λ e is.
    let actors = c.args.state.now.actors.items in
    let core = c.requires.core in
    let at : get_or actors c.args.number None ≡ Some c.in-Some.actor = sym (get_or_read actors c.args.number _ c.requires.within c.index.ensures None) ∙ c.in-Some.is in
    can-pick c.args.h.now c.args.with.now c.args.state.now.cells.items actors core.setting core.world c.args.number core.is_core c.requires.within c.in-Some.actor at c.tree_laws.ensures.block e is

pub actor_due-requires-clause-desk : goal.actor_due-requires-clause-desk
actor_due-requires-clause-desk c = λ none.
    let actors = c.args.state.now.actors.items in
    let core = c.requires.core in
    let at : get_or actors c.args.number None ≡ Some c.in-Some.actor = sym (get_or_read actors c.args.number _ c.requires.within c.index.ensures None) ∙ c.in-Some.is in
    desk-empty c.args.h.now c.args.with.now c.args.state.now.cells.items actors core.setting core.world c.args.number core.is_core c.requires.within c.in-Some.actor at (option_copied c.args.next)
    (subst (λ o. AsksHere o (option_copied c.args.next)) at c.requires.asks) none

pub returns-clause-step : goal.returns-clause-step
returns-clause-step c = λ s w rest core told.
    let actors = c.args.state.now.actors.items in
    let cells = c.args.state.now.cells.items in
    let a = c.in-Some.actor in
    let at : get_or actors c.args.number None ≡ Some a = sym (get_or_read actors c.args.number _ c.requires.within c.index.ensures None) ∙ c.in-Some.is in
    steps-so c.args.h.now c.args.with.now cells actors s w c.args.number core c.requires.within a at rest (option_copied c.args.next) c.args.left told
    (ap (λ (cs : List (Option Cell)). is_drained (world_by cs) (actor_of a).job) (sym c.deref.ensures.value) ∙ sym c.is_drained.ensures ∙ c.if-not-is_drained.false) c.actor_due.result c.actor_due.ensures.step

pub returns-clause-bytes : goal.returns-clause-bytes
returns-clause-bytes c = λ s w core.
    let actors = c.args.state.now.actors.items in
    let at : get_or actors c.args.number None ≡ Some c.in-Some.actor = sym (get_or_read actors c.args.number _ c.requires.within c.index.ensures None) ∙ c.in-Some.is in
    bytes-so c.args.h.now c.args.with.now c.args.state.now.cells.items actors s w c.args.number core c.requires.within c.in-Some.actor at c.actor_due.result c.actor_due.ensures.bytes
