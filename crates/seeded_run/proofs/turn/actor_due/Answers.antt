use Rattle.std.proofs.Common.{◌∙◌, Option, ap, false, option_copied, option_map}
use Rattle.std.specs.Option.{option_map_or}
use Rattle.core_pages.specs.volap_cell.specs.{Values.{actor_of, errand_of}, declared.errand.Errand.Errand}
use Rattle.core_due.specs.Look.{setting_by, world_by}
use Rattle.seeded_run.specs.{Due.actor_kind, DueSteps.{actor_step, step_where}, Look.{ahead, alone_by}, Takes.is_free_by}
use Rattle.seeded_run.proofs.TurnsDue.{at-no-part}
use Rattle.seeded_run.proofs.turn.actor_due.Goals as goal

pub returns-in-None-clause-step : goal.returns-in-None-clause-step
returns-in-None-clause-step c =
    let state = c.args.state.now in
    let h = c.args.h.now in
    let with = c.args.with.now in
    let s = setting_by h with in
    let w = world_by state.cells.items in
    let alone = alone_by state.actors.items c.args.number (option_copied c.args.next) c.args.left in
    let rest = ahead (option_copied c.args.next) in
    let a = actor_of c.args.actor.now in
    ap (λ (o : Option Errand). step_where (option_map_or (is_free_by h with state.cells.items state.actors.items c.args.number (option_map errand_of o)) (actor_kind s w alone rest a (option_map errand_of o)) false)
    (actor_step s w alone rest a (option_map errand_of o))) c.in-None.is
    ∙ at-no-part s w alone rest a
    ∙ c.purse_due.ensures.step h
