use Rattle.std.proofs.{Common.{◌≡◌, ◌∙◌, List, None, Option, Some, ap, arith, get_or, option_map, sym}, lemmas.List.get_or_read}
use Rattle.core_pages.specs.volap_cell.specs.{Values.actor_of, declared.cell.Cell.Cell}
use Rattle.core_due.specs.{Look.world_by, Reuses.reuse_due}
use Rattle.seeded_run.specs.declared.turn.DueStep.TheVariants.{Reuses}
use Rattle.seeded_run.proofs.Begun.{over-seen}
use Rattle.seeded_run.proofs.machine.Running.step_when_over.Goals as goal

pub returns-in-Some-reuse_due-clause-step : goal.returns-in-Some-reuse_due-clause-step
returns-in-Some-reuse_due-clause-step c =
    let m = c.args.self.now in
    let actors = m.state.actors.items in
    let n = c.args.number in
    let a = c.in-Some.actor in
    let at : get_or actors n None ≡ Some a = sym (get_or_read actors n _ (omega (arith, c.requires.within, c.requires.held.kept.count)) c.index.ensures None) ∙ c.in-Some.is in
    over-seen m c.requires.held n c.requires.in_order c.requires.over a at
    ∙ ap (λ (cells : List (Option Cell)). option_map Reuses (reuse_due (world_by cells) (actor_of a))) (sym c.deref.ensures.value)
    ∙ ap (option_map Reuses) (sym c.reuse_due.ensures ∙ c.in-Some-reuse_due.is)

pub returns-in-None-clause-step : goal.returns-in-None-clause-step
returns-in-None-clause-step c =
    let m = c.args.self.now in
    let actors = m.state.actors.items in
    let n = c.args.number in
    let a = c.in-Some.actor in
    let at : get_or actors n None ≡ Some a = sym (get_or_read actors n _ (omega (arith, c.requires.within, c.requires.held.kept.count)) c.index.ensures None) ∙ c.in-Some.is in
    over-seen m c.requires.held n c.requires.in_order c.requires.over a at
    ∙ ap (λ (cells : List (Option Cell)). option_map Reuses (reuse_due (world_by cells) (actor_of a))) (sym c.deref.ensures.value)
    ∙ ap (option_map Reuses) (sym c.reuse_due.ensures ∙ c.in-None.is)
