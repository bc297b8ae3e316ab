use Rattle.std.proofs.Common.{◌∙◌, ◌≡◌, ap, Bool, cond, List, None, Option, Some, sym, true}
use Rattle.std.specs.Option.{option_map_or}
use Rattle.core_pages.specs.volap_cell.specs.{Values.{actor_of, errand_of}, declared.cell.Cell.Cell}
use Rattle.core_due.specs.{Look.{setting_by, world_by}, Parts.part_due}
use Rattle.seeded_run.specs.{Takes.{free_by, wanted_for}, declared.turn.DueStep.TheVariants.AtPart}
use Rattle.seeded_run.proofs.{WantedFor.{all-free, goes-if-free, none-at-part}, turn.errand_due.Goals.{else-alone, then-alone}}
use Rattle.seeded_run.proofs.turn.errand_due.Goals as goal

pub returns-in_default-clause-step : goal.returns-in_default-clause-step
returns-in_default-clause-step c =
    let state = c.args.state.now in
    let s = setting_by c.args.h.now c.args.with.now in
    let a = actor_of c.args.actor.now in
    let e = errand_of c.args.errand.now in
    none-at-part s (world_by state.cells.items) a e (free_by state.actors.items c.args.number)
    (ap (λ (cells : List (Option Cell)). part_due s (world_by cells) a e) (sym c.deref.ensures.value) ∙ sym c.part_due.ensures ∙ c.in_default.is)

pub returns-then-is_wanted_free-clause-step : goal.returns-then-is_wanted_free-clause-step
returns-then-is_wanted_free-clause-step c =
    let state = c.args.state.now in
    let s = setting_by c.args.h.now c.args.with.now in
    let w = world_by state.cells.items in
    let a = actor_of c.args.actor.now in
    let e = errand_of c.args.errand.now in
    let free = free_by state.actors.items c.args.number in
    let wanted = wanted_for s.hierarchy w e c.in-Some.due in
    let can : option_map_or free wanted true ≡ c.if-alone.value = elim c.if-alone.branch [
      | then-alone x ↦ all-free free (c.requires.alone x.if-alone.true) wanted ∙ sym x.if-alone.true ∙ sym x.value-is
      | else-alone x ↦ sym x.is_wanted_free.ensures ∙ sym x.value-is
    ] in
    goes-if-free s w a e free c.in-Some.due c.if-alone.value (ap (λ (cells : List (Option Cell)). part_due s (world_by cells) a e) (sym c.deref.ensures.value) ∙ sym c.part_due.ensures ∙ c.in-Some.is) can
    ∙ ap (λ (b : Bool). cond b (Some (AtPart c.in-Some.due)) None) c.if-is_wanted_free.true

pub returns-else-is_wanted_free-clause-step : goal.returns-else-is_wanted_free-clause-step
returns-else-is_wanted_free-clause-step c =
    let state = c.args.state.now in
    let s = setting_by c.args.h.now c.args.with.now in
    let w = world_by state.cells.items in
    let a = actor_of c.args.actor.now in
    let e = errand_of c.args.errand.now in
    let free = free_by state.actors.items c.args.number in
    let wanted = wanted_for s.hierarchy w e c.in-Some.due in
    let can : option_map_or free wanted true ≡ c.if-alone.value = elim c.if-alone.branch [
      | then-alone x ↦ all-free free (c.requires.alone x.if-alone.true) wanted ∙ sym x.if-alone.true ∙ sym x.value-is
      | else-alone x ↦ sym x.is_wanted_free.ensures ∙ sym x.value-is
    ] in
    goes-if-free s w a e free c.in-Some.due c.if-alone.value (ap (λ (cells : List (Option Cell)). part_due s (world_by cells) a e) (sym c.deref.ensures.value) ∙ sym c.part_due.ensures ∙ c.in-Some.is) can
    ∙ ap (λ (b : Bool). cond b (Some (AtPart c.in-Some.due)) None) c.if-is_wanted_free.false
