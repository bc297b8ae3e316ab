use Rattle.std.proofs.Common.{◌∙◌, ap, sym, subst}
use Rattle.std.specs.Prelude.{⊤}
use Rattle.core_due.specs.{Look.world_by, Parts.due_kind, Ready.CanDescend, Rows.{descent_of, entrance_of}, declared.parts.PartDue.PartDue}
use Rattle.core_due.specs.core_steps.specs.{Rows.{row_asks, row_places}, Steps.IsFurther}
use Rattle.core_pages.specs.volap_cell.proofs.Outcomes.{on-ok}
use Rattle.core_pages.specs.volap_cell.specs.declared.kind.Kind.{Kind}
use Rattle.seeded_run.specs.Drives.{IsFound, MayGoOn}
use Rattle.seeded_run.proofs.{PartsMade.{found-may, has-second, is-down}, States.may-then}
use Rattle.seeded_run.proofs.parts.make_at_part.Goals as goal

pub make-requires-in-Enters-clause-may : goal.make-requires-in-Enters-clause-may
make-requires-in-Enters-clause-may c =
    let h = c.args.h.now in
    let state = c.args.state.now in
    let n = c.args.number in
    let step = c.entrance-step.result in
    let may = subst (λ (due : PartDue). MayGoOn h state n due) c.in-Enters.is c.requires.may in
    may-then state c.entrance-step.new.state c.entrance-step.ensures.cells c.entrance-step.ensures.actors h n (row_places step) (row_asks step h) (λ s w m. ⊤)
    (found-may h state n (λ a. entrance_of (world_by state.cells.items) a.purse c.in-Enters.map c.in-Enters.gate) step may c.entrance-step.ensures.step)

pub make-requires-in-Descends-clause-may : goal.make-requires-in-Descends-clause-may
make-requires-in-Descends-clause-may c =
    let h = c.args.h.now in
    let state = c.args.state.now in
    let n = c.args.number in
    let block = c.in-Descends.block in
    let may = subst (λ (due : PartDue). MayGoOn h state n due) c.in-Descends.is c.requires.may in
    found-may h state n (λ a. descent_of h (world_by state.cells.items) a block) c.descent-step.result
    (has-second state n (λ a. CanDescend h state.cells.items a block) (λ a. IsFound h state n (descent_of h (world_by state.cells.items) a block)) may) c.descent-step.ensures

pub returns-in-Descends-clause-further : goal.returns-in-Descends-clause-further
returns-in-Descends-clause-further c =
    let h = c.args.h.now in
    let state = c.args.state.now in
    let n = c.args.number in
    let down = is-down h (world_by state.cells.items) state n c.in-Descends.block c.descent-step.result c.descent-step.ensures in
    on-ok c.make-in-Descends.result c.make-in-Descends.ensures.further (λ made. subst (λ (k : Kind). IsFurther h k n state c.make-in-Descends.new.state) (down ∙ sym (ap due_kind c.in-Descends.is)) made)
