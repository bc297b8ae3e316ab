use Rattle.std.proofs.Common.{◌∙◌, ap, refl, subst, sym}
use Rattle.core_due.specs.{Works.work_due_kind, WorksReady.{IsWorkReady, MaySplit}, declared.works.WorkDue.WorkDue}
use Rattle.core_due.specs.declared.works.WorkDue.TheVariants.{Shows}
use Rattle.core_due.specs.core_steps.specs.Jobs.{job_kind}
use Rattle.seeded_run.specs.{Arms.GoesOnWithCommand, Drives.MayGiveWay}
use Rattle.seeded_run.proofs.{GivesWay.{goes-on-from, note-made, page-stops, split-gives-way, split-may, split-shape}, States.{made-so, may-then, same-items, same-itself}}
use Rattle.core_pages.specs.volap_cell.specs.declared.kind.Kind.{Kind}
use Rattle.seeded_run.proofs.works.go_on_with_work.Goals as goal

pub go_on_with_job-requires-in-Splits-clause-may : goal.go_on_with_job-requires-in-Splits-clause-may
go_on_with_job-requires-in-Splits-clause-may c =
    let x = c.split_end-step in
    let may : MaySplit c.args.h.now c.args.state.now c.args.number c.in-Splits.map c.in-Splits.gate = subst (λ (due : WorkDue). IsWorkReady c.args.h.now c.args.state.now c.args.number due) c.in-Splits.is c.requires.may in
    may-then c.args.state.now x.new.state x.ensures.cells x.ensures.actors c.args.h.now c.args.number _ _ _ (split-may c.args.h.now c.args.state.now c.args.number c.in-Splits.map c.in-Splits.gate may x.result x.ensures.step)

pub go_on_with_job-requires-in-Splits-clause-instead : goal.go_on_with_job-requires-in-Splits-clause-instead
go_on_with_job-requires-in-Splits-clause-instead c =
    let x = c.split_end-step in
    let may : MaySplit c.args.h.now c.args.state.now c.args.number c.in-Splits.map c.in-Splits.gate = subst (λ (due : WorkDue). IsWorkReady c.args.h.now c.args.state.now c.args.number due) c.in-Splits.is c.requires.may in
    split-gives-way c.args.h.now c.args.state.now c.args.number c.in-Splits.map c.in-Splits.gate may x.result x.ensures.step x.new.state (same-items c.args.state.now x.new.state x.ensures.cells x.ensures.actors)
    (subst (λ (due : WorkDue). MayGiveWay c.args.h.now c.args.state.now c.args.number due) c.in-Splits.is c.requires.instead)

pub show_page-requires-clause-instead : goal.show_page-requires-clause-instead
show_page-requires-clause-instead c =
    let gives : MayGiveWay c.args.h.now c.args.state.now c.args.number (Shows c.in-Shows.subject) = subst (λ (due : WorkDue). MayGiveWay c.args.h.now c.args.state.now c.args.number due) c.in-Shows.is c.requires.instead in
    page-stops c.args.h.now c.args.state.now c.args.number c.in-Shows.subject (gives c.args.state.now (same-itself c.args.state.now)).1

pub returns-in-Splits : goal.returns-in-Splits
returns-in-Splits c =
    let x = c.split_end-step in
    let done = c.go_on_with_job-in-Splits in
    let may : MaySplit c.args.h.now c.args.state.now c.args.number c.in-Splits.map c.in-Splits.gate = subst (λ (due : WorkDue). IsWorkReady c.args.h.now c.args.state.now c.args.number due) c.in-Splits.is c.requires.may in
    let shape = split-shape c.args.h.now c.args.state.now c.args.number c.in-Splits.map c.in-Splits.gate may x.result x.ensures.step in
    record {
      made = goes-on-from c.args.state.now x.new.state (same-items c.args.state.now x.new.state x.ensures.cells x.ensures.actors) (work_due_kind c.args.due) c.args.h.now c.args.number done.new.state
          (subst (λ (k : Kind). GoesOnWithCommand c.args.h.now k c.args.number x.new.state done.new.state) (ap job_kind shape.2 ∙ sym (ap work_due_kind c.in-Splits.is)) done.ensures.made);
    }

pub returns-in-Leaves : goal.returns-in-Leaves
returns-in-Leaves c =
    let done = c.make-in-Leaves in
    let ok = done.ensures.sure refl in
    record {
      made = subst (λ (k : Kind). GoesOnWithCommand c.args.h.now k c.args.number c.args.state.now done.new.state) (sym (ap work_due_kind c.in-Leaves.is))
          (note-made c.args.h.now c.args.number c.args.state.now done.new.state (made-so done.result _ ok done.ensures.further) (made-so done.result _ ok done.ensures.told));
    }
