use Rattle.std.proofs.Common.{[], ◌-◌, ◌∙◌, ap, length, slice_get, sym, List}
use Rattle.std.specs.Prelude.{Some}
use Rattle.cell_stock.specs.declared.purse.Spare.{Spare}
use Rattle.core_due.specs.{Look.setting_by, Works.{finish_due, move_with}, declared.works.WorkDue.TheVariants.Jobs}
use Rattle.core_due.proofs.LastItems.{last-at}
use Rattle.core_steps.specs.declared.jobs.JobStep.{JobStep}
use Rattle.core_steps.specs.volap_cell.specs.Values.{actor_of, job_of}
use Rattle.core_due.proofs.works.finish_due.Goals as goal

pub returns-in-Some-last : goal.returns-in-Some-last
returns-in-Some-last c =
    let found = ap (λ (xs : List Spare). slice_get xs (length xs - 1)) c.in-Some-last.ensures.some.1 ∙ last-at c.in-Some-last.ensures.some.0 c.in-Some-last.spare in
    ap (λ (step : JobStep). Some (Jobs step)) c.move_due.ensures
    ∙ sym (ap (finish_due (setting_by [] c.args.with.now) (actor_of c.args.actor.now) (job_of c.args.job.now) c.args.gate) c.in-Some.is
    ∙ ap (move_with (setting_by [] c.args.with.now) (job_of c.args.job.now) c.args.gate c.in-Some.to) found)
