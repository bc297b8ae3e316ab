use Rattle.std.proofs.Common.{◌∙◌, Some, ap, subst, sym}
use Rattle.seeded_run.specs.Drives.{StopsJob, kind_of_stop}
use Rattle.seeded_run.proofs.{GivesWay.{goes-on-instead, job-stands, job-stops, stop-is-sure}, States.may-fail}
use Rattle.seeded_run.proofs.works.go_on_with_job.Goals as goal

pub give_way-requires-clause-may : goal.give_way-requires-clause-may
give_way-requires-clause-may c =
    let fails = may-fail _ c.make.result c.in-Err.field-0 c.in-Err.is c.make.ensures.sure in
    subst (StopsJob c.args.h.now c.make.new.state c.args.number) (sym c.is_past_freeze-is_frozen.ensures)
    (job-stops c.args.h.now c.make.new.state c.args.number c.args.step fails (c.requires.instead c.make.new.state c.in-Err.ensures.same).1)

pub returns-in-Err : goal.returns-in-Err
returns-in-Err c =
    let fails = may-fail _ c.make.result c.in-Err.field-0 c.in-Err.is c.make.ensures.sure in
    let frozen = c.is_past_freeze-is_frozen.result in
    record {
      made = goes-on-instead c.args.state.now c.make.new.state c.in-Err.ensures.same _ (kind_of_stop frozen) (job-stands c.args.step fails ∙ ap (λ b. Some (kind_of_stop b)) (sym c.is_past_freeze-is_frozen.ensures)) (stop-is-sure frozen)
          c.args.h.now c.args.number c.give_way.new.state c.give_way.ensures.made;
    }
