use Rattle.std.proofs.Common.{◌∙◌, sym, subst, arith}
use Rattle.job_steps.proofs.{Ending.did-end, Made.{job-asked, job-few, job-kept, opened-since}}
use Rattle.job_steps.specs.{Jobs.CameTo, declared.steps.JobDid.JobDid}
use Rattle.seat_steps.proofs.Since.{unchanged-on}
use Rattle.seat_steps.specs.Booked.{IsUnchanged}
use Rattle.turn_table.proofs.Numbered.{starts_self}
use Rattle.turn_table.specs.Numbered.{Extends}
use Rattle.job_steps.proofs.steps.make_end.Goals as goal

pub make-requires-clause-some : goal.make-requires-clause-some
make-requires-clause-some g c = omega (arith, c.requires.at.count, (job-few c.args.step).0)

pub make-requires-clause-few : goal.make-requires-clause-few
make-requires-clause-few g c = omega (arith, c.requires.at.count, (job-few c.args.step).1)

pub make-requires-clause-asked : goal.make-requires-clause-asked
make-requires-clause-asked g c = job-asked c.args.floor.now c.args.player.now c.requires.seated c.args.step c.requires.due c.requires.at

pub make-requires-clause-kept : goal.make-requires-clause-kept
make-requires-clause-kept g c = job-kept c.args.floor.now.hierarchy c.args.player.now c.args.step c.requires.opened.no_part

pub returns-in-Ok : goal.returns-in-Ok
returns-in-Ok g c = record {
  came = λ p same has.
      subst (λ (r : JobDid). CameTo c.args.floor.now r p c.make.new.player) (sym c.over.ensures)
      (did-end c.args.floor.now p same has c.requires.seated c.make.ensures.stands c.args.step c.requires.ends c.requires.at c.in-Ok.ensures.made);
}

pub give_up-requires-clause-opened : goal.give_up-requires-clause-opened
give_up-requires-clause-opened g c =
    let was = c.args.player.now in
    let now = c.make.new.player in
    let same : IsUnchanged was now = record { number = c.in-Err.ensures.same; actor = c.in-Err.ensures.same_actor; went = c.in-Err.ensures.uncounted; seen = subst (λ l. Extends l was.seat.view.seen) (sym c.in-Err.ensures.same_seen) (starts_self was.seat.view.seen) } in
    opened-since same c.requires.opened

pub give_up-requires-clause-due : goal.give_up-requires-clause-due
give_up-requires-clause-due g c q number actor = c.requires.instead q (number ∙ c.in-Err.ensures.same) (actor ∙ c.in-Err.ensures.same_actor)

pub returns-in-Err : goal.returns-in-Err
returns-in-Err g c =
    let was = c.args.player.now in
    let now = c.make.new.player in
    let still : IsUnchanged was now = record { number = c.in-Err.ensures.same; actor = c.in-Err.ensures.same_actor; went = c.in-Err.ensures.uncounted; seen = subst (λ l. Extends l was.seat.view.seen) (sym c.in-Err.ensures.same_seen) (starts_self was.seat.view.seen) } in
    record { came = λ p same has. c.give_up.ensures.came p (unchanged-on same still) has }
