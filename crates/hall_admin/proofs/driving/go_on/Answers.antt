use Rattle.actor_run.specs.call_steps.proofs.OpenCalls.{call-done}
use Rattle.hall_admin.proofs.OpenJobs.{action-done, left-on, may-end, may-leave, passed-on, step-on, still-open}
use Rattle.hall_admin.proofs.driving.go_on.Goals as goal

pub go_on_with_job-requires : goal.go_on_with_job-requires
go_on_with_job-requires g c = (let o = c.requires.opened.3 in record { stands = o.opened.stands; opened = o.has })

pub leave_action-requires : goal.leave_action-requires
leave_action-requires g c =
    let o = c.requires.opened in
    record {
      stands = c.in-Leaves.ensures.came.same.stands;
      leaves = may-leave c.args.floor.now o.0 o.1 o.2 c.args.player.now o.3 c.go_on_with_job.new.player c.in-Leaves.ensures.came;
    }

pub end_call-requires : goal.end_call-requires
end_call-requires g c =
    let o = c.requires.opened in
    record {
      stands = c.in-Ends.ensures.came.same.stands;
      ends = may-end c.args.floor.now o.0 o.1 o.2 c.args.player.now o.3 c.in-Ends.how c.go_on_with_job.new.player c.in-Ends.ensures.came;
    }

pub returns-in-Step : goal.returns-in-Step
returns-in-Step g c = record { goes = λ of call start is_open. step-on c.args.floor.now of call start c.args.player.now is_open c.go_on_with_job.new.player c.in-Step.ensures.came }

pub returns-in-Passed : goal.returns-in-Passed
returns-in-Passed g c = record { goes = λ of call start is_open. passed-on c.args.floor.now of call start c.args.player.now is_open c.go_on_with_job.new.player c.in-Passed.ensures.came }

pub returns-in-Waits : goal.returns-in-Waits
returns-in-Waits g c = record { goes = λ of call start is_open. still-open c.args.floor.now of call start c.args.player.now is_open c.go_on_with_job.new.player c.in-Waits.ensures.came }

pub returns-in-Leaves : goal.returns-in-Leaves
returns-in-Leaves g c = record {
  goes = λ of call start is_open.
      let f = c.args.floor.now in
      let mid = c.go_on_with_job.new.player in
      let on = still-open f of call start c.args.player.now is_open mid c.in-Leaves.ensures.came.same in
      left-on f of call start mid on c.leave_action.new.player c.leave_action.ensures.left;
}

pub returns-in-Ends : goal.returns-in-Ends
returns-in-Ends g c = record {
  goes = λ of call start is_open.
      let f = c.args.floor.now in
      let mid = c.go_on_with_job.new.player in
      let on = still-open f of call start c.args.player.now is_open mid c.in-Ends.ensures.came.same in
      call-done f of call start mid on.opened c.in-Ends.how c.end_call.new.player c.end_call.ensures.ended;
}

pub returns-in-Ended : goal.returns-in-Ended
returns-in-Ended g c = record { goes = λ of call start is_open. action-done c.args.floor.now of call start c.args.player.now is_open c.in-Ended.how c.go_on_with_job.new.player c.in-Ended.ensures.came }
