use mir.Syntax.{named}
use denote.Param.Send.{sendable, shr_send}
use Rattle.std.proofs.alloc.Global.TheSendSync as global
use Rattle.hall_calls.specs.actor_run.proofs.Sent.{pass_send}
use Rattle.hall_calls.specs.actor_run.proofs.hall.Hall.TheSendSync as hall
use Rattle.hall_calls.proofs.Captures.{all-more, all-none, captured}
use Rattle.hall_tests.proofs.board.Board.TheSendSync as board
use Rattle.hall_tests.proofs.plan.Plan.TheSendSync as plan
use Rattle.hall_tests.proofs.work.Report.TheSendSync as report
use Rattle.hall_tests.proofs.stress.work_both.Goals as goal

pub join-requires-send-F : goal.join-requires-send-F
join-requires-send-F g c κs within =
    let l = named 0 in
    let shared = all-more (shr_send l κs.0 _ global.the_sync) (all-more (shr_send l _ _ plan.the_sync) (all-more (shr_send l _ _ board.the_sync) all-none)) in
    let s = captured (all-more (shr_send l _ _ c.type_bounds.sync-R) (all-more (shr_send l _ _ hall.the_sync) (all-more pass_send shared))) in
    record { owned = s.owned; leaving = s.leaving }

pub join-requires-send-A : goal.join-requires-send-A
join-requires-send-A g c κs within = search (sendable, pass_send, report.the_send) depth 30
