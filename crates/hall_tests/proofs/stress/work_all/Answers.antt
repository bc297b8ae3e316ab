use mir.Syntax.{named}
use mathlib.Core.List.{[], ◌∷◌}
use denote.Param.Send.{IsSend, param_send, sendable, shr_send}
use denote.Struct.Tuple.{Tuple}
use Rattle.std.proofs.alloc.Global.TheSendSync as global
use Rattle.hall_calls.specs.actor_run.proofs.Sent.{pass_send}
use Rattle.hall_calls.specs.actor_run.proofs.hall.Hall.TheSendSync as hall
use Rattle.hall_calls.specs.actor_run.specs.contracts.passes.Pass as pass
use Rattle.hall_calls.proofs.Captures.{all-more, all-none, captured}
use Rattle.hall_tests.proofs.board.Board.TheSendSync as board
use Rattle.hall_tests.proofs.plan.Plan.TheSendSync as plan
use Rattle.hall_tests.proofs.work.Report.TheSendSync as report
use Rattle.hall_tests.specs.contracts.work.Report as report_row
use Rattle.hall_tests.proofs.stress.work_all.Goals as goal

one_send : IsSend (Tuple (pass.the_row ∷ report_row.the_row ∷ []))
one_send = search (sendable, pass_send, report.the_send) depth 20

both_send : IsSend (Tuple (Tuple (pass.the_row ∷ report_row.the_row ∷ []) ∷ Tuple (pass.the_row ∷ report_row.the_row ∷ []) ∷ []))
both_send = search (sendable, one_send) depth 20

pub join-requires-send-F : goal.join-requires-send-F
join-requires-send-F g c κs within =
    let l = named 0 in
    let passes = all-more pass_send (all-more pass_send all-none) in
    let shared = all-more (shr_send l _ _ hall.the_sync) (all-more (shr_send l _ _ plan.the_sync) (all-more (shr_send l _ _ board.the_sync) passes)) in
    let s = captured (all-more (shr_send l _ _ c.type_bounds.sync-R) (all-more (shr_send l κs.0 _ global.the_sync) shared)) in
    record { owned = s.owned; leaving = s.leaving }

pub join-requires-send-A : goal.join-requires-send-A
join-requires-send-A g c κs within = let s = param_send 3 _ both_send in record { owned = s.owned; leaving = s.leaving }
