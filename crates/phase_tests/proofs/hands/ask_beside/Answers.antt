use mir.Syntax.{named}
use denote.Param.Send.{sendable, shr_send}
use Rattle.std.proofs.alloc.Global.TheSendSync as global
use Rattle.hall_hands.specs.actor_run.proofs.Sent.{pass_send}
use Rattle.hall_hands.specs.actor_run.proofs.hall.Hall.TheSendSync as hall
use Rattle.hall_calls.proofs.Captures.{all-more, all-none, captured}
use Rattle.phase_tests.proofs.meets.ByHand.TheSendSync as by_hand
use Rattle.phase_tests.proofs.hands.ask_beside.Goals as goal

pub join-hand-requires-send-F : goal.join-hand-requires-send-F
join-hand-requires-send-F g c κs within =
    let l = named 0 in
    let shared = all-more (shr_send l _ _ hall.the_sync) (all-more pass_send (all-more (shr_send l _ _ by_hand.the_sync) all-none)) in
    let s = captured (all-more (shr_send l _ _ c.type_bounds.sync-R) (all-more (shr_send l κs.0 _ global.the_sync) shared)) in
    record { owned = s.owned; leaving = s.leaving }

pub join-hand-requires-send-A : goal.join-hand-requires-send-A
join-hand-requires-send-A g c κs within = search (sendable, pass_send) depth 30
