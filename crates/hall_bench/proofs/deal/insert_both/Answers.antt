use mir.Syntax.{named}
use denote.Builtin.{usize}
use denote.Param.Send.{IsSync, sendable, shr_send, shr_slice_send}
use Rattle.std.proofs.alloc.Global.TheSendSync as global
use Rattle.hall_calls.specs.actor_run.proofs.Sent.{pass_send}
use Rattle.hall_calls.specs.actor_run.proofs.hall.Hall.TheSendSync as hall
use Rattle.hall_calls.proofs.Captures.{all-more, all-none, captured}
use Rattle.script_form.proofs.script.Command.TheSendSync as command
use Rattle.hall_bench.proofs.deal.insert_both.Goals as goal

number_sync : IsSync usize
number_sync = search sendable depth 20

pub join-requires-send-F : goal.join-requires-send-F
join-requires-send-F g c κs within =
    let l = named 0 in
    let number = shr_send l κs.0 usize number_sync in
    let numbers = all-more number (all-more number (all-more number all-none)) in
    let shared = all-more (shr_send l _ _ hall.the_sync) (all-more pass_send (all-more (shr_slice_send l _ _ command.the_sync) numbers)) in
    let s = captured (all-more (shr_send l _ _ c.type_bounds.sync-R) (all-more (shr_send l κs.0 _ global.the_sync) shared)) in
    record { owned = s.owned; leaving = s.leaving }

pub join-requires-send-A : goal.join-requires-send-A
join-requires-send-A g c κs within = search (sendable, pass_send) depth 40
