use mir.Syntax.{named}
use mathlib.Core.List.{[], ◌∷◌}
use denote.Builtin.{usize, u64}
use denote.Param.Send.{IsSend, IsSync, param_send, sendable, shr_send, shr_slice_send}
use denote.Struct.Tuple.{Tuple}
use Rattle.std.proofs.alloc.Global.TheSendSync as global
use Rattle.hall_calls.specs.actor_run.proofs.Sent.{pass_send}
use Rattle.hall_calls.specs.actor_run.proofs.hall.Hall.TheSendSync as hall
use Rattle.hall_calls.specs.actor_run.specs.contracts.passes.Pass as pass
use Rattle.hall_calls.proofs.Captures.{all-more, all-none, captured}
use Rattle.script_form.proofs.script.Command.TheSendSync as command
use Rattle.hall_bench.proofs.deal.insert_all.Goals as goal

number_sync : IsSync usize
number_sync = search sendable depth 20

both_send : IsSend (Tuple (pass.the_row ∷ pass.the_row ∷ []))
both_send = search (sendable, pass_send) depth 20

one_told : IsSend (Tuple (pass.the_row ∷ u64 ∷ []))
one_told = search (sendable, pass_send) depth 20

both_told : IsSend (Tuple (Tuple (pass.the_row ∷ u64 ∷ []) ∷ Tuple (pass.the_row ∷ u64 ∷ []) ∷ []))
both_told = search (sendable, one_told) depth 20

pub join-requires-send-F : goal.join-requires-send-F
join-requires-send-F g c κs within =
    let l = named 0 in
    let number = shr_send l κs.0 usize number_sync in
    let numbers = all-more number (all-more number all-none) in
    let shared = all-more (shr_send l _ _ hall.the_sync) (all-more both_send (all-more (shr_slice_send l _ _ command.the_sync) numbers)) in
    let s = captured (all-more (shr_send l _ _ c.type_bounds.sync-R) (all-more (shr_send l κs.0 _ global.the_sync) shared)) in
    record { owned = s.owned; leaving = s.leaving }

pub join-requires-send-A : goal.join-requires-send-A
join-requires-send-A g c κs within = let s = param_send 3 _ both_told in record { owned = s.owned; leaving = s.leaving }
