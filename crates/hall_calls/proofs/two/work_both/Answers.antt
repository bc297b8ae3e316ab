use mir.Syntax.{named}
use denote.Builtin.{u32}
use denote.Param.Send.{IsSync, sendable, shr_send}
use Rattle.std.proofs.alloc.Global.TheSendSync as global
use Rattle.actor_run.proofs.Sent.{pass_send}
use Rattle.actor_run.proofs.hall.Hall.TheSendSync as hall
use Rattle.dim_hierarchy.specs.contracts.filter.NamePick as pick_row
use Rattle.dim_hierarchy.specs.contracts.items.Items as items_row
use Rattle.dim_hierarchy.proofs.items.Items.TheSendSync as items
use Rattle.dim_hierarchy.proofs.row_names.RowNames.TheSendSync as names
use Rattle.dim_hierarchy.proofs.filter.NamePick.TheSendSync as pick
use Rattle.hall_calls.proofs.Captures.{all-more, all-none, captured}
use Rattle.hall_calls.proofs.work.Told.TheSendSync as told
use Rattle.hall_calls.proofs.two.work_both.Goals as goal

picks_sync : IsSync (items_row.the_row pick_row.the_row)
picks_sync = search (sendable, items.the_sync, pick.the_sync) depth 20

count_sync : IsSync u32
count_sync = search sendable depth 20

pub join-requires-send-F : goal.join-requires-send-F
join-requires-send-F g c κs within =
    let k = κs.1.1.1.1.1.1 in
    let l = named 0 in
    let places = all-more (shr_send l k.1.1.1.0 _ names.the_sync) (all-more (shr_send l k.1.1.1.1.0 _ names.the_sync) (all-more (shr_send l k.1.1.1.1.1.0 _ picks_sync) (all-more (shr_send l k.1.1.1.1.1.1.0 _ count_sync) all-none))) in
    let s = captured (all-more (shr_send l k.0 _ c.type_bounds.sync-R) (all-more (shr_send l k.1.0 _ global.the_sync) (all-more (shr_send l k.1.1.0 _ hall.the_sync) (all-more pass_send places)))) in
    record { owned = s.owned; leaving = s.leaving }

pub join-requires-send-A : goal.join-requires-send-A
join-requires-send-A g c κs within = search (sendable, pass_send, told.the_send) depth 30
