-- A pass may go to another thread, with the actor and the seat that it has.
use denote.RattleType.{RattleType}
use denote.Hole.{as_row}
use denote.Param.Send.{IsSend, sendable}
use denote.Param.SendFields.{declared_send, variants_send, as_row_send}
use Rattle.std.proofs.Crossing as heap
use Rattle.std.proofs.vec.Vec.TheSendSync as vec
use Rattle.std.proofs.boxed.Box.TheSendSync as box
use Rattle.std.proofs.alloc.Global.TheSendSync as global
use Rattle.std.specs.contracts.snapshot.Snapshot as snapshot
use Rattle.cell_stock.proofs.purse.Purse.TheSendSync as purse
use Rattle.dc_node.proofs.todo.Todo.TheSendSync as todo
use Rattle.dim_hierarchy.specs.contracts.compiled.CompiledFilter as compiled
use Rattle.dim_hierarchy.specs.contracts.compiled.CompiledFilter.TheInside as compiled_inside
use Rattle.dim_hierarchy.specs.contracts.filter.Pick as pick_row
use Rattle.dim_hierarchy.specs.contracts.hierarchy.Hierarchy as hierarchy
use Rattle.dim_hierarchy.specs.contracts.items.Items as items_row
use Rattle.dim_hierarchy.proofs.dim_marks.DimMarks.TheSendSync as marks
use Rattle.dim_hierarchy.proofs.items.Items.TheSendSync as items
use Rattle.dim_hierarchy.proofs.filter.Pick.TheSendSync as pick
use Rattle.row_ledger.specs.contracts.settings.Use as settings
use Rattle.actor_run.specs.contracts.passes.Pass as pass
use Rattle.actor_run.specs.contracts.passes.Pass.TheInside as pass_inside
use Rattle.whole_steps.specs.seat_steps.specs.contracts.floor.Player as player
use Rattle.turn_table.proofs.seat.Seat.TheSendSync as seat
use Rattle.whole_steps.specs.volap_cell.specs.contracts.actor.Actor as actor
use Rattle.whole_steps.specs.volap_cell.specs.contracts.actor.About as about
use Rattle.whole_steps.specs.volap_cell.specs.contracts.errand.Errand as errand
use Rattle.whole_steps.specs.volap_cell.specs.contracts.errand.Task as task
use Rattle.whole_steps.specs.volap_cell.specs.contracts.errand.Reading as reading
use Rattle.whole_steps.specs.volap_cell.specs.contracts.role.Role as role
use Rattle.whole_steps.specs.volap_cell.proofs.errand.RowErrand.TheSendSync as row_errand
use Rattle.whole_steps.specs.volap_cell.proofs.boxes.Boxes.TheSendSync as boxes
use Rattle.whole_steps.specs.volap_cell.proofs.cell.Cell.TheSendSync as cell
use Rattle.whole_steps.specs.volap_cell.proofs.command.Command.TheSendSync as command
use Rattle.whole_steps.specs.volap_cell.proofs.job.Job.TheSendSync as job
use Rattle.whole_steps.specs.volap_cell.proofs.gone_gates.GoneGates.TheSendSync as gone

-- a snapshot owns nothing
snapshot_send : (Y : RattleType) → IsSend (as_row (snapshot.the_field Y))
snapshot_send Y = as_row_send (snapshot.the_field Y) (record { owned = λ d vs. ((λ vss. (tt, ((λ uss. (tt, tt)), tt))), tt); leaving = λ k f vs. tt })

marks_send : IsSend compiled_inside.the_row
marks_send = declared_send compiled_inside.the_type
    (snapshot_send hierarchy.the_row, (snapshot_send (items_row.the_row pick_row.the_row), (search (sendable, vec.the_send, marks.the_send, global.the_send, heap.frees), tt)))

compiled_send : IsSend compiled.the_row
compiled_send = search (sendable, marks_send)

reading_send : IsSend reading.the_row
reading_send = declared_send reading.the_type (as_row_send compiled.the_field compiled_send, (search sendable depth 20, (search (sendable, todo.the_send), (search sendable depth 20, tt))))

filter_send : IsSend (items_row.the_row pick_row.the_row)
filter_send = search (sendable, items.the_send, pick.the_send)

task_send : IsSend task.the_row
task_send = variants_send task.enum
    ((search (sendable, row_errand.the_send), tt), ((search (sendable, filter_send), tt), ((search (sendable, box.the_send, reading_send, global.the_send, heap.frees), tt), tt)))

errand_send : IsSend errand.the_row
errand_send = declared_send errand.the_type (search sendable, (search sendable, (search sendable, (task_send, tt))))

about_send : IsSend about.the_row
about_send = declared_send about.the_type (snapshot_send hierarchy.the_row, (snapshot_send settings.the_row, (snapshot_send (items_row.the_row role.the_row), tt)))

actor_send : IsSend actor.the_row
actor_send = declared_send actor.the_type (
  search sendable,
  (
    search sendable depth 20,
    (
      about_send,
      (
        search sendable,
        (
          search sendable,
          (
            search (sendable, purse.the_send),
            (
              search (sendable, boxes.the_send),
              (search (sendable, command.the_send) depth 20, (search (sendable, errand_send) depth 20, (search (sendable, box.the_send, job.the_send, global.the_send, heap.frees) depth 20, (search (sendable, gone.the_send), (search sendable, tt))))),
            ),
          ),
        ),
      ),
    ),
  ),
)

pub player_send : IsSend player.the_row
player_send = declared_send player.the_type (search sendable, (actor_send, (search (sendable, seat.the_send, cell.the_send), tt)))

inside_send : IsSend pass_inside.the_row
inside_send = declared_send pass_inside.the_type (player_send, tt)

pub pass_send : IsSend pass.the_row
pass_send = search (sendable, inside_send)
