use Rattle.std.proofs.Common.{◌≡◌, ◌+◌, ◌<◌, ◌^◌, ◌∙◌, ap, option_map, subst, sym, refl}
use Rattle.dim_hierarchy.specs.Rows.{IsRowOf}
use Rattle.volap_cell.specs.{Cells.{CellValue, GateCell, cell_of, queue_in}, Lending.with_gate, TreeKinds.HasRow, Values.{actor_of, errand_of, task_of}, declared.errand.RowErrand.RowErrand}
use Rattle.volap_cell.proofs.Outcomes.{as-err}
use Rattle.core_tree.proofs.{EachStep.EntersQueue.{can-queue, queue-makes}, Rows.Arrivals.same-row}
use Rattle.core_tree.proofs.queues.enter_queue.Goals as goal

pub enqueue-requires-clause-row : goal.enqueue-requires-clause-row
enqueue-requires-clause-row c =
    let k = can-queue c.args.h.now c.args.map_at (cell_of c.args.map.now) c.args.gate_at (cell_of c.args.gate.now) (actor_of c.args.actor.now) c.requires.here c.requires.due in
    let (e, is, row) = c.row_in-going.ensures in
    let has : HasRow (actor_of c.args.actor.now) (errand_of e) c.row_in-going.result.now = record { errand = ap (option_map errand_of) is; row = ap task_of row } in
    subst (λ (r : RowErrand). IsRowOf c.args.h.now r.row) (same-row c.requires.due.has has).1 k.row_of

pub enqueue-requires-clause-few : goal.enqueue-requires-clause-few
enqueue-requires-clause-few c =
    let k = can-queue c.args.h.now c.args.map_at (cell_of c.args.map.now) c.args.gate_at (cell_of c.args.gate.now) (actor_of c.args.actor.now) c.requires.here c.requires.due in
    let same : GateCell c.requires.due.gate ≡ GateCell c.gate_in.result.now = sym c.requires.due.gate_is ∙ ap cell_of c.gate_in.ensures.value in
    subst (λ (x : CellValue). (queue_in x).agg.count + 1 < 2 ^ 63) same k.few

pub returns-clause-made : goal.returns-clause-made
returns-clause-made c =
    let (e, is, row) = c.row_in-going.ensures in
    let r = c.row_in-going.result.now in
    let go = c.go_on.ensures e r is row in
    queue-makes c.args.h.now c.args.map_at (cell_of c.args.map.now) c.args.gate_at (cell_of c.args.gate.now) c.gate_in.result.now c.enqueue.new.self (actor_of c.args.actor.now) _ (errand_of e) r c.requires.due
    (ap cell_of c.gate_in.ensures.value)
    (record { errand = ap (option_map errand_of) is; row = ap task_of row })
    c.in_ok-enqueue.ensures.ok
    c.enqueue.ensures.same
    (λ k. record (actor_of c.args.actor.now) { errand = option_map errand_of (go k) })

pub returns-in_err-enqueue-clause-refused : goal.returns-in_err-enqueue-clause-refused
returns-in_err-enqueue-clause-refused c =
    as-err c.from_residual.result (refl, ap (with_gate c.args.gate.now) c.in_err-enqueue.ensures.err ∙ sym c.gate_in.ensures.value, refl)
