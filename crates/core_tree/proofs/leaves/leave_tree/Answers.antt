use Rattle.std.proofs.Common.{◌<◌, ap, option_map, subst, ℕ}
use Rattle.volap_cell.specs.{Cells.{active_in, cell_of}, Values.{actor_of, errand_of, task_of}, declared.cell.Cell.Cell}
use Rattle.volap_cell.proofs.Cells.Lent.{row-behind}
use Rattle.core_tree.proofs.EachStep.LeavesTree.{can-leave, leave-makes}
use Rattle.core_tree.proofs.leaves.leave_tree.Goals as goal

pub gate_in-requires : goal.gate_in-requires
gate_in-requires c =
    (can-leave c.args.h.now c.args.gate_at (cell_of c.args.gate.now) (actor_of c.args.actor.now) c.requires.here c.requires.due).is_gate

pub leave-requires : goal.leave-requires
leave-requires c =
    let k = can-leave c.args.h.now c.args.gate_at (cell_of c.args.gate.now) (actor_of c.args.actor.now) c.requires.here c.requires.due in
    subst (λ (n : ℕ). 0 < n) (ap (λ (x : Cell). active_in (cell_of x)) c.gate_in.ensures.value) k.some

pub returns : goal.returns
returns c =
    let has = c.requires.due.has in
    let (e, is, row) = row-behind c.args.actor.now.errand c.requires.due.e c.requires.due.r has.errand has.row in
    let go = c.go_on.ensures e c.requires.due.r is row in
    record {
      made = leave-makes c.args.h.now c.args.gate_at (cell_of c.args.gate.now) c.gate_in.result.now c.leave.new.self (actor_of c.args.actor.now) _ (errand_of e) c.requires.due.r c.requires.due
          (ap cell_of c.gate_in.ensures.value)
          (record { errand = ap (option_map errand_of) is; row = ap task_of row })
          c.leave.ensures
          (λ k. record (actor_of c.args.actor.now) { errand = option_map errand_of (go k) });
    }
