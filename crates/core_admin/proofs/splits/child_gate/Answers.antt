use Rattle.std.proofs.Common.{subst, sym, ◌∙◌}
use Rattle.core_admin.specs.FinishDue.{CanQueue}
use Rattle.core_admin.proofs.Collecting.SideRows.{side-queue}
use Rattle.core_admin.proofs.splits.child_gate.Goals as goal

pub rows_on-requires-clause-rows : goal.rows_on-requires-clause-rows
rows_on-requires-clause-rows c = (let is = c.requires.due.gate_is in (subst (CanQueue c.args.h.now) (sym (c.late_rows.ensures is.upto is.frozen)) is.late).valid)

pub gate_for-requires : goal.gate_for-requires
gate_for-requires c =
    let is = c.requires.due.gate_is in
    let all = subst (CanQueue c.args.h.now) (sym (c.late_rows.ensures is.upto is.frozen)) is.late in
    record { rows = subst (CanQueue c.args.h.now) (sym (c.as_slice.ensures.value ∙ c.in_ok-rows.ensures)) (side-queue c.args.h.now c.args.plane.now c.args.left c.late_rows.result.now all) }
