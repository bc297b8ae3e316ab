use Rattle.std.proofs.Common.{◌∙◌, ◌≡◌, ℕ, [], Bool, ap, arith, false, sym}
use Rattle.std.specs.List.{list_any}
use Rattle.query_router.specs.Desk.{waits_for}
use Rattle.core_due.proofs.Below.{any-next}
use Rattle.core_due.specs.Look.{cell_at, setting_by}
use Rattle.core_steps.specs.volap_cell.specs.{Cells.desk_in, Setting.desk_cell}
use Rattle.core_due.proofs.hands.awaiting.Goals as goal

pub returns-then-is_awaited_at-clause-some : goal.returns-then-is_awaited_at-clause-some
returns-then-is_awaited_at-clause-some c =
    let at : ℕ → Bool = λ (y : ℕ). list_any (waits_for c.args.worker) (desk_in (cell_at c.args.cells.now y)).parts in
    record { within = omega arith; waits = sym (c.if-is_awaited_at.ensures ∙ ap at c.desk_at.ensures); first = c.loop-server.invariant }

pub loop-server-preserved : goal.loop-server-preserved
loop-server-preserved c =
    let s = setting_by [] c.args.with.now in
    let at : ℕ → Bool = λ (y : ℕ). list_any (waits_for c.args.worker) (desk_in (cell_at c.args.cells.now y)).parts in
    let none : at (desk_cell s c.loop-server.server) ≡ false = sym (c.if-is_awaited_at.ensures ∙ ap at c.desk_at.ensures) in
    any-next c.loop-server.server (λ server. at (desk_cell s server)) c.loop-server.invariant none
