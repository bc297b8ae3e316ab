use Rattle.std.proofs.Common.{◌≡◌, ◌∙◌, ℕ, true, false, List, [], Option, sym, subst}
use Rattle.std.specs.List.{list_any}
use Rattle.core_due.specs.{Awaited.IsAwaited, Look.{cell_at, setting_by}, Ready.MayMakePart}
use Rattle.core_due.specs.core_steps.specs.declared.parts.PartStep.TheVariants.{TakePart}
use Rattle.query_router.specs.Desk.{waits_for}
use Rattle.core_pages.specs.volap_cell.specs.{Cells.desk_in, Setting.desk_cell, declared.cell.Cell.Cell}
use Rattle.seeded_run.proofs.Holding.Others.{any-at}
use Rattle.seeded_run.proofs.parts.take_part.Goals as goal

pub make-requires-clause-may : goal.make-requires-clause-may
make-requires-clause-may c =
    let awaited = subst (λ (cells : List (Option Cell)). IsAwaited c.args.with.now cells c.args.worker c.in-Some.server) c.deref.ensures.value c.in-Some.ensures.some in
    subst (λ (desk : ℕ). MayMakePart c.args.h.now c.args.state.now c.args.number (TakePart desk)) (sym c.desk_at-desk.ensures) (c.requires.may.2 c.in-Some.server awaited)

pub unreachable-requires : goal.unreachable-requires
unreachable-requires c =
    let with = c.args.with.now in
    let a = subst (λ (cells : List (Option Cell)). IsAwaited with cells c.args.worker c.requires.may.0) (sym c.deref.ensures.value) c.requires.may.1 in
    let some = any-at with.servers (λ server. list_any (waits_for c.args.worker) (desk_in (cell_at c.deref.result.now (desk_cell (setting_by [] with) server))).parts) c.requires.may.0 a.within a.waits in
    let never : true ≡ false = sym some ∙ c.awaiting.ensures.none c.in-None.is in
    cc
