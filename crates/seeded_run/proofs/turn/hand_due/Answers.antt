use Rattle.std.proofs.Common.{◌≡◌, ℕ, Bool, true, false, List, Option, Some, None, [], ap, option_map, subst, sym}
use Rattle.std.specs.{List.list_any, Prelude.if◌then◌else◌}
use Rattle.query_router.specs.Desk.{waits_for}
use Rattle.core_pages.specs.volap_cell.specs.{Cells.desk_in, Setting.desk_cell, declared.cell.Cell.Cell, declared.kind.Kind.TheVariants.TakePart}
use Rattle.core_due.specs.{Due.any_below, Look.{cell_at, setting_by}}
use Rattle.seeded_run.specs.declared.turn.DueStep.TheVariants.{Takes}
use Rattle.seeded_run.proofs.Holding.Others.{any-at}
use Rattle.seeded_run.proofs.turn.hand_due.Goals as goal

pub returns-in-Some : goal.returns-in-Some
returns-in-Some c =
    let s = setting_by [] c.args.with.now in
    let test : List (Option Cell) → ℕ → Bool = λ (cells : List (Option Cell)) (server : ℕ). list_any (waits_for c.args.worker) (desk_in (cell_at cells (desk_cell s server))).parts in
    let at = c.in-Some.ensures.some in
    let waits : any_below s.servers (test c.args.state.now.cells.items) ≡ true =
    subst (λ (cells : List (Option Cell)). any_below s.servers (test cells) ≡ true) c.deref.ensures.value (any-at s.servers (test c.deref.result.now) c.in-Some.field-0 at.within at.waits) in
    sym (ap (λ (b : Bool). option_map (λ k. Takes c.args.worker) (if b then Some TakePart else None)) waits)

pub returns-in-None : goal.returns-in-None
returns-in-None c =
    let s = setting_by [] c.args.with.now in
    let test : List (Option Cell) → ℕ → Bool = λ (cells : List (Option Cell)) (server : ℕ). list_any (waits_for c.args.worker) (desk_in (cell_at cells (desk_cell s server))).parts in
    let none : any_below s.servers (test c.args.state.now.cells.items) ≡ false =
    subst (λ (cells : List (Option Cell)). any_below s.servers (test cells) ≡ false) c.deref.ensures.value (c.awaiting.ensures.none c.in-None.is) in
    sym (ap (λ (b : Bool). option_map (λ k. Takes c.args.worker) (if b then Some TakePart else None)) none)
