use Rattle.std.proofs.Common.{◌≡◌, ℕ, [], Bool, ap, arith, false, get_or, subst}
use Rattle.std.specs.List.{list_any}
use Rattle.query_router.specs.Desk.{waits_for}
use Rattle.core_due.specs.{Due.any_below, Look.{cell_at, setting_by}}
use Rattle.core_pages.specs.volap_cell.specs.{Cells.desk_in, Setting.desk_cell}
use Rattle.seeded_run.proofs.Surveys.{asks-no-more, asks-one-more, none-of}
use Rattle.seeded_run.proofs.survey.awaited_by.Goals as goal

pub loop-server-init : goal.loop-server-init
loop-server-init c = (λ w low. none-of 256 w false, λ w low. absurd (omega arith))

pub loop-server-preserved : goal.loop-server-preserved
loop-server-preserved c = (
  λ w low.
      let s = setting_by [] c.args.with.now in
      let at : ℕ → Bool = λ (y : ℕ). list_any (waits_for w) (desk_in (cell_at c.args.cells.now y)).parts in
      asks-one-more c.loop-server.server (λ server. at (desk_cell s server)) (at c.desk_at.result) (get_or c.loop-server.awaited w false) _ (c.loop-server.invariant.0 w low)
      (ap at c.desk_at.ensures) (c.note_cell-known.ensures.noted w low),
  c.note_cell-known.ensures.known,
)

pub returns-then-known-with : goal.returns-then-known-with
returns-then-known-with c = λ w low.
    let s = setting_by [] c.args.with.now in
    asks-no-more c.loop-server.server c.args.with.now.servers (λ server. list_any (waits_for w) (desk_in (cell_at c.args.cells.now (desk_cell s server))).parts) (get_or c.loop-server.awaited w false)
    (omega arith) (c.loop-server.invariant.1 w (omega (arith, low, c.if-known-with.true))) (c.loop-server.invariant.0 w low)

pub returns : goal.returns
returns c = λ w low.
    let s = setting_by [] c.args.with.now in
    let all : c.loop-server.server ≡ c.args.with.now.servers = omega arith in
    subst (λ n. get_or c.loop-server.awaited w false ≡ any_below n (λ server. list_any (waits_for w) (desk_in (cell_at c.args.cells.now (desk_cell s server))).parts)) all
    (c.loop-server.invariant.0 w low)
