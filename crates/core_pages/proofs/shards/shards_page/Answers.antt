use Rattle.std.proofs.{Common.{List, sym, ◌∙◌, ap, subst, ◌+◌, length, take, arith}, lemmas.List.take_all, lemmas.Option.{get_or_from_slice_get, slice_get_within}}
use Rattle.std.specs.List.{AllZip}
use Rattle.core_image.specs.link_descent.proofs.Items.{AllZip-more}
use Rattle.row_ledger.specs.declared.page.ShardLine.{ShardLine}
use Rattle.core_image.specs.volap_cell.specs.Cells.{CellValue}
use Rattle.core_pages.specs.{Looks.{StateValue, cells_in, gate_in}, Shards.{CanLead, HasLine, IsLineOf, frontier_in}}
use Rattle.core_pages.proofs.StateLines.{can-lead, gate-at, lines-in}
use Rattle.core_pages.proofs.shards.shards_page.Goals as goal

pub spot_count-place-end-requires : goal.spot_count-place-end-requires
spot_count-place-end-requires g c = record { stands = (can-lead c.args.servers (g.C.Cells.state c.args.cells.now) c.requires.quiet c.args.h.now c.requires.state).registry }

pub led_at-spot-requires : goal.led_at-spot-requires
led_at-spot-requires g c =
    let many = ap (λ (s : StateValue). length (frontier_in (cells_in s))) c.loop-place.invariant.same in
    record {
      leads = subst (CanLead c.args.servers) (sym c.loop-place.invariant.same) (can-lead c.args.servers (g.C.Cells.state c.args.cells.now) c.requires.quiet c.args.h.now c.requires.state);
      within = omega (arith, many, c.spot_count-place-end.ensures.value);
    }

pub line_at-requires : goal.line_at-requires
line_at-requires g c =
    let looked = gate-at c.args.servers (g.C.Cells.state c.args.cells.now) c.requires.quiet c.args.h.now c.requires.state c.loop-place.place c.led_at-spot.result.0 c.led_at-spot.result.1 (g.C.Cells.state c.loop-place.cells) (g.C.Cells.state c.led_at-spot.new.cells) c.loop-place.invariant.same c.led_at-spot.ensures.same c.led_at-spot.ensures.spot c.led_at-spot.ensures.gate in
    record { gate = looked.gate }

pub loop-place-preserved : goal.loop-place-preserved
loop-place-preserved g c =
    let state = g.C.Cells.state c.args.cells.now in
    let spots = frontier_in (cells_in state) in
    let place = c.loop-place.place in
    let spot = c.led_at-spot.result.0 in
    let looked = gate-at c.args.servers (g.C.Cells.state c.args.cells.now) c.requires.quiet c.args.h.now c.requires.state c.loop-place.place c.led_at-spot.result.0 c.led_at-spot.result.1 (g.C.Cells.state c.loop-place.cells) (g.C.Cells.state c.led_at-spot.new.cells) c.loop-place.invariant.same c.led_at-spot.ensures.same c.led_at-spot.ensures.spot c.led_at-spot.ensures.gate in
    let line = subst (λ (cell : CellValue). IsLineOf c.args.h.now spot (gate_in cell) c.line_at.result) looked.is c.line_at.ensures.line in
    let has = HasLine c.args.h.now c.args.servers (cells_in state) in
    record {
      same = c.line_at.ensures.same ∙ c.led_at-spot.ensures.same ∙ c.loop-place.invariant.same;
      lines = subst (λ (lines : List ShardLine). AllZip has (take (place + 1) spots) lines) (sym c.in_ok-push.ensures.ok)
          (AllZip-more has spots c.loop-place.lines place spot c.line_at.result (slice_get_within spots place spot looked.found) (sym (get_or_from_slice_get spots place spot spot looked.found)) c.loop-place.invariant.lines line);
    }

pub returns-clause-page : goal.returns-clause-page
returns-clause-page g c =
    let state = g.C.Cells.state c.args.cells.now in
    lines-in c.args.servers state c.requires.quiet c.args.h.now c.loop-place.lines
    (subst (λ xs. AllZip (HasLine c.args.h.now c.args.servers (cells_in state)) xs c.loop-place.lines) (take_all c.loop-place.place (frontier_in (cells_in state)) (omega (arith, c.spot_count-place-end.ensures.value))) c.loop-place.invariant.lines)
