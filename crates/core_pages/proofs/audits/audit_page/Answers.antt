use Rattle.std.proofs.{Common.{length, sym, ◌∙◌, ap, subst, arith}, lemmas.List.take_all}
use Rattle.measure_agg.specs.{Aggregate.Aggregate, Joining.join}
use Rattle.core_image.specs.volap_cell.specs.Cells.{CellValue}
use Rattle.core_pages.specs.{Looks.{StateValue, cells_in, gate_in}, Shards.{CanLead, agg_of_gate, agg_of_spots, frontier_in}}
use Rattle.core_pages.proofs.{StateLines.{can-lead, gate-at}, StateRows.{audited-in, few-in, one-more, room-for-one}}
use Rattle.core_pages.proofs.audits.audit_page.Goals as goal

pub spot_count-shards-requires : goal.spot_count-shards-requires
spot_count-shards-requires g c = record { stands = (can-lead c.args.servers (g.C.Cells.state c.args.cells.now) c.requires.quiet c.requires.state.0 c.requires.state.1).registry }

pub led_at-at-requires : goal.led_at-at-requires
led_at-at-requires g c =
    let many = ap (λ (s : StateValue). length (frontier_in (cells_in s))) c.loop-place.invariant.same in
    record {
      leads = subst (CanLead c.args.servers) (sym c.loop-place.invariant.same) (can-lead c.args.servers (g.C.Cells.state c.args.cells.now) c.requires.quiet c.requires.state.0 c.requires.state.1);
      within = omega (arith, many, c.spot_count-shards.ensures.value);
    }

pub joined_at-agg-requires : goal.joined_at-agg-requires
joined_at-agg-requires g c =
    let state = g.C.Cells.state c.args.cells.now in
    let looked = gate-at c.args.servers (g.C.Cells.state c.args.cells.now) c.requires.quiet c.requires.state.0 c.requires.state.1 c.loop-place.place c.led_at-at.result.0 c.led_at-at.result.1 (g.C.Cells.state c.loop-place.cells) (g.C.Cells.state c.led_at-at.new.cells) c.loop-place.invariant.same c.led_at-at.ensures.same c.led_at-at.ensures.spot c.led_at-at.ensures.gate in
    let room = room-for-one c.args.servers (cells_in state) (frontier_in (cells_in state)) c.loop-place.place c.led_at-at.result.0 looked.found (few-in c.args.servers state c.requires.quiet c.requires.state.0 c.requires.state.1) in
    record {
      gate = looked.gate.gate;
      few = omega (arith, room, ap (λ (a : Aggregate). a.count) c.loop-place.invariant.agg, ap (λ (cell : CellValue). (agg_of_gate (gate_in cell)).count) looked.is);
    }

pub loop-place-preserved : goal.loop-place-preserved
loop-place-preserved g c =
    let state = g.C.Cells.state c.args.cells.now in
    let looked = gate-at c.args.servers (g.C.Cells.state c.args.cells.now) c.requires.quiet c.requires.state.0 c.requires.state.1 c.loop-place.place c.led_at-at.result.0 c.led_at-at.result.1 (g.C.Cells.state c.loop-place.cells) (g.C.Cells.state c.led_at-at.new.cells) c.loop-place.invariant.same c.led_at-at.ensures.same c.led_at-at.ensures.spot c.led_at-at.ensures.gate in
    record {
      same = c.joined_at-agg.ensures.same ∙ c.led_at-at.ensures.same ∙ c.loop-place.invariant.same;
      agg = c.joined_at-agg.ensures.value ∙ (λ k. join (c.loop-place.invariant.agg k) (agg_of_gate (gate_in (looked.is k))))
          ∙ sym (one-more c.args.servers (cells_in state) (frontier_in (cells_in state)) c.loop-place.place c.led_at-at.result.0 looked.found);
    }

pub returns-clause-page : goal.returns-clause-page
returns-clause-page g c =
    let state = g.C.Cells.state c.args.cells.now in
    let all = take_all c.loop-place.place (frontier_in (cells_in state)) (omega (arith, c.spot_count-shards.ensures.value)) in
    audited-in c.args.servers state c.requires.quiet (record { agg = c.loop-place.agg; shards = c.spot_count-shards.result })
    (c.loop-place.invariant.agg ∙ ap (agg_of_spots c.args.servers (cells_in state)) all) c.spot_count-shards.ensures.value
