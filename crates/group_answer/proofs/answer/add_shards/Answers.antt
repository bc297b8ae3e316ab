use Rattle.std.proofs.{Common.{List, [], ◌≡◌, length, take, sym, ap, ◌∙◌, subst, arith}, lemmas.List.take_all}
use Rattle.describing_set.specs.declared.listing.Spot.{Spot}
use Rattle.dim_hierarchy.specs.declared.row.Row.{Row}
use Rattle.core_pages.specs.{Looks.{HasCells, StateValue, blocks_of, cells_in, gate_in}, Shards.{CanLead, frontier_in}}
use Rattle.core_pages.specs.volap_cell.specs.Cells.{CellValue}
use Rattle.core_pages.proofs.StateLines.{can-lead, gate-at}
use Rattle.group_answer.specs.{Adding.with_rows, Groups.all_of, Reading.{IsReadable, rows_of, rows_of_spot, rows_of_spots}, Telling.IsNarrow}
use Rattle.row_ledger.specs.declared.page.GroupLine.{GroupLine}
use Rattle.group_answer.proofs.{RowSteps.{rows-append, rows-few}, StateGroups.{few-in, one-more, readable-in, room-for-one}}
use Rattle.group_answer.proofs.answer.add_shards.Goals as goal

pub spot_count-place-end-requires : goal.spot_count-place-end-requires
spot_count-place-end-requires g c = record { stands = (can-lead c.args.servers (g.C.Cells.state c.args.cells.now) c.requires.quiet c.args.asked.now.hierarchy c.requires.state).registry }

pub led_at-at-requires : goal.led_at-at-requires
led_at-at-requires g c =
    let many = ap (λ (s : StateValue). length (frontier_in (cells_in s))) c.loop-place.invariant.same in
    record {
      leads = subst (CanLead c.args.servers) (sym c.loop-place.invariant.same) (can-lead c.args.servers (g.C.Cells.state c.args.cells.now) c.requires.quiet c.args.asked.now.hierarchy c.requires.state);
      within = omega (arith, many, c.spot_count-place-end.ensures.value);
    }

pub add_gate-requires : goal.add_gate-requires
add_gate-requires g c =
    let q = c.args.asked.now in
    let state = g.C.Cells.state c.args.cells.now in
    let servers = c.args.servers in
    let many = c.args.many in
    let spots = frontier_in (cells_in state) in
    let place = c.loop-place.place in
    let spot = c.led_at-at.result.0 in
    let looked = gate-at servers state c.requires.quiet q.hierarchy c.requires.state place spot c.led_at-at.result.1 (g.C.Cells.state c.loop-place.cells) (g.C.Cells.state c.led_at-at.new.cells) c.loop-place.invariant.same c.led_at-at.ensures.same c.led_at-at.ensures.spot c.led_at-at.ensures.gate in
    let same = c.led_at-at.ensures.same ∙ c.loop-place.invariant.same in
    let readable = readable-in servers many state c.requires.quiet c.requires.count q.hierarchy c.requires.state place spot looked.found in
    let room = room-for-one servers many (cells_in state) spots place spot looked.found (few-in servers many state c.requires.quiet c.requires.count q.hierarchy c.requires.state) in
    let few = rows-few q (rows_of_spots servers many (cells_in state) (take place spots)) [] in
    let rows : length (rows_of (blocks_of many (cells_in (g.C.Cells.state c.led_at-at.new.cells))) (gate_in (cells_in (g.C.Cells.state c.led_at-at.new.cells) c.led_at-at.result.1))) ≡ length (rows_of_spot servers many (cells_in state) spot) =
    λ k. length (rows_of (blocks_of many (cells_in (same k))) (gate_in (looked.is k))) in
    record {
      question = c.requires.question;
      there = subst (HasCells many) (sym same) c.requires.there;
      gate = subst (λ (s : StateValue). IsReadable q.hierarchy (blocks_of many (cells_in s)) (cells_in (g.C.Cells.state c.led_at-at.new.cells) c.led_at-at.result.1)) (sym same)
          (subst (IsReadable q.hierarchy (blocks_of many (cells_in state))) (sym looked.is) readable);
      few = omega (arith, few, room, rows, ap (λ (l : List GroupLine). (all_of l).count) c.loop-place.invariant.lines);
    }

pub loop-place-preserved : goal.loop-place-preserved
loop-place-preserved g c =
    let q = c.args.asked.now in
    let state = g.C.Cells.state c.args.cells.now in
    let servers = c.args.servers in
    let many = c.args.many in
    let spots = frontier_in (cells_in state) in
    let place = c.loop-place.place in
    let spot = c.led_at-at.result.0 in
    let looked = gate-at servers state c.requires.quiet q.hierarchy c.requires.state place spot c.led_at-at.result.1 (g.C.Cells.state c.loop-place.cells) (g.C.Cells.state c.led_at-at.new.cells) c.loop-place.invariant.same c.led_at-at.ensures.same c.led_at-at.ensures.spot c.led_at-at.ensures.gate in
    let same = c.led_at-at.ensures.same ∙ c.loop-place.invariant.same in
    let before = rows_of_spots servers many (cells_in state) (take place spots) in
    let rows = rows_of_spot servers many (cells_in state) spot in
    record {
      same = c.add_gate.ensures.same ∙ same;
      lines = c.in_ok-add_gate.ensures.lines
          ∙ (λ k. with_rows q (rows_of (blocks_of many (cells_in (same k))) (gate_in (looked.is k))) (c.loop-place.invariant.lines k))
          ∙ sym (rows-append q before rows [])
          ∙ ap (λ (l : List Row). with_rows q l []) (sym (one-more servers many (cells_in state) spots place spot looked.found));
      looks = λ tells. (let old = c.loop-place.invariant.looks tells in
          let more = c.add_gate.ensures.looks tells.filter
          (subst (λ (cell : CellValue). IsNarrow q (gate_in cell).set) (sym looked.is) (tells.tree place spot looked.found))
          (subst (λ (cell : CellValue). IsNarrow q (gate_in cell).queue.set) (sym looked.is) (tells.queue place spot looked.found)) in
          omega (arith, old, more));
    }

pub returns-clause-lines : goal.returns-clause-lines
returns-clause-lines g c =
    let state = g.C.Cells.state c.args.cells.now in
    let all = take_all c.loop-place.place (frontier_in (cells_in state)) (omega (arith, c.spot_count-place-end.ensures.value)) in
    c.loop-place.invariant.lines ∙ ap (λ (l : List Spot). with_rows c.args.asked.now (rows_of_spots c.args.servers c.args.many (cells_in state) l) []) all

pub returns-clause-looks : goal.returns-clause-looks
returns-clause-looks g c = λ tells. (let old = c.loop-place.invariant.looks tells in omega (arith, old, c.spot_count-place-end.ensures.value))

pub returns-in_err-add_gate-clause-looks : goal.returns-in_err-add_gate-clause-looks
returns-in_err-add_gate-clause-looks g c =
    let q = c.args.asked.now in
    let state = g.C.Cells.state c.args.cells.now in
    let place = c.loop-place.place in
    let spot = c.led_at-at.result.0 in
    let looked = gate-at c.args.servers state c.requires.quiet q.hierarchy c.requires.state place spot c.led_at-at.result.1 (g.C.Cells.state c.loop-place.cells) (g.C.Cells.state c.led_at-at.new.cells) c.loop-place.invariant.same c.led_at-at.ensures.same c.led_at-at.ensures.spot c.led_at-at.ensures.gate in
    λ tells. (let old = c.loop-place.invariant.looks tells in
    let more = c.add_gate.ensures.looks tells.filter
    (subst (λ (cell : CellValue). IsNarrow q (gate_in cell).set) (sym looked.is) (tells.tree place spot looked.found))
    (subst (λ (cell : CellValue). IsNarrow q (gate_in cell).queue.set) (sym looked.is) (tells.queue place spot looked.found)) in
    omega (arith, old, more, c.loop-place-test.true, c.spot_count-place-end.ensures.value))
