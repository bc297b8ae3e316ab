use Rattle.std.proofs.{Common.{◌<◌, reverse, arith}, lemmas.Grind.common_steps}
use Rattle.answer_text.proofs.{TellerFacts.{has-next, phase-found, phase-further, told-end}, ToldLines.phase_past}
use Rattle.answer_text.proofs.text.phase.Goals as goal

pub returns-then-left-eq0 : goal.returns-then-left-eq0
returns-then-left-eq0 c =
    let pushed = rw c.new-text.ensures.bytes at c.in_ok-push_next.ensures.text in
    rw (c.into_bytes.ensures.value, ← c.events-events.ensures, ← c.as_slice-all.ensures)
    (phase-found c.args.with.now c.as_slice-all.result.now c.loop-teller.teller.told _ c.phase_end-end.result (reverse c.events-events.result.now) _ _ c.loop-teller.left c.if-left-eq0.true (omega arith) c.phase_end-end.ensures.some c.phase_end-end.ensures.phase pushed c.loop-teller.invariant.text)

pub loop-teller-preserved : goal.loop-teller-preserved
loop-teller-preserved c =
    let t = c.loop-teller.teller in
    let all = c.as_slice-all.result.now in
    let h = reverse c.events-events.result.now in
    let end = c.phase_end-end.result in
    let low = c.phase_end-end.ensures.within in
    let has = c.in_ok-push_next.ensures.told in
    let new = c.push_next.new.self in
    let more : 0 < c.loop-teller.left = grind (arith, common_steps) in
    record {
      within = omega (arith, told-end c.args.with.now all h _ end new (omega arith) low has, low);
      has = has-next c.args.with.now all h _ end new (omega arith) low has;
      text = phase-further c.args.with.now all t.told _ end h _ c.loop-teller.left new more (omega arith) c.phase_end-end.ensures.some low c.phase_end-end.ensures.phase has c.loop-teller.invariant.text;
    }

pub returns : goal.returns
returns c =
    rw (c.new.ensures.items, ← c.events-events.ensures, ← c.as_slice-all.ensures)
    (phase_past c.loop-teller.left _ c.args.with.now c.as_slice-all.result.now c.loop-teller.teller.told (reverse c.events-events.result.now) c.loop-teller-test.false c.loop-teller.invariant.text)
