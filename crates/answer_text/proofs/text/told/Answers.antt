use Rattle.std.proofs.Common.{reverse, arith}
use Rattle.answer_text.proofs.{TellerFacts.{has-next, told-end, text-next}, ToldLines.texts_all}
use Rattle.answer_text.proofs.text.told.Goals as goal

pub loop-teller-preserved : goal.loop-teller-preserved
loop-teller-preserved c =
    let t = c.loop-teller.teller in
    let all = c.as_slice-all.result.now in
    let h = reverse c.events-events.result.now in
    let end = c.phase_end-end.result in
    let low = c.phase_end-end.ensures.within in
    let has = c.in_ok-push_next.ensures.told in
    let new = c.push_next.new.self in
    record {
      within = omega (arith, told-end c.args.with.now all h _ end new (omega arith) low has, low);
      has = has-next c.args.with.now all h _ end new (omega arith) low has;
      text = text-next c.args.with.now all t.told _ end h _ _ _ new (omega arith) c.phase_end-end.ensures.some low c.phase_end-end.ensures.phase c.in_ok-push_next.ensures.text has c.loop-teller.invariant.text;
    }

pub returns : goal.returns
returns c =
    rw (c.into_bytes.ensures.value, ← c.events-events.ensures, ← c.as_slice-all.ensures)
    (texts_all _ _ c.args.with.now c.as_slice-all.result.now c.loop-teller.teller.told (reverse c.events-events.result.now) c.loop-teller-test.false c.loop-teller.invariant.text)
