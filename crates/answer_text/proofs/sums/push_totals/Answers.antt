use Rattle.std.proofs.{Common.{◌≤◌, ◌⊎◌, ◌++◌, length, inl, inr, arith}, lemmas.Bool.cases_lt}
use Rattle.std.specs.String.{string_bytes}
use Rattle.answer_text.specs.Summary.{total_lines, total_words}
use Rattle.answer_text.proofs.SummaryFacts.{line_pushed, lines_pushed}
use Rattle.answer_text.proofs.sums.push_totals.Goals as goal

pub loop-i-preserved : goal.loop-i-preserved
loop-i-preserved c =
    line_pushed (string_bytes c.loop-i.text) (string_bytes c.push_total.new.text) (string_bytes c.args.text.now ++ total_lines c.args.given.now) c.args.given.now c.loop-i.i c.total_word.result.now c.index-given-i.result
    (omega (arith, c.loop-i-test.true, c.min-i-end.ensures)) (omega (arith, c.loop-i-test.true, c.min-i-end.ensures)) c.total_word.ensures c.index-given-i.is c.in_ok-push_total.ensures c.loop-i.invariant

pub returns : goal.returns
returns c =
    let given = c.args.given.now in
    let i = c.loop-i.i in
    let past : (length total_words ≤ i) ⊎ (length given ≤ i) = elim (cases_lt i (length given)) [
      | inl inside ↦ inl (omega (arith, c.loop-i-test.false, c.min-i-end.ensures, inside))
      | inr most ↦ inr most
    ] in
    lines_pushed (string_bytes c.loop-i.text) (string_bytes c.args.text.now ++ total_lines given) given i past c.loop-i.invariant
