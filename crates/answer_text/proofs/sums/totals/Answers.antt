use Rattle.std.proofs.Common.{◌+◌, ◌∙◌, ◌∷◌, ◌++◌, [], reverse, ap, sym}
use Rattle.std.specs.Prelude.{zip}
use Rattle.answer_text.specs.Summary as sum
use Rattle.answer_text.proofs.{SummaryFacts.{behind, total_no, total_yes}, sums.totals.Goals.{then-asks_total+in_ok-push, else-asks_total}}
use Rattle.answer_text.proofs.sums.totals.Goals as goal

pub loop-i-preserved : goal.loop-i-preserved
loop-i-preserved c =
    let h = reverse c.args.index.now.events.now in
    let cs = c.args.commands.now in
    let ps = c.args.places.now in
    let i = c.loop-i.i in
    let rest = sum.totals h (behind cs ps (i + 1)) in
    elim c.if-asks_total.branch [
      | then-asks_total+in_ok-push w ↦
          ap (λ g. g.items ++ rest) w.given-is ∙ ap (λ l. l ++ rest) (w.in_ok-push.ensures.items ∙ ap (λ t. c.loop-i.given.items ++ t ∷ []) w.total_of.ensures)
          ∙ total_yes c.loop-i.given.items (sum.totals h (zip cs ps)) h cs ps i c.index-commands-i.result c.loop-i-test.true c.requires.same c.index-commands-i.is (sym c.asks_total.ensures ∙ w.if-asks_total.true) c.loop-i.invariant
      | else-asks_total w ↦
          ap (λ g. g.items ++ rest) w.given-is
          ∙ total_no c.loop-i.given.items (sum.totals h (zip cs ps)) h cs ps i c.index-commands-i.result c.loop-i-test.true c.requires.same c.index-commands-i.is (sym c.asks_total.ensures ∙ w.if-asks_total.false) c.loop-i.invariant
    ]
