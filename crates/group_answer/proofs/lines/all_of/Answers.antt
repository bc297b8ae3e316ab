use Rattle.std.proofs.{Common.{List, ◌+◌, ◌≡◌, ◌∷◌, drop, sym, ap, ◌∙◌}, lemmas.List.drop_more}
use Rattle.measure_agg.specs.{Aggregate.Aggregate, Joining.join}
use Rattle.measure_agg.proofs.AggLaws.{join_associative}
use Rattle.group_answer.specs.Groups.{all_of}
use Rattle.row_ledger.specs.declared.page.GroupLine.{GroupLine}
use Rattle.group_answer.proofs.lines.all_of.Goals as goal

pub loop-line-preserved : goal.loop-line-preserved
loop-line-preserved c =
    let i = c.loop-line.line-index in
    let lines = c.args.lines.now in
    let x = c.line-item.result in
    let here : drop i lines ≡ x ∷ drop (i + 1) lines = drop_more lines i x c.loop-line-test.true ∙ ap (λ (y : GroupLine). y ∷ drop (i + 1) lines) (sym c.line-item.is) in
    ap (λ (a : Aggregate). join a (all_of (drop (i + 1) lines))) c.join-all.ensures
    ∙ join_associative c.loop-line.all x.agg (all_of (drop (i + 1) lines))
    ∙ ap (λ (l : List GroupLine). join c.loop-line.all (all_of l)) (sym here)
    ∙ c.loop-line.invariant
