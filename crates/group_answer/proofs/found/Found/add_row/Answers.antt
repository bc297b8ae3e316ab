use Rattle.std.proofs.Common.{rules, ◌≡◌, sym, ◌∙◌}
use Rattle.measure_agg.specs.Joining.{one}
use Rattle.group_answer.specs.Adding.{with_line}
use Rattle.group_answer.proofs.{RowSteps.{row-in, row-out}, Steps.on-ok}
use Rattle.group_answer.proofs.found.Found.add_row.Goals as goal

pub returns-then-not-matches-clause-lines : goal.returns-then-not-matches-clause-lines
returns-then-not-matches-clause-lines c = sym (row-out c.args.asked.now c.args.row.now c.args.self.now.lines.items (sym c.matches.ensures ∙ c.if-not-matches.true))

pub returns-clause-lines : goal.returns-clause-lines
returns-clause-lines c =
    let lines = c.args.self.now.lines.items in
    let value : c.one.result ≡ one c.args.row.now.measures = search rules in
    on-ok c.add.result
    (λ added. added ∙ (λ k. with_line (c.concept_of.ensures k) (value k) lines) ∙ sym (row-in c.args.asked.now c.args.row.now lines (sym c.matches.ensures ∙ c.if-not-matches.false)))
    c.add.ensures.lines
