use Rattle.std.proofs.{Common.{◌≡◌, ◌∙◌, ap, arith, subst, sym, rules, to_z, of_z, w64}, lemmas.Int.to_z-of_z}
use Rattle.dim_hierarchy.specs.{Filter.matches, Row.IsCoordOf, declared.row.Row.Row}
use Rattle.measure_agg.specs.Joining.{join, one}
use Rattle.measure_agg.proofs.AggLaws.{agg-filter_more}
use Rattle.run_tests.proofs.flat.of_rows.Goals as goal
use Rattle.run_tests.proofs.flat.of_rows.Goals.{then-matches, else-matches}

pub matches-requires-clause-at : goal.matches-requires-clause-at
matches-requires-clause-at c =
    subst (λ (r : Row). IsCoordOf c.args.h.now r.at) (sym c.row-item.is) (c.requires.rows c.loop-row.row-index c.row-item.result c.loop-row-test.true)

pub loop-row-preserved : goal.loop-row-preserved
loop-row-preserved c =
    let test = λ (r : Row). matches c.args.h.now c.args.wanted.now r.at in
    let more = agg-filter_more test c.args.rows.now c.loop-row.row-index c.row-item.result c.loop-row-test.true c.row-item.is in
    let here : matches c.args.h.now c.args.wanted.now c.row-item.result.at ≡ c.matches.result = sym c.matches.ensures.test in
    let before = c.loop-row.invariant in
    elim c.if-matches.branch [
      | then-matches w ↦
          let kept : to_z w64 (of_z w64 c.row-item.result.measures) ≡ c.row-item.result.measures = to_z-of_z w64 c.row-item.result.measures (search rules) in
          let joined = w.join-total.ensures ∙ ap (λ a. join c.loop-row.total a) (w.one.ensures ∙ ap one kept) ∙ ap (λ a. join a (one c.row-item.result.measures)) before.total_is in
          record {
            total_is = w.total-is ∙ joined ∙ sym (rw (here ∙ w.if-matches.true) at more);
            few = omega (arith, ap (λ a. a.count) w.total-is, ap (λ a. a.count) w.join-total.ensures, ap (λ a. a.count) w.one.ensures, before.few);
          }
      | else-matches w ↦ record {
        total_is = w.total-is ∙ before.total_is ∙ sym (rw (here ∙ w.if-matches.false) at more);
        few = omega (arith, ap (λ a. a.count) w.total-is, before.few);
      }
    ]
