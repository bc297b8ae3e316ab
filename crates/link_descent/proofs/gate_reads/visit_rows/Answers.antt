use Rattle.std.proofs.{Common.{◌≡◌, ◌∙◌, ap, arith, rules, subst, sym, to_z, of_z, w64}, lemmas.Int.to_z-of_z}
use Rattle.dim_hierarchy.specs.{Filter.matches, Rows.IsRowOf, declared.row.Row.Row}
use Rattle.measure_agg.specs.Joining.{join, one}
use Rattle.link_descent.proofs.{VisitRows.{rows_more, rows_same}, gate_reads.visit_rows.Goals.{then-matched, else-matched}}
use Rattle.link_descent.proofs.gate_reads.visit_rows.Goals as goal

pub matches-matched-requires : goal.matches-matched-requires
matches-matched-requires c =
    subst (λ (r : Row). IsRowOf c.args.wanted.now.hierarchy r) (sym c.row-item.is) (c.requires.rows c.loop-row.row-index c.row-item.result c.loop-row-test.true)

pub loop-row-preserved : goal.loop-row-preserved
loop-row-preserved c =
    let h = c.args.wanted.now.hierarchy in
    let f = c.args.wanted.now.picks in
    elim c.if-matched.branch [
      | then-matched w ↦
          let kept : to_z w64 (of_z w64 c.row-item.result.measures) ≡ c.row-item.result.measures = to_z-of_z w64 c.row-item.result.measures (search rules) in (
            w.total-is
                ∙ w.join.ensures
                ∙ ap (join c.loop-row.total) (w.one.ensures ∙ ap one kept)
                ∙ rows_more c.laws.ensures.append c.laws.ensures.associative (λ r. matches h f r.at) c.args.rows.now c.loop-row.row-index c.row-item.result c.args.total.now c.loop-row.total
                c.loop-row-test.true c.row-item.is (sym c.matches-matched.ensures.test ∙ w.if-matched.true) c.loop-row.invariant.0,
            omega (arith, c.loop-row.invariant.1, ap (λ a. a.count) w.total-is, ap (λ a. a.count) w.join.ensures, ap (λ a. a.count) w.one.ensures),
          )
      | else-matched w ↦ (
        w.total-is
            ∙ rows_same (λ r. matches h f r.at) c.args.rows.now c.loop-row.row-index c.row-item.result c.args.total.now c.loop-row.total
            c.loop-row-test.true c.row-item.is (sym c.matches-matched.ensures.test ∙ w.if-matched.false) c.loop-row.invariant.0,
        omega (arith, c.loop-row.invariant.1, ap (λ a. a.count) w.total-is),
      )
    ]
