use Rattle.std.proofs.{Common.{length, ap, arith, refl}, lemmas.List.Filters.length-filter_both}
use Rattle.std.specs.Prelude.{not}
use Rattle.dim_hierarchy.specs.{Filter.matches, declared.row.Row.Row}
use Rattle.link_descent.proofs.gate_reads.visit_queue.Goals as goal

pub returns-in-Overlaps-clause-few : goal.returns-in-Overlaps-clause-few
returns-in-Overlaps-clause-few c =
    let test = λ (r : Row). matches c.args.wanted.now.hierarchy c.args.wanted.now.picks r.at in
    let few = length-filter_both test (λ r. not (test r)) (λ r. refl) c.as_slice.result.now in
    omega (arith, few, ap (λ a. a.count) c.visit_rows.ensures, ap (λ a. a.count) c.requires.queue.summary.agg, ap length c.as_slice.ensures)
