use Rattle.std.proofs.{Common.{◌≡◌, ◌<◌, ◌∙◌, ap, sym, arith, rules, get_or, length}, lemmas.List.get_or_default}
use Rattle.std.specs.Prelude.{◌==◌}
use Rattle.dim_hierarchy.specs.{FewMarks.{noted_in, mark_down}, Marks.raised}
use Rattle.dim_hierarchy.proofs.FewMarking.{mark_down-more}
use Rattle.dim_hierarchy.proofs.few_marks.FewMarks.mark.Goals as goal

pub loop-level-preserved : goal.loop-level-preserved
loop-level-preserved c =
    let marks = c.args.self.now.marks in
    let lineage = c.lineage_of-lineage.result.now in
    let here = c.index-lineage-from.result in
    let long : length lineage ≡ 9 = search rules in
    let lt : c.loop-level.level < length lineage = omega (arith, long, c.requires.few, c.loop-level-test.true, c.level-level-end.ensures.value) in
    let read : c.noted.result ≡ noted_in marks (get_or lineage c.loop-level.level 0) =
    c.noted.ensures
    ∙ ap (noted_in marks) (ap (λ k. get_or lineage k here) c.from.ensures ∙ get_or_default lineage c.loop-level.level here 0 lt) in
    c.raised-mark.ensures
    ∙ ap (λ m. raised (m == 2) c.noted.result) c.loop-level.invariant
    ∙ ap (raised (mark_down marks lineage c.loop-level.level == 2)) read
    ∙ sym (mark_down-more marks lineage c.loop-level.level)
