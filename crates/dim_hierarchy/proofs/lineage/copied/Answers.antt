use Rattle.std.proofs.{Common.{[], ◌∙◌, sym, arith}, lemmas.List.ext_get_or}
use Rattle.dim_hierarchy.proofs.lineage.copied.Goals as goal

pub returns : goal.returns
returns c =
    let i = c.loop-level.invariant in
    let past = c.loop-level-test.false in
    ext_get_or [] c.loop-level.copy c.args.lineages.now (i.length ∙ sym c.requires) (λ k lt. i.each k (let n = i.length in omega (arith, lt, n, past)))
