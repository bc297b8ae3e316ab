use Rattle.std.proofs.{Common.{◌<◌, take, subst, sym, arith}, lemmas.List.Elements.All-filter}
use Rattle.std.specs.Prelude.{All}
use Rattle.dim_hierarchy.specs.FewMarks.{has_few_mark}
use Rattle.dim_hierarchy.proofs.column.RowPlaces.keep_few.Goals as goal

pub invariant_of-self : goal.invariant_of-self
invariant_of-self c =
    let i = c.self.invariant in
    let few = c.sift_few-self-inside.ensures.few in record {
      few = omega (arith, few, i.few);
      length = c.sift_few-self-inside.ensures.length;
      within = subst (All (λ place. place < 32)) (sym c.sift_few-self-inside.ensures.kept)
          (All-filter (has_few_mark c.args.column.now c.args.marks.now) (λ place. place < 32) (take c.self.inside.count c.self.inside.all) i.within);
    }
