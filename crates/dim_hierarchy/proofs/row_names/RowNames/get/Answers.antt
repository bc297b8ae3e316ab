use Rattle.std.proofs.Common.{◌≡◌, ◌∙◌, arith, sym, ap, get_or, []}
use Rattle.dim_hierarchy.proofs.NameBytes.{IsBehind-start, IsBehind-first}
use Rattle.dim_hierarchy.proofs.row_names.RowNames.get.Goals as goal

pub loop-before-init : goal.loop-before-init
loop-before-init c =
    rw (sym c.self.view_is, c.as_slice-rest.ensures.value) (IsBehind-start c.self.inside.count c.self.inside.bytes.items c.self.invariant)

pub loop-before-preserved : goal.loop-before-preserved
loop-before-preserved c =
    let first = IsBehind-first c.args.self.now c.loop-before._before c.loop-before.rest.now c.loop-before.invariant (omega arith) in
    rw c.others-rest.ensures first.others

pub returns : goal.returns
returns c =
    let there : c.loop-before._before ≡ c.args.place = omega arith in
    let first = IsBehind-first c.args.self.now c.loop-before._before c.loop-before.rest.now c.loop-before.invariant (omega arith) in
    c.first.ensures ∙ first.name ∙ ap (λ k. get_or c.args.self.now k []) there
