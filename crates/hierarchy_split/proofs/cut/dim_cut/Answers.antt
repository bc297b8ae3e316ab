use Rattle.std.proofs.Common.{subst, sym, ◌∙◌}
use Rattle.hierarchy_split.specs.Cut.{IsCutLevel}
use Rattle.hierarchy_split.proofs.Cuts.{no_dim_cut, IfNone-from}
use Rattle.hierarchy_split.proofs.cut.dim_cut.Goals as goal

pub returns-in_err-lift-clause-none : goal.returns-in_err-lift-clause-none
returns-in_err-lift-clause-none c =
    IfNone-from c.from_residual.result (λ cut e d. c.in_err-lift.ensures.none cut.level (subst (λ n. IsCutLevel c.args.h.now c.args.sets.now n cut.level) e d.level))

pub returns-in_err-left-clause-none : goal.returns-in_err-left-clause-none
returns-in_err-left-clause-none c =
    let lift = c.in_ok-lift in
    IfNone-from c.from_residual-in_err-left.result
    (no_dim_cut c.args.h.now c.args.sets.now c.args.dim lift.lift.level c.as_slice.result.now c.as_slice-2.result.now c.order-order.result.items c.as_slice-3.result.now lift.ensures.level
    (c.as_slice.ensures.value ∙ lift.ensures.leasts) (c.as_slice-2.ensures.value ∙ sym c.as_slice.ensures.value) c.as_slice-3.ensures.value c.order-order.ensures c.in_err-left.ensures.none)
