use Rattle.std.proofs.Common.{◌≡◌, false, subst, sym, ◌∙◌}
use Rattle.query_router.specs.{Desk.is_open, declared.part.Part.Part}
use Rattle.query_router.proofs.OpenParts.{one-more}
use Rattle.query_router.proofs.desk.first_open.Goals as goal

pub loop-ended-preserved : goal.loop-ended-preserved
loop-ended-preserved c =
    let closed = subst (λ (q : Part). is_open q ≡ false) c.index-parts-ended.is (sym c.is_open.ensures ∙ c.if-not-is_open.true) in
    one-more c.args.parts.now c.loop-ended.ended c.index-parts-ended.result c.loop-ended.invariant c.loop-ended-test.true closed
