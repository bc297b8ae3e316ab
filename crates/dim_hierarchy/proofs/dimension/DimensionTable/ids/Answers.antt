use Rattle.std.proofs.Common.{sym, subst, ◌∙◌}
use Rattle.std.specs.Prelude.{IsSome}
use Rattle.dim_hierarchy.proofs.Named.{IsGathered-start, IsGathered-next, IsGathered-end, IsGathered-known, get-read}
use Rattle.dim_hierarchy.proofs.dimension.DimensionTable.ids.Goals as goal

pub loop-name-init : goal.loop-name-init
loop-name-init c = rw c.new-ids.ensures (IsGathered-start c.args.self.now c.args.names.now)

pub unwrap-id-requires : goal.unwrap-id-requires
unwrap-id-requires c =
    let found = get-read c.args.self.now c.args.names.now c.loop-name.name-index c.name-item.result c.as_slice.result.now c.find.result c.loop-name-test.true c.name-item.is c.as_slice.ensures c.find.ensures in
    subst IsSome (sym found) (IsGathered-known c.args.self.now c.args.names.now c.loop-name.name-index c.loop-name.ids c.loop-name.invariant c.loop-name-test.true c.requires)

pub loop-name-preserved : goal.loop-name-preserved
loop-name-preserved c =
    let found = get-read c.args.self.now c.args.names.now c.loop-name.name-index c.name-item.result c.as_slice.result.now c.find.result c.loop-name-test.true c.name-item.is c.as_slice.ensures c.find.ensures in
    rw c.in_ok-push.ensures.ok (IsGathered-next c.args.self.now c.args.names.now c.loop-name.name-index c.unwrap-id.result c.loop-name.ids c.loop-name.invariant c.loop-name-test.true (sym found ∙ c.unwrap-id.ensures))

pub returns : goal.returns
returns c = IsGathered-end c.args.self.now c.args.names.now c.loop-name.name-index c.loop-name.ids c.loop-name.invariant c.loop-name-test.false
