use Rattle.std.proofs.{Common.{◌∙◌, sym, ap, drop, ◌+◌}, lemmas.List.drop_all}
use Rattle.std.specs.Prelude.{◌&&◌, is_some}
use Rattle.dim_hierarchy.specs.Filter.{ids_named}
use Rattle.dim_hierarchy.proofs.Named.{get-read, is_some-ids_named-drop}
use Rattle.dim_hierarchy.proofs.dimension.DimensionTable.knows_all.Goals as goal

pub returns-then-is_none : goal.returns-then-is_none
returns-then-is_none c =
    let found = get-read c.args.self.now c.args.names.now c.loop-name.name-index c.name-item.result c.as_slice.result.now c.find.result c.loop-name-test.true c.name-item.is c.as_slice.ensures c.find.ensures in
    let rest = is_some (ids_named c.args.self.now (drop (c.loop-name.name-index + 1) c.args.names.now)) in
    sym (c.loop-name.invariant ∙ is_some-ids_named-drop c.args.self.now c.args.names.now c.loop-name.name-index c.loop-name-test.true ∙ ap (λ o. is_some o && rest) (sym found) ∙ ap (λ b. b && rest) c.if-is_none.ensures)

pub loop-name-preserved : goal.loop-name-preserved
loop-name-preserved c =
    let found = get-read c.args.self.now c.args.names.now c.loop-name.name-index c.name-item.result c.as_slice.result.now c.find.result c.loop-name-test.true c.name-item.is c.as_slice.ensures c.find.ensures in
    let rest = is_some (ids_named c.args.self.now (drop (c.loop-name.name-index + 1) c.args.names.now)) in
    c.loop-name.invariant ∙ is_some-ids_named-drop c.args.self.now c.args.names.now c.loop-name.name-index c.loop-name-test.true ∙ ap (λ o. is_some o && rest) (sym found) ∙ ap (λ b. b && rest) c.if-is_none.ensures

pub returns : goal.returns
returns c = sym (c.loop-name.invariant ∙ ap (λ l. is_some (ids_named c.args.self.now l)) (drop_all c.loop-name.name-index c.args.names.now c.loop-name-test.false))
