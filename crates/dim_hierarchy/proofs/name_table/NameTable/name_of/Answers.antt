use Rattle.std.proofs.{Common.{◌≢◌, ◌∙◌, Some, ◌+◌, ◌∷◌, ap, sym, subst, drop, map as each}, lemmas.Bool.{false≢true}, lemmas.List.{drop_more, drop_all}}
use Rattle.std.specs.FinMap as map
use Rattle.dim_hierarchy.specs.NameNodes.{name_map, names_of}
use Rattle.dim_hierarchy.proofs.NameMaps.{AreLeft, AreLeft-all, AreLeft-next, AreLeft-none}
use Rattle.dim_hierarchy.proofs.name_table.NameTable.name_of.Goals as goal

pub loop-node-init : goal.loop-node-init
loop-node-init c =
    let os = c.self.inside.others.entries in
    AreLeft-all c.deref-node-items.result.now os c.args.self.now c.args.id (ap (λ ns. name_map ns os) c.deref-node-items.ensures.value ∙ c.self.view_is)

pub loop-node-preserved : goal.loop-node-preserved
loop-node-preserved c =
    let ns = c.deref-node-items.result.now in
    let os = c.self.inside.others.entries in
    let i = c.loop-node.node-index in
    let left = subst (λ z. AreLeft c.args.self.now c.args.id (names_of z os)) (drop_more ns i c.node-item.result c.loop-node-test.true ∙ ap (λ n. n ∷ drop (i + 1) ns) (sym c.node-item.is)) c.loop-node.invariant in
    let other : map.get c.args.self.now c.node-item.result.name.items ≢ Some c.args.id = λ e. false≢true (c.if-is_name_of.ensures.1 (ap (map.get c.args.self.now) c.as_slice.ensures.value ∙ e)) in
    AreLeft-next c.args.self.now c.args.id c.node-item.result.name.items (names_of (drop (i + 1) ns) os) left other

pub loop-name-init : goal.loop-name-init
loop-name-init c =
    let ns = c.deref-node-items.result.now in
    let os = c.self.inside.others.entries in
    let left = subst (λ z. AreLeft c.args.self.now c.args.id (names_of z os)) (drop_all c.loop-node.node-index ns c.loop-node-test.false) c.loop-node.invariant in
    subst (λ z. AreLeft c.args.self.now c.args.id (each (λ e. e.0.items) z)) (sym (c.into_iter-name-iterator.ensures.into_iter_gives ∙ c.iter-name-items.ensures.rest)) left

pub loop-name-preserved : goal.loop-name-preserved
loop-name-preserved c =
    let left = subst (λ z. AreLeft c.args.self.now c.args.id (each (λ e. e.0.items) z)) c.in-Some.ensures.steps c.loop-name.invariant in
    let other : map.get c.args.self.now c.in-Some.name.now.items ≢ Some c.args.id = λ e. false≢true (c.if-is_name_of-2.ensures.1 (ap (map.get c.args.self.now) c.as_slice-in-loop-name.ensures.value ∙ e)) in
    AreLeft-next c.args.self.now c.args.id c.in-Some.name.now.items (each (λ e. e.0.items) c.next.new.self) left other

pub returns-clause-none : goal.returns-clause-none
returns-clause-none c =
    AreLeft-none c.args.self.now c.args.id (subst (λ z. AreLeft c.args.self.now c.args.id (each (λ e. e.0.items) z)) c.in-None.ensures.steps.0 c.loop-name.invariant)
