use Rattle.std.proofs.{Common.{arith, ◌≡◌, ◌+◌, ◌<◌, ◌^◌, ◌∙◌, [], ◌∷◌, ◌++◌, List, ℕ, sym, subst, set, get_or, length, ap}, lemmas.List.get_or_default}
use Rattle.dim_hierarchy.specs.{Concept.level_of, Dimension.Dimension, Lineage.{lineages_at, AreLineagesOf}, Tree.{IsConcept, IsTree, next_under, with_child, parents_at, up}}
use Rattle.dim_hierarchy.proofs.Lineages.{CanAddLineage, AreLineagesOf-with_lineage, longer, with_lineage}
use Rattle.dim_hierarchy.proofs.dimension.DimensionTable.add.Goals as goal

pub invariant_of-self-2 : goal.invariant_of-self-2
invariant_of-self-2 c =
    let p = c.args.parent in
    let t = c.self.inside.levels.items in
    let lineages = c.in-Some.table.now in
    let seen = c.self.view_is ∙ c.own_lineages.ensures in
    let lineage = c.lineage-own.result in
    let level = level_of p + 1 in
    let lineages_of : AreLineagesOf t lineages = subst (AreLineagesOf t) (sym c.in-Some.ensures.value) c.self.invariant in
    let can : CanAddLineage t lineages p lineage = record {
      tree = subst (λ (d : Dimension). IsTree d.tree) (sym seen) c.requires.tree;
      lineages_of = lineages_of;
      concept = subst (λ (d : Dimension). IsConcept d.tree p) (sym seen) c.requires.concept;
      level = subst (λ (d : Dimension). level < length d.tree) (sym seen) c.requires.level;
      room = subst (λ (d : Dimension). length (parents_at d.tree level) < 2 ^ 28) (sym seen) c.requires.room;
      long = c.lineage-own.ensures.long;
      lineage_is = λ k le. c.lineage-own.ensures.ancestors k le ∙ ap (λ (d : Dimension). up d.tree p k) (sym c.self.view_is);
    } in
    let below = c.level-below.ensures.value in
    let at : c.from.result ≡ level = c.from.ensures ∙ ap (λ n. n + 1) below in
    let at_too : c.from-3.result ≡ level = c.from-3.ensures ∙ ap (λ n. n + 1) below in
    let parents : c.level.inside.parents.items ≡ parents_at t level =
    c.level.view_is ∙ c.index_mut-level.ensures.value ∙ ap (λ k. get_or t k c.index_mut-level.result.now) at ∙ get_or_default t level c.index_mut-level.result.now [] can.level in
    let same_lineages : c.lineages.inside.all.items ≡ lineages_at lineages level =
    c.lineages.view_is ∙ ap (λ k. get_or lineages k c.index-table-from.result) at_too
    ∙ get_or_default lineages level c.index-table-from.result [] (let e = lineages_of.levels in let l = can.level in let few = can.tree.few in omega (arith, e, l, few)) in
    let id : c.new-id.result ≡ next_under t p = let a = c.new-id.ensures in let b = c.len.ensures in let d = ap length parents in omega (arith, a, b, d, below) in
    let grown : set t c.from.result c.push.new.self.items ≡ with_child t p =
    ap (λ (l : List ℕ). set t c.from.result l) (c.in_ok-push.ensures.items ∙ ap (λ (l : List ℕ). l ++ p ∷ []) (c.in_ok-reserve.ensures.items ∙ parents))
    ∙ ap (λ k. set t k (parents_at t level ++ p ∷ [])) at in
    let own : set lineage c.from-2.result c.new-id.result ≡ longer lineage p (next_under t p) =
    ap (λ k. set lineage k c.new-id.result) (c.from-2.ensures ∙ ap (λ n. n + 1) below) ∙ ap (λ x. set lineage level x) id in
    let long : set lineages c.from-3.result c.push-2.new.self.items ≡ with_lineage lineages p (longer lineage p (next_under t p)) =
    ap (λ (l : List (List ℕ)). set lineages c.from-3.result l)
    (c.in_ok-push-2.ensures.items ∙ ap (λ (l : List (List ℕ)). l ++ set lineage c.from-2.result c.new-id.result ∷ []) (c.in_ok-reserve-2.ensures.items ∙ same_lineages)
    ∙ ap (λ (x : List ℕ). lineages_at lineages level ++ x ∷ []) own)
    ∙ ap (λ k. set lineages k (lineages_at lineages level ++ longer lineage p (next_under t p) ∷ [])) at_too in
    rw grown (subst (AreLineagesOf (with_child t p)) (sym long) (AreLineagesOf-with_lineage t lineages p lineage can))
