use Rattle.std.proofs.Common.{arith, ◌≡◌, ◌∙◌, sym, subst, true, false}
use Rattle.std.specs.Prelude.{◌↔◌, IsTrue}
use Rattle.dim_hierarchy.specs.{Dimension.tree, Filter.{is_picked, pick_at}, Meaning.Matches, Row.concept_at}
use Rattle.dim_hierarchy.proofs.Matching.{IsCoordOf-length, picked-end, picked-step, is_picked-read, matches-Matches}
use Rattle.dim_hierarchy.proofs.hierarchy.Hierarchy.matches.Goals as goal

pub loop-dim-preserved : goal.loop-dim-preserved
loop-dim-preserved c =
    let h = c.args.self.now in
    let f = c.args.filter.now in
    let here : c.is_picked.result ≡ is_picked (tree h c.loop-dim.dim) (pick_at f c.loop-dim.dim) (concept_at c.args.at.now c.loop-dim.dim) =
    c.is_picked.ensures ∙ is_picked-read h f c.as_slice-picks.result.now c.loop-dim.dim c.from.result c.concept.result _ c.table.result.now c.index-picks-from.result c.as_slice-picks.ensures c.from.ensures (omega arith) c.table.ensures.value c.index-picks-from.is c.concept.ensures in
    c.loop-dim.invariant
    ∙ picked-step h f c.args.at.now.at c.loop-dim.dim true (omega arith) c.requires.filter.count (IsCoordOf-length h c.args.at.now c.requires.at) (sym c.if-not-is_picked.false ∙ here)

not_matched : goal.returns-then-not-is_picked-clause-test
not_matched c =
    let h = c.args.self.now in
    let f = c.args.filter.now in
    let here : c.is_picked.result ≡ is_picked (tree h c.loop-dim.dim) (pick_at f c.loop-dim.dim) (concept_at c.args.at.now c.loop-dim.dim) =
    c.is_picked.ensures ∙ is_picked-read h f c.as_slice-picks.result.now c.loop-dim.dim c.from.result c.concept.result _ c.table.result.now c.index-picks-from.result c.as_slice-picks.ensures c.from.ensures (omega arith) c.table.ensures.value c.index-picks-from.is c.concept.ensures in
    sym (c.loop-dim.invariant
    ∙ picked-step h f c.args.at.now.at c.loop-dim.dim false (omega arith) c.requires.filter.count (IsCoordOf-length h c.args.at.now c.requires.at) (sym c.if-not-is_picked.true ∙ here))

pub returns-then-not-is_picked-clause-test : goal.returns-then-not-is_picked-clause-test
returns-then-not-is_picked-clause-test c = not_matched c

pub returns-then-not-is_picked-clause-meaning : goal.returns-then-not-is_picked-clause-meaning
returns-then-not-is_picked-clause-meaning c =
    rw (not_matched c) (matches-Matches c.args.self.now c.args.filter.now c.args.at.now c.requires.filter c.requires.at)

matched : goal.returns-clause-test
matched c = sym (c.loop-dim.invariant ∙ picked-end c.args.self.now c.args.filter.now c.args.at.now.at c.loop-dim.dim (omega arith) c.requires.filter.count)

pub returns-clause-test : goal.returns-clause-test
returns-clause-test c = matched c

pub returns-clause-meaning : goal.returns-clause-meaning
returns-clause-meaning c =
    subst (λ b. IsTrue b ↔ Matches c.args.self.now c.args.filter.now c.args.at.now) (sym (matched c)) (matches-Matches c.args.self.now c.args.filter.now c.args.at.now c.requires.filter c.requires.at)
