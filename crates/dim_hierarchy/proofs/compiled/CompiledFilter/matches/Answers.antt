use Rattle.std.proofs.Common.{arith, ◌≡◌, ◌∙◌, ap, sym, subst, true, false}
use Rattle.std.specs.Prelude.{◌↔◌, IsTrue}
use Rattle.dim_hierarchy.specs.{Dimension.tree, Filter.{is_picked, pick_at}, Meaning.Matches, Row.concept_at}
use Rattle.dim_hierarchy.proofs.Matching.{IsCoordOf-length, picked-end, picked-step, matches-Matches}
use Rattle.dim_hierarchy.proofs.compiled.CompiledFilter.matches.Goals as goal

pub loop-dim-preserved : goal.loop-dim-preserved
loop-dim-preserved c =
    let h = c.args.self.now.hierarchy in
    let f = c.args.self.now.picks in
    let here : c.has.result ≡ is_picked (tree h c.loop-dim.dim) (pick_at f c.loop-dim.dim) (concept_at c.args.at.now c.loop-dim.dim) =
    c.has.ensures ∙ ap (is_picked (tree h c.loop-dim.dim) (pick_at f c.loop-dim.dim)) c.concept.ensures in
    c.loop-dim.invariant
    ∙ picked-step h f c.args.at.now.at c.loop-dim.dim true (omega arith) c.dims-dim-end.ensures.valid.count (IsCoordOf-length h c.args.at.now c.requires) (sym c.if-not-has.false ∙ here)

not_matched : goal.returns-then-not-has-clause-test
not_matched c =
    let h = c.args.self.now.hierarchy in
    let f = c.args.self.now.picks in
    let here : c.has.result ≡ is_picked (tree h c.loop-dim.dim) (pick_at f c.loop-dim.dim) (concept_at c.args.at.now c.loop-dim.dim) =
    c.has.ensures ∙ ap (is_picked (tree h c.loop-dim.dim) (pick_at f c.loop-dim.dim)) c.concept.ensures in
    sym (c.loop-dim.invariant
    ∙ picked-step h f c.args.at.now.at c.loop-dim.dim false (omega arith) c.dims-dim-end.ensures.valid.count (IsCoordOf-length h c.args.at.now c.requires) (sym c.if-not-has.true ∙ here))

pub returns-then-not-has-clause-test : goal.returns-then-not-has-clause-test
returns-then-not-has-clause-test c = not_matched c

pub returns-then-not-has-clause-meaning : goal.returns-then-not-has-clause-meaning
returns-then-not-has-clause-meaning c =
    rw (not_matched c) (matches-Matches c.args.self.now.hierarchy c.args.self.now.picks c.args.at.now c.dims-dim-end.ensures.valid c.requires)

matched : goal.returns-clause-test
matched c =
    sym (c.loop-dim.invariant ∙ picked-end c.args.self.now.hierarchy c.args.self.now.picks c.args.at.now.at c.loop-dim.dim (omega arith) c.dims-dim-end.ensures.valid.count)

pub returns-clause-test : goal.returns-clause-test
returns-clause-test c = matched c

pub returns-clause-meaning : goal.returns-clause-meaning
returns-clause-meaning c =
    subst (λ b. IsTrue b ↔ Matches c.args.self.now.hierarchy c.args.self.now.picks c.args.at.now) (sym (matched c))
    (matches-Matches c.args.self.now.hierarchy c.args.self.now.picks c.args.at.now c.dims-dim-end.ensures.valid c.requires)
