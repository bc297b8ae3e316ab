use Rattle.std.proofs.{Common.{ℕ, ◌≡◌, [], sym}, lemmas.List.Elements.{All-cons, All-nil}}
use Rattle.dim_hierarchy.specs.{Concept.level_of, Dimension.tree, Tree.IsConcept}
use Rattle.tree_tests.proofs.hierarchies.marked.Goals as goal

pub has_all-has-requires-clause-concepts : goal.has_all-has-requires-clause-concepts
has_all-has-requires-clause-concepts c =
    let P : ℕ → Type 0 = λ id. IsConcept (tree c.args.wanted.now.hierarchy 0) id × (level_of id ≡ c.level.result) in
    All-cons P c.args.id [] (c.requires.concept, sym c.level.ensures.value) (All-nil P)
