-- The best of a directory's first entries with its rank.
use Rattle.std.proofs.{Common.{ℕ, ◌≡◌, ◌+◌, ◌<◌, List, arith, ap, refl, sym, ◌∙◌, Some, inl, inr}, lemmas.Option.same_Some}
use Rattle.std.specs.Prelude.{slice_get}
use Rattle.dim_hierarchy.specs.{Dimension.Dimension, declared.row.Coord.Coord}
use Rattle.describing_set.specs.{Sets.{growth_of, size_of}, declared.set.DescSet.DescSet}
use Rattle.link_descent.proofs.Picks.{Before, IsBestOf, IsBestOf-one, IsBestOf-keeps, IsBestOf-takes}

-- the set at a place comes first of the first n, and grows so much
pub record IsBestRanked (h : List Dimension) (at : Coord) (sets : List DescSet) (n place least : ℕ) : Type 0 where
  pub best : IsBestOf h at sets n place
  pub growth : (set : DescSet) → slice_get sets place ≡ Some set → least ≡ growth_of h set at

pub first-ranked : (h : List Dimension) (at : Coord) (sets : List DescSet) (set : DescSet) (growth : ℕ) → slice_get sets 0 ≡ Some set → growth ≡ growth_of h set at → IsBestRanked h at sets 1 0 growth
first-ranked h at sets set growth here g = record {
  best = IsBestOf-one h at sets;
  growth = λ one p. g ∙ ap (λ x. growth_of h x at) (same_Some set one (sym here ∙ p));
}

before-as : (ga gb gc gd s t : ℕ) → ga ≡ gc → gb ≡ gd → Before ga s gb t → Before gc s gd t
before-as ga gb gc gd s t p q b = elim b [ inl l ↦ inl (omega arith) | inr l ↦ (let x = l.0 in inr (omega arith, l.1)) ]

module _ (h : List Dimension) (at : Coord) (sets : List DescSet) (n best least : ℕ) (was : IsBestRanked h at sets n best least) (set next : DescSet) (here : slice_get sets best ≡ Some set) (there : slice_get sets n ≡ Some next)
    (growth : ℕ) (growth_is : growth ≡ growth_of h next at) where
  pub takes-ranked : Before growth (size_of h next) least (size_of h set) → IsBestRanked h at sets (n + 1) n growth
  takes-ranked b = record {
    best = IsBestOf-takes h at sets n best set next was.best here there
        (before-as growth least (growth_of h next at) (growth_of h set at) (size_of h next) (size_of h set) growth_is (was.growth set here) b);
    growth = λ one p. growth_is ∙ ap (λ x. growth_of h x at) (same_Some next one (sym there ∙ p));
  }

  pub keeps-ranked : ¬ Before growth (size_of h next) least (size_of h set) → IsBestRanked h at sets (n + 1) best least
  keeps-ranked b = record {
    best = IsBestOf-keeps h at sets n best set next was.best here there
        (λ k. b (before-as (growth_of h next at) (growth_of h set at) growth least (size_of h next) (size_of h set) (sym growth_is) (sym (was.growth set here)) k));
    growth = was.growth;
  }

-- what grows by more than the least is no better
pub keeps-beyond : (h : List Dimension) (at : Coord) (sets : List DescSet) (n best least : ℕ) → IsBestRanked h at sets n best least → (set next : DescSet) → slice_get sets best ≡ Some set → slice_get sets n ≡ Some next → least < growth_of h next at → IsBestRanked h at sets (n + 1) best least
keeps-beyond h at sets n best least was set next here there more =
    keeps-ranked h at sets n best least was set next here there (growth_of h next at) refl
    (λ b. elim b [ inl l ↦ omega (arith, l, more) | inr l ↦ omega (arith, l.0, more) ])
