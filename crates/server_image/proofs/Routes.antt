-- The spot before which no other comes.
use Rattle.std.proofs.{Common.{ℕ, ◌≡◌, ◌+◌, ◌<◌, ◌≤◌, ◌⊎◌, inl, inr, List, length, Some, refl, sym, ap, ◌∙◌, subst, arith}, lemmas.Bool.cases_lt, lemmas.Option.{same_Some, slice_get_within}}
use Rattle.std.specs.Prelude.{slice_get}
use Rattle.dim_hierarchy.specs.{Dimension.Dimension, declared.row.Coord.Coord}
use Rattle.describing_set.specs.{Sets.{growth_of, size_of}, declared.listing.Spot.Spot}
use Rattle.server_image.specs.{Image.{RanksBefore, IsRoute}, Rank.{rank_of, IsLower, IsRouteAmong}, declared.rank.Rank.Rank}

-- The order, over its numbers: growth, size and id.

abbrev pub Before : ℕ → ℕ → ℕ → ℕ → ℕ → ℕ → Type 0
Before ga sa ia gb sb ib = (ga < gb) ⊎ ((ga ≡ gb) × ((sa < sb) ⊎ ((sa ≡ sb) × (ia < ib))))

not_itself : (g s i : ℕ) → ¬ Before g s i g s i
not_itself g s i before = elim before [
  | inl less ↦ omega (arith, less)
  | inr level ↦ elim level.1 [ inl less ↦ omega (arith, less) | inr same ↦ omega (arith, same.1) ]
]

through : (ga sa ia gb sb ib gc sc ic : ℕ) → Before ga sa ia gb sb ib → Before gb sb ib gc sc ic → Before ga sa ia gc sc ic
through ga sa ia gb sb ib gc sc ic p q = elim p [
  | inl p0 ↦ elim q [ inl q0 ↦ inl (omega (arith, p0, q0)) | inr q1 ↦ inl (let e = q1.0 in omega (arith, p0, e)) ]
  | inr p1 ↦ elim q [
    | inl q0 ↦ inl (let e = p1.0 in omega (arith, q0, e))
    | inr q1 ↦ inr (
      p1.0 ∙ q1.0,
      elim p1.1 [
        | inl r ↦ elim q1.1 [ inl t ↦ inl (omega (arith, r, t)) | inr t ↦ inl (let e = t.0 in omega (arith, r, e)) ]
        | inr r ↦ elim q1.1 [
          | inl t ↦ inl (let e = r.0 in omega (arith, t, e))
          | inr t ↦ inr (r.0 ∙ t.0, let a = r.1 in let b = t.1 in omega (arith, a, b))
        ]
      ],
    )
  ]
]

RanksBefore-not_itself : (h : List Dimension) (at : Coord) (a : Spot) → ¬ RanksBefore h at a a
RanksBefore-not_itself h at a = not_itself (growth_of h a.set at) (size_of h a.set) a.shard

RanksBefore-through : (h : List Dimension) (at : Coord) (a b c : Spot) → RanksBefore h at a b → RanksBefore h at b c → RanksBefore h at a c
RanksBefore-through h at a b c =
    through (growth_of h a.set at) (size_of h a.set) a.shard (growth_of h b.set at) (size_of h b.set) b.shard (growth_of h c.set at) (size_of h c.set) c.shard

module _ (h : List Dimension) (at : Coord) (spots : List Spot) (n best : ℕ) (was : IsRouteAmong h at spots n best) (spot next : Spot) (here : slice_get spots best ≡ Some spot) (there : slice_get spots n ≡ Some next) where
  pub IsRouteAmong-keeps : ¬ RanksBefore h at next spot → IsRouteAmong h at spots (n + 1) best
  IsRouteAmong-keeps unless = record {
    within = let w = was.within in omega (arith, w);
    first = λ one other k lt p q. elim (cases_lt k n) [
      | inl less ↦ was.first one other k less p q
      | inr ge ↦
          let e : k ≡ n = omega (arith, lt, ge) in
          let one_is : spot ≡ one = same_Some spot one (sym here ∙ p) in
          let other_is : next ≡ other = same_Some next other (sym there ∙ ap (slice_get spots) (sym e) ∙ q) in
          subst (λ s. ¬ RanksBefore h at other s) one_is (subst (λ s. ¬ RanksBefore h at s spot) other_is unless)
    ];
  }

  pub IsRouteAmong-takes : RanksBefore h at next spot → IsRouteAmong h at spots (n + 1) n
  IsRouteAmong-takes before = record {
    within = omega arith;
    first = λ one other k lt p q.
        let one_is : next ≡ one = same_Some next one (sym there ∙ p) in
        subst (λ s. ¬ RanksBefore h at other s) one_is (elim (cases_lt k n) [
          | inl less ↦ λ b. was.first spot other k less here q (RanksBefore-through h at other next spot b before)
          | inr ge ↦
              let e : k ≡ n = omega (arith, lt, ge) in
              let same : next ≡ other = same_Some next other (sym there ∙ ap (slice_get spots) (sym e) ∙ q) in
              subst (λ s. ¬ RanksBefore h at s next) same (RanksBefore-not_itself h at next)
        ]);
  }

-- the boxes of the first n spots don't cover the coordinate
abbrev pub AreBeyond : List Dimension → Coord → List Spot → ℕ → Type 0
AreBeyond h at spots n = (other : Spot) (k : ℕ) → k < n → slice_get spots k ≡ Some other → 0 < growth_of h other.set at

-- of the first n spots none comes before the one at a place, and this is its rank
pub record IsBestRanked (h : List Dimension) (at : Coord) (spots : List Spot) (n place : ℕ) (least : Rank) : Type 0 where
  pub within : place < length spots
  pub best : IsRouteAmong h at spots n place
  pub rank : (spot : Spot) → slice_get spots place ≡ Some spot → least ≡ rank_of h at spot

-- what the code reads is the rank
pub rank_read : (h : List Dimension) (at : Coord) (spot : Spot) (growth : ℕ) (rank : Rank) → rank ≡ record { growth = growth; size = size_of h spot.set; shard = spot.shard } → growth ≡ growth_of h spot.set at → rank ≡ rank_of h at spot
rank_read h at spot growth rank is counted = subst (λ g. rank ≡ record { growth = g; size = size_of h spot.set; shard = spot.shard }) counted is

pub IsBestRanked-read : (h : List Dimension) (at : Coord) (spots : List Spot) (n place : ℕ) (least : Rank) (spot : Spot) → slice_get spots place ≡ Some spot → IsRouteAmong h at spots n place → least ≡ rank_of h at spot → IsBestRanked h at spots n place least
IsBestRanked-read h at spots n place least spot here first is = record {
  within = slice_get_within spots place spot here;
  best = first;
  rank = λ one p. is ∙ ap (rank_of h at) (same_Some spot one (sym here ∙ p));
}

pub IsRoute-ranked : (h : List Dimension) (at : Coord) (spots : List Spot) (n place : ℕ) (least : Rank) → length spots ≤ n → IsBestRanked h at spots n place least → IsRoute h at spots place
IsRoute-ranked h at spots n place least all b = record {
  within = b.within;
  first = λ spot other k p q. b.best.first spot other k (let lt = slice_get_within spots k other q in omega (arith, lt, all)) p q;
}

-- the best rank so far, and that of the next spot
module _ (h : List Dimension) (at : Coord) (spots : List Spot) (n place : ℕ) (least : Rank) (was : IsBestRanked h at spots n place least) (spot next : Spot) (here : slice_get spots place ≡ Some spot) (there : slice_get spots n ≡ Some next) where
  as_spots : (rank : Rank) → rank ≡ rank_of h at next → IsLower rank least → RanksBefore h at next spot
  as_spots rank is lower = subst (IsLower (rank_of h at next)) (was.rank spot here) (subst (λ r. IsLower r least) is lower)

  as_ranks : (rank : Rank) → rank ≡ rank_of h at next → RanksBefore h at next spot → IsLower rank least
  as_ranks rank is before = subst (IsLower rank) (sym (was.rank spot here)) (subst (λ r. IsLower r (rank_of h at spot)) (sym is) before)

  pub IsBestRanked-takes : (rank : Rank) → rank ≡ rank_of h at next → IsLower rank least → IsBestRanked h at spots (n + 1) n rank
  IsBestRanked-takes rank is lower = record {
    within = slice_get_within spots n next there;
    best = IsRouteAmong-takes h at spots n place was.best spot next here there (as_spots rank is lower);
    rank = λ one p. is ∙ ap (rank_of h at) (same_Some next one (sym there ∙ p));
  }

  pub IsBestRanked-keeps : (rank : Rank) → rank ≡ rank_of h at next → ¬ IsLower rank least → IsBestRanked h at spots (n + 1) place least
  IsBestRanked-keeps rank is unless = record {
    within = was.within;
    best = IsRouteAmong-keeps h at spots n place was.best spot next here there (λ before. unless (as_ranks rank is before));
    rank = was.rank;
  }

  -- a box that is grown by more than the least is no better
  pub IsBestRanked-beyond : least.growth < growth_of h next.set at → IsBestRanked h at spots (n + 1) place least
  IsBestRanked-beyond more = IsBestRanked-keeps (rank_of h at next) refl (λ lower. elim lower [
    | inl less ↦ omega (arith, less, more)
    | inr level ↦ let e = level.0 in omega (arith, e, more)
  ])
