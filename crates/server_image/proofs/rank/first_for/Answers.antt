use Rattle.std.proofs.{Common.{◌≡◌, ◌+◌, length, Some, refl, sym, ap, ◌∙◌}, lemmas.Bool.{false≢true}, lemmas.Option.{slice_get-get_or, slice_get_read, get_or_from_slice_get}}
use Rattle.std.specs.Prelude.{slice_get}
use Rattle.describing_set.specs.{Sets.growth_of, declared.listing.Spot.Spot}
use Rattle.server_image.proofs.{Routes.{rank_read, IsBestRanked-read, IsRoute-ranked, IsBestRanked-takes, IsBestRanked-keeps, IsBestRanked-beyond}, rank.first_for.Goals.{in-Some+then-is_lower, in-Some+else-is_lower, in_default}}
use Rattle.server_image.proofs.rank.first_for.Goals as goal

pub loop-place-init : goal.loop-place-init
loop-place-init c =
    let h = c.args.h.now in
    let at = c.args.at.now.coord in
    let spots = c.args.spots.now in
    let best = c.covering-best.result in
    let spot = c.index-spots-best.result in
    let here : slice_get spots best ≡ Some spot = slice_get_read spots (length spots) best spot refl c.covering-best.ensures.within c.index-spots-best.is in
    let same = get_or_from_slice_get spots best spot c.index-spots-best-2.result here in
    let growth : c.growth.result ≡ growth_of h spot.set at = c.growth.ensures ∙ ap (λ (s : Spot). growth_of h s.set at) same in
    IsBestRanked-read h at spots (best + 1) best c.rank_of-least.result spot here c.covering-best.ensures.first (rank_read h at spot c.growth.result c.rank_of-least.result c.rank_of-least.ensures growth)

pub loop-place-preserved : goal.loop-place-preserved
loop-place-preserved c =
    let h = c.args.h.now in
    let at = c.args.at.now.coord in
    let spots = c.args.spots.now in
    let n = c.loop-place.place in
    let best = c.loop-place.best in
    let least = c.loop-place.least in
    let was = c.loop-place.invariant in
    let next = c.index-spots-place.result in
    let there : slice_get spots n ≡ Some next = slice_get_read spots (length spots) n next refl c.loop-place-test.true c.index-spots-place.is in
    let here = slice_get-get_or spots best next was.within in
    elim c.match-growth_within.branch [
      | in-Some+then-is_lower w ↦ rw (w.best-is, w.least-is) (IsBestRanked-takes h at spots n best least was _ next here there w.rank_of-rank.result (rank_read h at next w.in-Some.growth w.rank_of-rank.result w.rank_of-rank.ensures w.in-Some.ensures.some) (w.is_lower.ensures.0 w.if-is_lower.true))
      | in-Some+else-is_lower w ↦ rw (w.best-is, w.least-is) (IsBestRanked-keeps h at spots n best least was _ next here there w.rank_of-rank.result (rank_read h at next w.in-Some.growth w.rank_of-rank.result w.rank_of-rank.ensures w.in-Some.ensures.some) (λ lower. false≢true (sym w.if-is_lower.false ∙ w.is_lower.ensures.1 lower)))
      | in_default w ↦ rw (w.best-is, w.least-is) (IsBestRanked-beyond h at spots n best least was _ next here there w.in_default.ensures.none)
    ]

pub returns : goal.returns
returns c = IsRoute-ranked c.args.h.now c.args.at.now.coord c.args.spots.now c.loop-place.place c.loop-place.best c.loop-place.least c.loop-place-test.false c.loop-place.invariant
