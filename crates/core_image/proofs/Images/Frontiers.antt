-- Shards that stand, and the spots that list them.
use Rattle.std.proofs.{Common.{◌≡◌, ℕ, List, [], ◌∷◌, Bool, true, false, sym, ap, ◌==◌, ◌∙◌, ◌&&◌, Any, eq-eqb}, lemmas.Bool.{eqb-true, or_left}, lemmas.List.Folds.{Any-from_list_any, list_any-from_Any}}
use Rattle.std.specs.{List.{cons_option, list_any}, Option.option_map_or, Prelude.{Option, Some, None, filter_map, if◌then◌else◌, ◌||◌}}
use Rattle.describing_set.specs.declared.listing.Spot.{Spot}
use Rattle.row_ledger.specs.{Bounds.listing_of, Listings.places_of, Past.{Pull, pull_in}, Shards.{Place, frontier, is_live, is_of, place, was_listed}, declared.event.Event.Event}
use Rattle.list_words.proofs.Elements.{Contains-map, Contains-mapped, Contains-nil}
use Rattle.volap_cell.specs.Imaging.{IsSpotOf}

-- a shard is at a place of these exactly where a spot of it is

pub spot-there : (x : ℕ) (spots : List Spot) → list_any (is_of x) (places_of spots) ≡ true → Any (IsSpotOf x) spots
spot-there x spots is =
    let found = Any-from_list_any (is_of x) (places_of spots) is in
    let spot = Contains-mapped (λ (y : Spot). place y.shard y.worker) spots found.1 (found.0, found.2, found.3) in
    (spot.1.0, spot.0, spot.1.1, spot.1.2, ap (λ (p : Place). p.shard) spot.2 ∙ eqb-true found.1.shard x found.4)

pub place-there : (x : ℕ) (spots : List Spot) → Any (IsSpotOf x) spots → list_any (is_of x) (places_of spots) ≡ true
place-there x spots (n, spot, within, here, is) =
    let c = Contains-map (λ (y : Spot). place y.shard y.worker) spots spot (n, within, here) in
    list_any-from_Any (is_of x) (places_of spots) (c.0, place spot.shard spot.worker, c.1, c.2, eq-eqb spot.shard x is)

-- the spots of what stands

pub live-spot : (workers : ℕ) (h : List Event) (spots : List Spot) → places_of spots ≡ frontier workers h → (x : ℕ) → is_live workers h x ≡ true → Any (IsSpotOf x) spots
live-spot workers h spots same x live = spot-there x spots (ap (list_any (is_of x)) same ∙ live)

pub spot-live : (workers : ℕ) (h : List Event) (spots : List Spot) → places_of spots ≡ frontier workers h → (x : ℕ) → Any (IsSpotOf x) spots → is_live workers h x ≡ true
spot-live workers h spots same x has = sym (ap (list_any (is_of x)) same) ∙ place-there x spots has

-- what a server pulled last it has pulled
pub listed-was : (h : List Event) (server x : ℕ) → Any (IsSpotOf x) (listing_of h server) → was_listed h server x ≡ true
listed-was [] server x has = absurd (Contains-nil has.1 (has.0, has.2, has.3))
listed-was (e ∷ past) server x has = at (listed-was past server x) (pull_in e) has
  where
    at : (Any (IsSpotOf x) (listing_of past server) → was_listed past server x ≡ true) → (o : Option Pull) → Any (IsSpotOf x) (option_map_or (λ (p : Pull). if p.server == server then p.listing else listing_of past server) o (listing_of past server))
        → list_any (λ (p : Pull). (p.server == server) && list_any (λ spot. spot.shard == x) p.listing) (cons_option o (filter_map pull_in past)) ≡ true
    at older None has = older has
    at older (Some p) has = in-pull older p (p.server == server) has
      where
        in-pull : (Any (IsSpotOf x) (listing_of past server) → was_listed past server x ≡ true) → (p : Pull) (b : Bool) → Any (IsSpotOf x) (if b then p.listing else listing_of past server)
            → ((b && list_any (λ spot. spot.shard == x) p.listing) || list_any (λ (p : Pull). (p.server == server) && list_any (λ spot. spot.shard == x) p.listing) (filter_map pull_in past)) ≡ true
        in-pull older p true has = or_left _ _ (list_any-from_Any (λ (spot : Spot). spot.shard == x) p.listing (has.0, has.1, has.2, has.3, eq-eqb has.1.shard x has.4))
        in-pull older p false has = older has
