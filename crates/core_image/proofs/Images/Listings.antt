-- What a server lists are shards in the order of their ids, and those that stood when it pulled.
use Rattle.std.proofs.{Common.{ℕ, List, [], ◌∷◌, Bool, sym, subst, ◌==◌, inl, inr, length}, lemmas.Bool.{cases_lt, cond_both}}
use Rattle.describing_set.specs.declared.listing.Spot.{Spot}
use Rattle.row_ledger.specs.{Bounds.listing_of, Laws.AscendFrom, Listings.places_of, Right.{Site, EachEvent, Opens, Stands}, declared.event.Event.Event, declared.event.Event.TheVariants.Synced}
use Rattle.row_ledger.proofs.Ascent.{frontier-ascends}

pub listing-ascends : (site : Site) (usable : ℕ → Bool) (h : List Event) (server : ℕ) → EachEvent (Opens site) h → EachEvent (Stands site usable) h → AscendFrom 0 (places_of (listing_of h server))
listing-ascends site usable [] server opens each = tt
listing-ascends site usable (Synced t listing ∷ past) server opens each =
    cond_both (t == server) listing (listing_of past server) (λ (spots : List Spot). AscendFrom 0 (places_of spots))
    (λ is. elim (cases_lt (length past) site.servers) [
      | inl early ↦ subst (AscendFrom 0) (sym (opens.0 early).1.places) (frontier-ascends site usable [] tt)
      | inr late ↦ subst (AscendFrom 0) (sym (each.0 late).lists.places) (frontier-ascends site usable past each.1)
    ])
    (λ off. listing-ascends site usable past server opens.1 each.1)
listing-ascends site usable (_ ∷ past) server opens each = listing-ascends site usable past server opens.1 each.1
