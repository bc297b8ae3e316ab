-- A server's growths go to the registry: what the boxes there become, and what they cover then.
use Rattle.std.proofs.{Common.{◌≡◌, ℕ, ◌<◌, List, [], ◌∷◌, map, true, eqb, IsTrue, refl, sym, ap, subst, ◌∙◌, ◌⊎◌, inl, inr, ◌==◌, ◌&&◌, All, Any, Contains, eq-eqb, eqb-true}, lemmas.Bool.{and_from, cond_both, eqb-false}, lemmas.List.Elements.{All-cons, All-contains, All-contains_itself, All-head, All-map, All-nil, All-tail, All-weaker}, lemmas.List.Folds.list_any-from_Any}
use Rattle.std.specs.{List.AllZip, Prelude.filter}
use Rattle.dim_hierarchy.specs.{Dimension.Dimension, Row.IsCoordOf, declared.row.Coord.Coord, declared.row.Row.Row}
use Rattle.describing_set.specs.{DescSet.covers, declared.listing.Spot.Spot}
use Rattle.row_ledger.specs.{Bounds.{may, own, published}, Listings.{IsBox, IsListing, is_covered, places_of}, Past.{Ack, acked, last_of}, Shards.{comes_from, frontier}, declared.event.Event.Event}
use Rattle.list_words.proofs.{Elements.{Contains-filter, Contains-filtered, Contains-map, IsTrue-filtered}, Truth.on_bool}
use Rattle.server_image.specs.{Image.{ImageValue, IsSynced, grown_at}, Registry.RegistryValue, Spots.IsGrown, declared.image.Growth.Growth}
use Rattle.volap_cell.specs.{Ghost.Ghost, Imaging.{Fits, HasGrown, IsGrowth, IsImageOf}, Invariant.InvWith, Setting.{Setting, site_in}, View.{View, view}, World.World}
use Rattle.volap_cell.proofs.OneEvent.Known.{published-acked}
use Rattle.core_image.proofs.{Images.Boxes.{Any-zip, AllZip-with, All-zip, box-grown, grown-covers, same-places}, Images.Frontiers.live-spot, Images.Valid.{acked-placed, placed-usable}, Rows.{may-coords, row-coords}}

-- What a spot has become whose box is of rows that may be counted: its box is again of such rows, covers what it covered, and covers
-- what was noted of its shard.
pub record HasPushed (h : List Dimension) (may : List Row) (growths : List Growth) (old new : Spot) : Type 0 where
  pub shard : new.shard ≡ old.shard
  pub worker : new.worker ≡ old.worker
  pub box : IsBox h may new.set
  pub wider : HasGrown h old new
  pub noted_too : (x : Growth) → Contains growths x → x.shard ≡ old.shard → IsCoordOf h x.at → covers h new.set x.at ≡ true

module _ (s : Setting) (w : World) (g : Ghost) (i : InvWith s (view s w) g) (server : ℕ) (within : server < s.servers) (image image_now : ImageValue) (registry registry_now : RegistryValue) (pulled : List Spot)
    (image_there : (view s w).images server ≡ image) (registry_there : (view s w).registry ≡ registry) (synced : IsSynced s.hierarchy image image_now registry registry_now pulled) where
  abbrev v : View
  v = view s w

  abbrev h : List Event
  h = v.history

  abbrev usable : List Row
  usable = may g.placed h

  -- rows of which the coordinates are these
  abbrev AreRows : List Coord → Type 0
  AreRows at = (rows : List Row) × All (Contains usable) rows × (map (λ (r : Row). r.at) rows ≡ at)

  growth-rows : (growths : List Growth) → All (IsGrowth s h v.row g.placed) growths → (id : ℕ) → AreRows (grown_at growths id)
  growth-rows [] all id = ([], All-nil (Contains usable), refl)
  growth-rows (x ∷ xs) all id =
      let first : IsGrowth s h v.row g.placed x = All-head (IsGrowth s h v.row g.placed) x xs all in
      let rest = growth-rows xs (All-tail (IsGrowth s h v.row g.placed) x xs all) id in
      cond_both (x.shard == id) (x ∷ filter (λ (y : Growth). y.shard == id) xs) (filter (λ (y : Growth). y.shard == id) xs) (λ (ys : List Growth). AreRows (map (λ (y : Growth). y.at) ys))
      (λ yes. (v.row first.number ∷ rest.0, All-cons (Contains usable) (v.row first.number) rest.0 (placed-usable s w g i first.number first.is_placed) rest.1, λ k. first.at k ∷ rest.2 k))
      (λ off. rest)

  known : IsImageOf s h v.row g.placed server image
  known = subst (IsImageOf s h v.row g.placed server) image_there (i.imaging.image server within)

  boxes-were : All (λ (spot : Spot). IsBox s.hierarchy usable spot.set) registry.frontier
  boxes-were = subst (λ (x : RegistryValue). All (λ (spot : Spot). IsBox s.hierarchy usable spot.set) x.frontier) registry_there i.covering.boxes

  coords : (rows : List Row) → All (Contains usable) rows → All (IsCoordOf s.hierarchy) (map (λ (r : Row). r.at) rows)
  coords rows all = All-map (IsCoordOf s.hierarchy) (λ (r : Row). r.at) rows (All-weaker (Contains usable) (λ (r : Row). IsCoordOf s.hierarchy r.at) (may-coords s w g i) rows all)

  has-pushed : (old new : Spot) → IsBox s.hierarchy usable old.set → IsGrown s.hierarchy (grown_at image.growths old.shard) old new → HasPushed s.hierarchy usable image.growths old new
  has-pushed old new box grown =
      let more = growth-rows image.growths known.growths old.shard in
      let same : map (λ (r : Row). r.at) more.0 ≡ grown_at image.growths old.shard = more.2 in
      let grows : IsGrown s.hierarchy (map (λ (r : Row). r.at) more.0) old new = subst (λ (at : List Coord). IsGrown s.hierarchy at old new) (sym same) grown in
      let covered = grown-covers s.hierarchy (map (λ (r : Row). r.at) box.rows) (map (λ (r : Row). r.at) more.0) old new i.numbering.setting.hierarchy (coords box.rows box.usable) (coords more.0 more.1) box.set_of grows in
      record {
        shard = grown.shard;
        worker = grown.worker;
        box = box-grown s.hierarchy usable more.0 old new (may-coords s w g i) more.1 grows box;
        wider = covered.0;
        noted_too = λ x has is c. covered.1 x.at c
            (subst (λ (at : List Coord). Contains at x.at) (sym same)
            (Contains-map (λ (y : Growth). y.at) (filter (λ (y : Growth). y.shard == old.shard) image.growths) x (Contains-filter (λ (y : Growth). y.shard == old.shard) image.growths x has (eq-eqb x.shard old.shard is))));
      }

  abbrev Push : Spot → Spot → Type 0
  Push = HasPushed s.hierarchy usable image.growths

  pub all-pushed : AllZip Push registry.frontier registry_now.frontier
  all-pushed = AllZip-with (λ (old new : Spot). IsGrown s.hierarchy (grown_at image.growths old.shard) old new) Push (λ (spot : Spot). IsBox s.hierarchy usable spot.set) has-pushed
      registry.frontier registry_now.frontier boxes-were synced.pushed

  pub places : places_of registry_now.frontier ≡ frontier s.workers h
  places = same-places s.hierarchy (grown_at image.growths) registry.frontier registry_now.frontier synced.pushed ∙ ap (λ (x : RegistryValue). places_of x.frontier) (sym registry_there) ∙ i.lineage.front

  pub boxes-now : All (λ (spot : Spot). IsBox s.hierarchy usable spot.set) registry_now.frontier
  boxes-now = All-zip Push (λ (spot : Spot). IsBox s.hierarchy usable spot.set) (λ (spot : Spot). IsBox s.hierarchy usable spot.set) (λ old new p box. p.box) registry.frontier registry_now.frontier all-pushed boxes-were

  -- What fits.

  abbrev FitsNow : ℕ → Type 0
  FitsNow r = Fits s.hierarchy v.row g.home registry_now.frontier r

  pub fits-still : (r : ℕ) → g.placed r ≡ true → Fits s.hierarchy v.row g.home v.registry.frontier r → FitsNow r
  fits-still r p fits = Any-zip Push (λ (spot : Spot). (spot.shard ≡ g.home r) × (covers s.hierarchy spot.set (v.row r).at ≡ true)) (λ (spot : Spot). (spot.shard ≡ g.home r) × (covers s.hierarchy spot.set (v.row r).at ≡ true))
      (λ old new push both. (push.shard ∙ both.0, push.wider (v.row r).at (row-coords s w g i r p) both.1)) registry.frontier registry_now.frontier all-pushed
      (subst (λ (x : RegistryValue). Fits s.hierarchy v.row g.home x.frontier r) registry_there fits)

  -- a row that was acknowledged by the server fits now: where its shard was split since, as before; else by what was noted
  pub own-fits : (k : Ack) → Contains (acked h) k → k.server ≡ server → FitsNow k.row.no
  own-fits k has is =
      let r : ℕ = k.row.no in
      let placed = acked-placed s w g i k has in
      let there = i.placing.acked_rows k has in
      on_bool (eqb (g.home r) (last_of (g.path r)))
      (λ q.
      let home : g.home r ≡ last_of k.path = eqb-true (g.home r) (last_of (g.path r)) q ∙ ap last_of there.1 in
      elim (All-contains (λ (x : Ack). Fits s.hierarchy v.row g.home v.registry.frontier x.row.no ⊎ Contains (v.images x.server).growths (record { shard = last_of x.path; at = x.row.at })) (acked h) k i.covering.noted has) [
        | inl fits ↦ fits-still r placed.0 fits
        | inr growth ↦
            let growths : Contains image.growths (record { shard = last_of k.path; at = k.row.at }) = subst (λ (x : ImageValue). Contains x.growths (record { shard = last_of k.path; at = k.row.at })) (ap v.images is ∙ image_there) growth in
            Any-zip Push (λ (spot : Spot). spot.shard ≡ g.home r) (λ (spot : Spot). (spot.shard ≡ g.home r) × (covers s.hierarchy spot.set (v.row r).at ≡ true))
            (λ old new push at. (
              push.shard ∙ at,
              ap (λ (x : Row). covers s.hierarchy new.set x.at) placed.1
                  ∙ push.noted_too (record { shard = last_of k.path; at = k.row.at }) growths (sym home ∙ sym at) (subst (λ (x : Row). IsCoordOf s.hierarchy x.at) placed.1 (row-coords s w g i r placed.0)),
            ))
            registry.frontier registry_now.frontier all-pushed
            (subst (λ (x : RegistryValue). Any (λ (spot : Spot). spot.shard ≡ g.home r) x.frontier) registry_there (live-spot s.workers h v.registry.frontier i.lineage.front (g.home r) (i.placing.stands r placed.0)))
      ])
      (λ q. fits-still r placed.0 (i.covering.came r placed.0 (eqb-false (g.home r) (last_of (g.path r)) q)))

  pub own-all : All (λ (k : Ack). FitsNow k.row.no) (own h server)
  own-all = All-weaker (Contains (own h server)) (λ (k : Ack). FitsNow k.row.no)
      (λ k has. own-fits k (Contains-filtered (λ (x : Ack). x.server == server) (acked h) k has) (eqb-true k.server server (IsTrue-filtered (λ (x : Ack). x.server == server) (acked h) k has)))
      (own h server) (All-contains_itself (own h server))

  pub told-all : All (λ (k : Ack). FitsNow k.row.no) (published h)
  told-all = All-weaker (Contains (published h)) (λ (k : Ack). FitsNow k.row.no)
      (λ k has. fits-still k.row.no (acked-placed s w g i k (published-acked h k has)).0 (All-contains (λ (x : Ack). Fits s.hierarchy v.row g.home v.registry.frontier x.row.no) (published h) k i.covering.pushed has))
      (published h) (All-contains_itself (published h))

  -- The listing.

  fits-listed : (k : Ack) → Contains (acked h) k → FitsNow k.row.no → IsTrue (is_covered s.hierarchy h registry_now.frontier k)
  fits-listed k has fits =
      let placed = acked-placed s w g i k has in
      let there = i.placing.acked_rows k has in
      let line = i.placing.line k.row.no placed.0 in
      let comes : IsTrue (comes_from h (last_of k.path) (g.home k.row.no)) = subst (λ (p : List ℕ). IsTrue (comes_from h (last_of p) (g.home k.row.no))) there.1 line.1 in
      let spot = fits.1 in
      let both = fits.4 in
      list_any-from_Any (λ (x : Spot). comes_from h (last_of k.path) x.shard && covers s.hierarchy x.set k.row.at) registry_now.frontier
      (fits.0, spot, fits.2, fits.3, and_from _ _ (ap (comes_from h (last_of k.path)) both.0 ∙ comes) (ap (λ (x : Row). covers s.hierarchy spot.set x.at) (sym placed.1) ∙ both.1))

  pub lists : IsListing (site_in s) g.placed h server pulled
  lists = subst (IsListing (site_in s) g.placed h server) (sym synced.listing) (record {
    places = places;
    boxes = boxes-now;
    own = All-weaker (Contains (own h server)) (λ (k : Ack). IsTrue (is_covered s.hierarchy h registry_now.frontier k))
        (λ k has. fits-listed k (Contains-filtered (λ (x : Ack). x.server == server) (acked h) k has) (All-contains (λ (x : Ack). FitsNow x.row.no) (own h server) k own-all has)) (own h server) (All-contains_itself (own h server));
    published = All-weaker (Contains (published h)) (λ (k : Ack). IsTrue (is_covered s.hierarchy h registry_now.frontier k))
        (λ k has. fits-listed k (published-acked h k has) (All-contains (λ (x : Ack). FitsNow x.row.no) (published h) k told-all has)) (published h) (All-contains_itself (published h));
  })
