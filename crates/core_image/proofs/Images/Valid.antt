-- What servers know is of the core's hierarchy: boxes are describing sets, and growths have coordinates. A row that has passed a gate
-- is the one of its number, and may be counted.
use Rattle.std.proofs.{Common.{◌≡◌, ℕ, ◌<◌, List, true, map, sym, ap, ◌∙◌, subst, All, Contains}, lemmas.List.Elements.{All-map, All-weaker}}
use Rattle.dim_hierarchy.specs.{Row.IsCoordOf, declared.row.Row.Row}
use Rattle.describing_set.specs.{Sets.IsDescSetOf, declared.listing.Spot.Spot}
use Rattle.row_ledger.specs.{Bounds.may, Listings.IsBox, Past.{Ack, acked, begun}}
use Rattle.list_words.proofs.Elements.{Contains-filter}
use Rattle.volap_cell.proofs.Histories.Knowing.{acked-begun}
use Rattle.server_image.specs.{Image.AreGrowths, Spots.AreBoxes, declared.image.Growth.Growth}
use Rattle.volap_cell.specs.{Ghost.Ghost, Imaging.IsGrowth, Invariant.InvWith, Setting.{Setting, site_in}, View.{View, view, row_at, row_or}, World.World}
use Rattle.core_image.proofs.{Images.Widens.begun-there, Rows.{row-coords, may-coords}}
use Rattle.row_ledger.proofs.Ended.{number_of}

module _ (s : Setting) (w : World) (g : Ghost) (i : InvWith s (view s w) g) where
  abbrev v : View
  v = view s w

  -- boxes of rows that may be counted
  are-boxes : (spots : List Spot) → All (λ (spot : Spot). IsBox s.hierarchy (may g.placed v.history) spot.set) spots → AreBoxes s.hierarchy spots
  are-boxes spots boxes = All-weaker (λ (spot : Spot). IsBox s.hierarchy (may g.placed v.history) spot.set) (λ (spot : Spot). IsDescSetOf s.hierarchy spot.set)
      (λ spot box. record {
        hierarchy = i.numbering.setting.hierarchy;
        rows = map (λ (r : Row). r.at) box.rows;
        valid = All-map (IsCoordOf s.hierarchy) (λ (r : Row). r.at) box.rows (All-weaker _ (λ (r : Row). IsCoordOf s.hierarchy r.at) (may-coords s w g i) box.rows box.usable);
        set_of = box.set_of;
      }) spots boxes

  pub image-boxes : (server : ℕ) → server < s.servers → AreBoxes s.hierarchy (v.images server).spots
  image-boxes server within = (let known = i.imaging.image server within in are-boxes (v.images server).spots known.boxes)

  pub registry-boxes : AreBoxes s.hierarchy v.registry.frontier
  registry-boxes = are-boxes v.registry.frontier i.covering.boxes

  pub image-growths : (server : ℕ) → server < s.servers → AreGrowths s.hierarchy (v.images server).growths
  image-growths server within =
      let known = i.imaging.image server within in
      All-weaker (IsGrowth s v.history v.row g.placed) (λ (x : Growth). IsCoordOf s.hierarchy x.at) (λ x is. subst (IsCoordOf s.hierarchy) is.at (row-coords s w g i is.number is.is_placed)) (v.images server).growths known.growths

  -- Rows that have passed a gate.

  pub placed-number : (r : ℕ) → g.placed r ≡ true → (row_at v.history r).no ≡ r
  placed-number r p =
      let b = i.placing.begun r p in
      subst (λ (x : Row). x.no ≡ r) (sym (ap row_or b.1)) (number_of (site_in s) g.placed v.history r b.0 i.telling.right.right.each b.1)

  pub placed-usable : (r : ℕ) → g.placed r ≡ true → Contains (may g.placed v.history) (row_at v.history r)
  placed-usable r p =
      let b = i.placing.begun r p in
      let number = placed-number r p in
      Contains-filter (λ (x : Row). g.placed x.no) (begun v.history) (row_at v.history r)
      (subst (Contains (begun v.history)) (sym (ap row_or b.1)) (begun-there v.history r b.0 b.1)) (ap g.placed number ∙ p)

  -- an acknowledged row is the one of its number, and has passed a gate
  pub acked-placed : (k : Ack) → Contains (acked v.history) k → (g.placed k.row.no ≡ true) × (row_at v.history k.row.no ≡ k.row)
  acked-placed k has = (let there = i.placing.acked_rows k has in (there.0, ap row_or (acked-begun (site_in s) g.placed v.history k i.telling.right.right.each has)))
