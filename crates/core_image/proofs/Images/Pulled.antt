-- A server pulls: what it and the others know then, and where its inserts lead.
use Rattle.std.proofs.{Common.{◌≡◌, ◌≢◌, ℕ, ◌<◌, List, [], ◌∷◌, Bool, true, eqb, IsTrue, Option, Some, None, refl, sym, ap, subst, ◌∙◌, arith, ◌⊎◌, inl, inr, ◌==◌, ◌&&◌, All, Any, Contains, eq-eqb, eqb-true}, lemmas.Bool.{and_from, and_parts, false≢true, eqb-false}, lemmas.List.Elements.{All-contains_itself, All-nil, All-weaker, Contains-append_right}, lemmas.List.Folds.{Any-from_list_any, list_any-from_Any}}
use Rattle.std.specs.{List.{AllZip, cons_option, list_any}, Prelude.{IsSome, option_map}}
use Rattle.dim_hierarchy.specs.{Dimension.Dimension, declared.row.Row.Row}
use Rattle.describing_set.specs.{DescSet.covers, declared.listing.Spot.Spot}
use Rattle.mapping_table.specs.declared.place.Where.{Where}
use Rattle.query_router.specs.{Desk.DeskValue, declared.part.Part.Part, declared.part.PartState.PartState}
use Rattle.query_router.specs.declared.part.PartState.TheVariants as state
use Rattle.row_ledger.specs.{Bounds.{is_listed, known, may, own, published}, Changes.ShardsStay, Listings.{IsBox, places_of}, Past.{Ack, ack_of, acked, insert_at, last_of}, Right.{EachEvent, Site, Stands}, Shards.{Place, comes_from, frontier, is_of, is_path, place}, Workers.is_on, declared.event.Event.Event, declared.event.Event.TheVariants.{Acked, Synced}}
use Rattle.row_ledger.proofs.{Descent.{comes_from-made, comes_from-self, live-apart, live-made}, Older.is_path-older}
use Rattle.list_words.proofs.{Elements.{Contains-filtered, Contains-map, Contains-nil, Contains-first}, Truth.on_bool}
use Rattle.server_image.specs.{Image.{ImageValue, IsSynced}, Registry.RegistryValue}
use Rattle.volap_cell.specs.{Cells.{CellValue, MapCell, where_in}, Errands.RowWay, Ghost.Ghost, Imaging.{Covering, Fits, HasGrown, Imaging, IsCovered, IsGrowth, IsImageOf, IsSpotOf}, Invariant.InvWith, Lineage.{Leading, Lineage}, Placing.{Inserting, IsLead, IsRowPart}, Setting.{Setting, map_cell, site_in}, View.{View, view, row_at}, World.World, declared.command.Command.Command}
use Rattle.volap_cell.proofs.{Cells.Numbers.at-map, OneEvent.Known.{All-inside, AreOlder, covered-grown, fits-grown, must-grown, older-rows, published-acked, unacked-grown}, OneEvent.Older.{Any-weaker, box-older, comes-stays, live-stays}, OneEvent.Synced.{All-known-synced, All-published-synced, fits-covered, image-synced-other, known-synced-other, lineage-synced, listing-own, pull-changes}, Views.Fields.IsNewAt}
use Rattle.core_image.proofs.{Images.Frontiers.{live-spot, spot-live}, Images.Heirs.live-end, Images.Paths.{comes_from-through, path-leads}, Images.Pushed.{boxes-now, fits-still, own-all, own-fits, places, told-all}, Images.Valid.acked-placed}

-- a path has its last shard
pub last-in : (path : List ℕ) → path ≢ [] → Contains path (last_of path)
last-in [] some = absurd (some refl)
last-in (x ∷ []) some = (0, omega arith, refl)
last-in (x ∷ y ∷ path) some = Contains-append_right (x ∷ []) (y ∷ path) (last_of (y ∷ path)) (last-in (y ∷ path) (λ is. cc))

pub path-some : (h : List Event) (server : ℕ) (path : List ℕ) → IsTrue (is_path h server path) → path ≢ []
path-some h server [] is none = false≢true is
path-some h server (x ∷ path) is none = cc

-- what was acknowledged came by a path
acked-path : (site : Site) (usable : ℕ → Bool) (h : List Event) (k : Ack) → EachEvent (Stands site usable) h → Contains (acked h) k → IsTrue (is_path h k.server k.path)
acked-path site usable [] k each has = absurd (Contains-nil k has)
acked-path site usable (Acked of path ∷ past) k each has =
    let a = each.0 in
    let is : option_map (ack_of path) (insert_at past of) ≡ Some (ack_of path a.insert) = ap (option_map (ack_of path)) a.begun in
    elim (Contains-first (ack_of path a.insert) (acked past) k (subst (λ (o : Option Ack). Contains (cons_option o (acked past)) k) is has)) [
      | inl here ↦ subst (λ (x : Ack). IsTrue (is_path (Acked of path ∷ past) x.server x.path)) here (is_path-older (Acked of path) past a.insert.server path a.descends)
      | inr later ↦ is_path-older (Acked of path) past k.server k.path (acked-path site usable past k each.1 later)
    ]
acked-path site usable (e ∷ past) k each has = is_path-older e past k.server k.path (acked-path site usable past k each.1 has)

-- each spot has what it had
all-self : (h : List Dimension) (spots : List Spot) → AllZip (HasGrown h) spots spots
all-self h [] = tt
all-self h (x ∷ xs) = (λ at c is. is, all-self h xs)

module _ (s : Setting) (w : World) (g : Ghost) (i : InvWith s (view s w) g) (server : ℕ) (within : server < s.servers) (image image_now : ImageValue) (registry registry_now : RegistryValue) (pulled : List Spot)
    (image_there : (view s w).images server ≡ image) (registry_there : (view s w).registry ≡ registry) (synced : IsSynced s.hierarchy image image_now registry registry_now pulled)
    (images_now : ℕ → ImageValue) (new : IsNewAt images_now (view s w).images server image image_now) where
  abbrev v : View
  v = view s w

  abbrev h : List Event
  h = v.history

  abbrev e : Event
  e = Synced server pulled

  stay : ShardsStay s.workers e h
  stay = (pull-changes s h server pulled).shards

  older : AreOlder h g.placed
  older = older-rows s h i.placing

  each : EachEvent (Stands (site_in s) g.placed) h
  each = i.telling.right.right.each

  front : places_of registry_now.frontier ≡ frontier s.workers h
  front = places s w g i server within image image_now registry registry_now pulled image_there registry_there synced

  -- Shards.

  pub lineage-now : Lineage s (e ∷ h) v.stock registry_now v.maps v.gates v.phases g.gate
  lineage-now =
      let l = lineage-synced s h server pulled v.stock v.registry v.maps v.gates v.phases g.gate i.lineage in
      record {
        ids = l.ids;
        front = front ∙ sym stay.frontier;
        gate_of = l.gate_of;
        known = l.known;
        live = l.live;
        leads = l.leads;
        split = l.split;
        divided = l.divided;
        moved = l.moved;
        later = l.later;
        made = l.made;
      }

  -- a worker that has a table is there
  worker-there : (worker x : ℕ) (p : Where) → v.maps worker x ≡ Some p → worker < s.workers
  worker-there worker x p is = at (w.cells (map_cell s worker)) refl is
    where
      at : (c : CellValue) → w.cells (map_cell s worker) ≡ c → where_in c x ≡ Some p → worker < s.workers
      at (MapCell t m) there is_ = (let place_ = at-map s w.cells i.numbering.tag (map_cell s worker) t m there in let same = place_.0 in let lt = place_.1 in omega (arith, same, lt))
      at _ there is_ = (let never : ◌≡◌ {A = Option Where} None (Some p) = is_ in absurd (cc))

  spot-leads : (x : Spot) → Contains registry_now.frontier x → (x.worker < s.workers) × IsSome (v.maps x.worker x.shard)
  spot-leads x has =
      let c = subst (λ (ps : List Place). Contains ps (place x.shard x.worker)) front (Contains-map (λ (y : Spot). place y.shard y.worker) registry_now.frontier x has) in
      let on : is_on s.workers h x.shard x.worker ≡ true =
      list_any-from_Any (λ (p : Place). is_of x.shard p && (p.worker == x.worker)) (frontier s.workers h) (c.0, place x.shard x.worker, c.1, c.2, and_from _ _ (eq-eqb x.shard x.shard refl) (eq-eqb x.worker x.worker refl)) in
      let gate = i.lineage.gate_of x.shard x.worker on in
      (worker-there x.worker x.shard _ gate.0, subst (λ (o : Option Where). IsSome o) (sym gate.0) refl)

  pub leading-now : (desks : ℕ → DeskValue) → Leading s v.maps v.images desks → Leading s v.maps images_now desks
  leading-now desks l = record {
    spots = λ x lt. on_bool (eqb x server)
        (λ q. subst (λ (y : ImageValue). All (λ (z : Spot). (z.worker < s.workers) × IsSome (v.maps z.worker z.shard)) y.spots) (sym (ap images_now (eqb-true x server q) ∙ new.is_there))
        (subst (All (λ (z : Spot). (z.worker < s.workers) × IsSome (v.maps z.worker z.shard))) (sym synced.spots)
        (All-weaker (Contains registry_now.frontier) (λ (z : Spot). (z.worker < s.workers) × IsSome (v.maps z.worker z.shard)) spot-leads registry_now.frontier (All-contains_itself registry_now.frontier))))
        (λ q. subst (λ (y : ImageValue). All (λ (z : Spot). (z.worker < s.workers) × IsSome (v.maps z.worker z.shard)) y.spots) (sym (new.elsewhere x (eqb-false x server q))) (l.spots x lt));
    parts = l.parts;
  }

  -- Inserts. Of what stands, a part's shard comes from itself alone.

  lead-now : (x : ℕ) (path : List ℕ) (shard : ℕ) → IsLead h v.images x path shard → IsLead h images_now x path shard
  lead-now x path shard l = record {
    is_path = l.is_path;
    last = l.last;
    listed = on_bool (eqb x server)
        (λ q. subst (λ (y : ImageValue). All (λ (z : Spot). IsTrue (comes_from h z.shard shard) → Contains path z.shard) y.spots) (sym (ap images_now (eqb-true x server q) ∙ new.is_there))
        (subst (All (λ (z : Spot). IsTrue (comes_from h z.shard shard) → Contains path z.shard)) (sym synced.spots)
        (All-weaker (Contains registry_now.frontier) (λ (z : Spot). IsTrue (comes_from h z.shard shard) → Contains path z.shard)
        (λ z has comes.
        let live = spot-live s.workers h registry_now.frontier front z.shard (has.0, z, has.1, has.2, refl) in
        let same : shard ≡ z.shard = live-end (site_in s) g.placed h z.shard shard each live comes in
        subst (Contains path) (l.last ∙ same) (last-in path (path-some h x path l.is_path)))
        registry_now.frontier (All-contains_itself registry_now.frontier))))
        (λ q. subst (λ (y : ImageValue). All (λ (z : Spot). IsTrue (comes_from h z.shard shard) → Contains path z.shard) y.spots) (sym (new.elsewhere x (eqb-false x server q))) l.listed);
  }

  part-now : (ways : ℕ → Option RowWay) (x r : ℕ) (p : Part) (st : PartState) → IsRowPart h v.images ways g.placed g.path x r p st → IsRowPart h images_now ways g.placed g.path x r p st
  part-now ways x r p (state.Waiting wanted) is = (is.0, is.1, lead-now x p.path p.shard is.2)
  part-now ways x r p (state.Placed went) is = (is.0, is.1, is.2, lead-now x went (last_of went) is.3)
  part-now ways x r p state.NoMemory is = is
  part-now ways x r p _ is = tt

  pub inserting-now : (desks : ℕ → DeskValue) (commands : ℕ → Option Command) (ways : ℕ → Option RowWay) → Inserting s h v.images desks commands ways g.placed g.path → Inserting s h images_now desks commands ways g.placed g.path
  inserting-now desks commands ways j = record {
    unrouted = j.unrouted;
    parts = λ x r insert lt op is. All-weaker (λ (p : Part). IsRowPart h v.images ways g.placed g.path x r p p.state) (λ (p : Part). IsRowPart h images_now ways g.placed g.path x r p p.state) (λ p. part-now ways x r p p.state) (desks x).parts (j.parts x r insert lt op is);
    on_way = λ a way is. let o = j.on_way a way is in record { known = o.known; lead = lead-now way.server way.path way.shard o.lead; passed = o.passed; came = o.came };
  }

  -- Images.

  image-now : IsImageOf s (e ∷ h) (row_at (e ∷ h)) g.placed server image_now
  image-now = record {
    places = ap places_of (synced.spots ∙ sym synced.listing ∙ sym (listing-own s h server pulled));
    grown = subst (λ (spots : List Spot). AllZip (HasGrown s.hierarchy) spots image_now.spots) (sym (listing-own s h server pulled))
        (subst (λ (spots : List Spot). AllZip (HasGrown s.hierarchy) spots image_now.spots) (synced.spots ∙ sym synced.listing) (all-self s.hierarchy image_now.spots));
    apart = λ x y a c comes.
        let live_x = spot-live s.workers h registry_now.frontier front x (subst (Any (IsSpotOf x)) synced.spots a) in
        let live_y = spot-live s.workers h registry_now.frontier front y (subst (Any (IsSpotOf y)) synced.spots c) in
        sym (live-apart (site_in s) g.placed h x y each live_x live_y (sym (comes-stays s.workers e h stay x y) ∙ comes));
    whole = λ x live. subst (Any (λ (spot : Spot). IsTrue (comes_from (e ∷ h) spot.shard x))) (sym synced.spots)
        (Any-weaker (IsSpotOf x) (λ (spot : Spot). IsTrue (comes_from (e ∷ h) spot.shard x)) (λ spot is. subst (λ (y : ℕ). IsTrue (comes_from (e ∷ h) y x)) (sym is) (comes_from-self (e ∷ h) x)) registry_now.frontier
        (live-spot s.workers h registry_now.frontier front x (sym (live-stays s.workers e h stay x) ∙ live)));
    boxes = box-older s.hierarchy g.placed e h image_now.spots (subst (All (λ (spot : Spot). IsBox s.hierarchy (may g.placed h) spot.set)) (sym synced.spots)
        (boxes-now s w g i server within image image_now registry registry_now pulled image_there registry_there synced));
    growths = subst (All (IsGrowth s (e ∷ h) (row_at (e ∷ h)) g.placed)) (sym synced.growths) (All-nil (IsGrowth s (e ∷ h) (row_at (e ∷ h)) g.placed));
  }

  pub imaging-now : Imaging s (e ∷ h) (row_at (e ∷ h)) images_now g.placed
  imaging-now = record {
    image = λ x lt. on_bool (eqb x server)
        (λ q. subst (λ (y : ℕ). IsImageOf s (e ∷ h) (row_at (e ∷ h)) g.placed y (images_now y)) (sym (eqb-true x server q)) (subst (IsImageOf s (e ∷ h) (row_at (e ∷ h)) g.placed server) (sym new.is_there) image-now))
        (λ q. let ne = eqb-false x server q in
        subst (IsImageOf s (e ∷ h) (row_at (e ∷ h)) g.placed x) (sym (new.elsewhere x ne)) (image-synced-other s h server pulled g.placed older x (v.images x) ne (i.imaging.image x lt)));
  }

  -- What is covered.

  abbrev FitsThen : ℕ → Type 0
  FitsThen r = Fits s.hierarchy (row_at (e ∷ h)) g.home registry_now.frontier r

  then-fits : (r : ℕ) → g.placed r ≡ true → Fits s.hierarchy v.row g.home registry_now.frontier r → FitsThen r
  then-fits r p fits = fits-grown s e h stay g.placed older g.home registry_now.frontier r p fits

  still : (r : ℕ) → g.placed r ≡ true → Fits s.hierarchy v.row g.home v.registry.frontier r → FitsThen r
  still r p fits = then-fits r p (fits-still s w g i server within image image_now registry registry_now pulled image_there registry_there synced r p fits)

  owned : All (λ (k : Ack). FitsThen k.row.no) (own h server)
  owned = All-inside (λ (k : Ack). Fits s.hierarchy v.row g.home registry_now.frontier k.row.no) (λ (k : Ack). FitsThen k.row.no) (own h server)
      (λ k has. then-fits k.row.no (acked-placed s w g i k (Contains-filtered (λ (x : Ack). x.server == server) (acked h) k has)).0)
      (own-all s w g i server within image image_now registry registry_now pulled image_there registry_there synced)

  told : All (λ (k : Ack). FitsThen k.row.no) (published h)
  told = All-inside (λ (k : Ack). Fits s.hierarchy v.row g.home registry_now.frontier k.row.no) (λ (k : Ack). FitsThen k.row.no) (published h)
      (λ k has. then-fits k.row.no (acked-placed s w g i k (published-acked h k has)).0)
      (told-all s w g i server within image image_now registry registry_now pulled image_there registry_there synced)

  abbrev Covers : ℕ → ℕ → Type 0
  Covers x r = IsCovered s.hierarchy (e ∷ h) (row_at (e ∷ h)) g.home (images_now x).spots r

  -- what fits the server covers
  here-covers : (r : ℕ) → FitsThen r → Covers server r
  here-covers r fits = subst (λ (spots : List Spot). IsCovered s.hierarchy (e ∷ h) (row_at (e ∷ h)) g.home spots r) (sym (ap (λ (y : ImageValue). y.spots) new.is_there ∙ synced.spots))
      (fits-covered s (e ∷ h) (row_at (e ∷ h)) g.home registry_now.frontier r fits)

  -- what the new listing has with a box that covers it, it covers
  listed-covers : (k : Ack) → Contains (acked h) k → IsTrue (is_listed s.hierarchy pulled k) → Covers server k.row.no
  listed-covers k has is =
      let r : ℕ = k.row.no in
      let placed = acked-placed s w g i k has in
      let there = i.placing.acked_rows k has in
      let line = i.placing.line r placed.0 in
      let found = Any-from_list_any (λ (spot : Spot). list_any (λ x. x == spot.shard) k.path && covers s.hierarchy spot.set k.row.at) pulled is in
      let spot = found.1 in
      let both = and_parts (list_any (λ x. x == spot.shard) k.path) (covers s.hierarchy spot.set k.row.at) found.4 in
      let at = Any-from_list_any (λ x. x == spot.shard) k.path both.0 in
      let on : Contains k.path spot.shard = subst (Contains k.path) (eqb-true at.1 spot.shard at.4) (at.0, at.2, at.3) in
      let home-made = live-made (site_in s) g.placed h (g.home r) each (i.placing.stands r placed.0) in
      let comes : IsTrue (comes_from h (last_of k.path) (g.home r)) = subst (λ (p : List ℕ). IsTrue (comes_from h (last_of p) (g.home r))) there.1 line.1 in
      let last-made = comes_from-made (site_in s) g.placed h (last_of k.path) (g.home r) each home-made comes in
      let above = comes_from-through (site_in s) g.placed h spot.shard (last_of k.path) (g.home r) each home-made
      (path-leads (site_in s) g.placed h k.server k.path each last-made (acked-path (site_in s) g.placed h k each has) spot.shard on) comes in
      let covered : IsCovered s.hierarchy h v.row g.home pulled r = (found.0, spot, found.2, found.3, (above, ap (λ (x : Row). covers s.hierarchy spot.set x.at) placed.1 ∙ both.1)) in
      subst (λ (spots : List Spot). IsCovered s.hierarchy (e ∷ h) (row_at (e ∷ h)) g.home spots r) (sym (ap (λ (y : ImageValue). y.spots) new.is_there ∙ synced.spots ∙ sym synced.listing))
      (covered-grown s e h stay g.placed older g.home pulled r placed.0 covered)

  pub covering-now : Covering s (e ∷ h) (row_at (e ∷ h)) registry_now images_now g.placed g.home g.path
  covering-now = record {
    boxes = box-older s.hierarchy g.placed e h registry_now.frontier (boxes-now s w g i server within image image_now registry registry_now pulled image_there registry_there synced);
    came = λ r p off. still r p (i.covering.came r p off);
    pushed = All-published-synced s h server pulled (λ (k : Ack). FitsThen k.row.no) owned told;
    noted = subst (All (λ (k : Ack). FitsThen k.row.no ⊎ Contains (images_now k.server).growths (record { shard = last_of k.path; at = k.row.at }))) (sym (pull-changes s h server pulled).acks.acked)
        (All-inside (λ (k : Ack). Fits s.hierarchy v.row g.home v.registry.frontier k.row.no ⊎ Contains (v.images k.server).growths (record { shard = last_of k.path; at = k.row.at }))
        (λ (k : Ack). FitsThen k.row.no ⊎ Contains (images_now k.server).growths (record { shard = last_of k.path; at = k.row.at })) (acked h)
        (λ k has noted. let placed = acked-placed s w g i k has in
        on_bool (eqb k.server server)
        (λ q. inl (then-fits k.row.no placed.0 (own-fits s w g i server within image image_now registry registry_now pulled image_there registry_there synced k has (eqb-true k.server server q))))
        (λ q. elim noted [
          | inl fits ↦ inl (still k.row.no placed.0 fits)
          | inr growth ↦ inr (subst (λ (y : ImageValue). Contains y.growths (record { shard = last_of k.path; at = k.row.at })) (sym (new.elsewhere k.server (eqb-false k.server server q))) growth)
        ]))
        i.covering.noted);
    must = λ x lt. on_bool (eqb x server)
        (λ q. subst (λ (y : ℕ). All (λ (k : Ack). Covers y k.row.no) (known s.hierarchy (e ∷ h) y)) (sym (eqb-true x server q))
        (All-known-synced s h server pulled (λ (k : Ack). Covers server k.row.no)
        (All-weaker (λ (k : Ack). FitsThen k.row.no) (λ (k : Ack). Covers server k.row.no) (λ k. here-covers k.row.no) (own h server) owned)
        (All-weaker (λ (k : Ack). FitsThen k.row.no) (λ (k : Ack). Covers server k.row.no) (λ k. here-covers k.row.no) (published h) told)
        listed-covers))
        (λ q. let ne = eqb-false x server q in
        subst (λ (y : ImageValue). All (λ (k : Ack). IsCovered s.hierarchy (e ∷ h) (row_at (e ∷ h)) g.home y.spots k.row.no) (known s.hierarchy (e ∷ h) x)) (sym (new.elsewhere x ne))
        (subst (All (λ (k : Ack). IsCovered s.hierarchy (e ∷ h) (row_at (e ∷ h)) g.home (v.images x).spots k.row.no)) (sym (known-synced-other s h server pulled x ne))
        (must-grown s e h stay g.placed older v.registry v.images g.home g.path i.covering x lt)));
    unacked = λ r insert p is none. on_bool (eqb insert.server server)
        (λ q. let same = eqb-true insert.server server q in
        on_bool (eqb (g.home r) (last_of (g.path r)))
        (λ z. inl (subst (λ (y : ImageValue). Any (λ (spot : Spot). Contains (g.path r) spot.shard) y.spots) (sym (ap images_now same ∙ new.is_there))
        (subst (Any (λ (spot : Spot). Contains (g.path r) spot.shard)) (sym synced.spots)
        (Any-weaker (IsSpotOf (g.home r)) (λ (spot : Spot). Contains (g.path r) spot.shard)
        (λ spot at. subst (Contains (g.path r)) (sym (eqb-true (g.home r) (last_of (g.path r)) z) ∙ sym at) (last-in (g.path r) (i.placing.line r p).0)) registry_now.frontier
        (live-spot s.workers h registry_now.frontier front (g.home r) (i.placing.stands r p))))))
        (λ z. inr (subst (λ (y : ℕ). Covers y r) (sym same) (here-covers r (still r p (i.covering.came r p (eqb-false (g.home r) (last_of (g.path r)) z)))))))
        (λ q. let ne = eqb-false insert.server server q in
        subst (λ (y : ImageValue). Any (λ (spot : Spot). Contains (g.path r) spot.shard) y.spots ⊎ IsCovered s.hierarchy (e ∷ h) (row_at (e ∷ h)) g.home y.spots r) (sym (new.elsewhere insert.server ne))
        (unacked-grown s e h stay g.placed older v.registry v.images g.home g.path i.covering r insert p is none));
  }
