-- A row is acknowledged at its server: what the image becomes, and what images keep before the event is told.
use Rattle.std.proofs.{Common.{◌≡◌, ◌≢◌, ℕ, ◌<◌, List, [], ◌∷◌, ◌++◌, map, length, Bool, true, eqb, IsTrue, refl, sym, ap, subst, arith, ◌∙◌, ◌⊎◌, inl, inr, ◌==◌, ◌&&◌, All, Any, Contains, Option, Some, None}, lemmas.Bool.{and_parts, eqb-true, eq-eqb, eqb-false}, lemmas.List.Elements.{All-push, All-weaker, Contains-append_left, Contains-push}, lemmas.List.Folds.{Any-from_list_any, list_any_at}}
use Rattle.std.specs.{List.{AllZip, cons_option, list_any}, Prelude.{IsSome, filter_map, option_and_then}}
use Rattle.dim_hierarchy.specs.{Dimension.IsHierarchy, Row.IsCoordOf, declared.row.Row.Row}
use Rattle.describing_set.specs.{DescSet.covers, declared.listing.Spot.Spot}
use Rattle.mapping_table.specs.declared.place.Where.{Where}
use Rattle.query_router.specs.{Desk.DeskValue, declared.part.Part.Part, declared.part.PartState.PartState}
use Rattle.query_router.specs.declared.part.PartState.TheVariants as state
use Rattle.row_ledger.specs.{Bounds.{is_listed, known, listing_of, may}, Kept.KeepsRight, Listings.IsBox, Past.{Ack, Insert, ack_of, acked, begun, event_at, insert_at, insert_in, last_of}, Right.{EachEvent, Stands}, Shards.{comes_from, ids_made, is_live, is_path}, declared.event.Event.Event}
use Rattle.row_ledger.proofs.{Descent.{comes_from-made, live-made}, Older.begun-older}
use Rattle.list_words.proofs.{Elements.Contains-filter, Truth.on_bool}
use Rattle.server_image.specs.{Image.{ImageValue, IsAcked, last_shard}, Registry.RegistryValue, Spots.{along, is_among}, declared.image.Growth.Growth}
use Rattle.volap_cell.specs.{Errands.RowWay, Imaging.{Covering, Fits, HasGrown, Imaging, IsCovered, IsGrowth, IsImageOf, IsSpotOf}, Lineage.Leading, Placing.{Inserting, IsLead, IsRowPart}, Setting.{Setting, site_in}, View.row_at, declared.command.Command.Command}
use Rattle.volap_cell.proofs.{OneEvent.Known.{AreOlder, All-inside, known-acked}, Views.Fields.IsNewAt}
use Rattle.core_image.proofs.{Images.Boxes.{Any-zip, Any-back, All-zip, AllZip-through, zip-shards, same-places, HasWidened, all-widened}, Images.Paths.{comes_from-through, path-leads, last-same}}

-- an insert that began is among the rows that did
pub begun-there : (h : List Event) (p : ℕ) (i : Insert) → insert_at h p ≡ Some i → Contains (begun h) i.row
begun-there [] p i is = (let never : ◌≡◌ {A = Option Insert} None (Some i) = is in absurd (cc))
begun-there (e ∷ past) p i is = on_bool (eqb p (length past))
    (λ here.
    let at : event_at (e ∷ past) p ≡ Some e = rw here refl in
    let new : insert_in e ≡ Some i = sym (ap (λ (o : Option Event). option_and_then insert_in o) at) ∙ is in
    subst (λ (o : Option Insert). Contains (map (λ (j : Insert). j.row) (cons_option o (filter_map insert_in past))) i.row) (sym new) (0, omega arith, refl))
    (λ off.
    let at : event_at (e ∷ past) p ≡ event_at past p = rw off refl in
    begun-older e past i.row (begun-there past p i (sym (ap (λ (o : Option Event). option_and_then insert_in o) at) ∙ is)))

-- What is known of the row: it has passed a gate by this way, and is now in a shard that stands.
pub record IsPlacedRow (s : Setting) (h : List Event) (placed : ℕ → Bool) (home : ℕ → ℕ) (path : ℕ → List ℕ) (server : ℕ) (way : List ℕ) (row : Row) (of : ℕ) : Type 0 where
  pub tall : IsHierarchy s.hierarchy
  pub right : KeepsRight (site_in s) placed h
  pub begun : insert_at h of ≡ Some (record { server = server; row = row })
  pub number : row.no ≡ of
  pub is_placed : placed of ≡ true
  pub came : path of ≡ way
  pub is_path : IsTrue (is_path h server way)
  pub line : IsTrue (comes_from h (last_of way) (home of))
  pub stands : is_live s.workers h (home of) ≡ true
  pub older : AreOlder h placed
  pub coords : (r : ℕ) → placed r ≡ true → IsCoordOf s.hierarchy (row_at h r).at
  pub valid : (r : Row) → Contains (may placed h) r → IsCoordOf s.hierarchy r.at

module _ (s : Setting) (h : List Event) (placed : ℕ → Bool) (home : ℕ → ℕ) (path : ℕ → List ℕ) (server : ℕ) (way : List ℕ) (row : Row) (of : ℕ) (k : IsPlacedRow s h placed home path server way row of)
    (image image_now : ImageValue) (images images_now : ℕ → ImageValue) (new : IsNewAt images_now images server image image_now) (grows : IsAcked s.hierarchy way row.at image image_now) where
  each : EachEvent (Stands (site_in s) placed) h
  each = k.right.right.each

  home-made : home of < ids_made s.workers h
  home-made = live-made (site_in s) placed h (home of) each k.stands

  last-made : last_of way < ids_made s.workers h
  last-made = comes_from-made (site_in s) placed h (last_of way) (home of) each home-made k.line

  -- the row comes from each shard of its way
  above : (x : ℕ) → Contains way x → IsTrue (comes_from h x (home of))
  above x on = comes_from-through (site_in s) placed h x (last_of way) (home of) each home-made (path-leads (site_in s) placed h server way each last-made k.is_path x on) k.line

  row-is : row_at h of ≡ row
  row-is = rw k.begun refl

  usable : Contains (may placed h) row
  usable = Contains-filter (λ (r : Row). placed r.no) (begun h) row (begun-there h of (record { server = server; row = row }) k.begun) (ap placed k.number ∙ k.is_placed)

  at-row : IsCoordOf s.hierarchy row.at
  at-row = k.valid row usable

  among : (x : ℕ) → Contains way x → IsTrue (is_among way x)
  among x has = list_any_at (λ (y : ℕ). y == x) way has.0 x has.1 (eq-eqb _ x has.2)

  from-among : (x : ℕ) → IsTrue (is_among way x) → Contains way x
  from-among x is = (let found = Any-from_list_any (λ (y : ℕ). y == x) way is in subst (Contains way) (eqb-true found.1 x found.4) (found.0, found.2, found.3))

  module _ (imaging : Imaging s h (row_at h) images placed) (within : server < s.servers) where
    was : IsImageOf s h (row_at h) placed server image
    was = subst (IsImageOf s h (row_at h) placed server) new.was_there (imaging.image server within)

    abbrev Wide : Spot → Spot → Type 0
    Wide = HasWidened s.hierarchy (may placed h) way row.at

    wide : AllZip Wide image.spots image_now.spots
    wide = all-widened s.hierarchy (may placed h) way row k.tall k.valid usable image.spots image_now.spots was.boxes grows.boxes

    -- an image's spots, one by one: each stays, or has grown
    abbrev IsAsBefore : Spot → Spot → Type 0
    IsAsBefore old now = (now.shard ≡ old.shard) × (now.worker ≡ old.worker) × HasGrown s.hierarchy old now

    same : (spots : List Spot) → AllZip IsAsBefore spots spots
    same [] = tt
    same (x ∷ xs) = ((refl, refl, λ at c is. is), same xs)

    as-before : (spots spots_now : List Spot) → AllZip Wide spots spots_now → AllZip IsAsBefore spots spots_now
    as-before [] [] zip = tt
    as-before [] (y ∷ ys) zip = absurd zip
    as-before (x ∷ xs) [] zip = absurd zip
    as-before (x ∷ xs) (y ∷ ys) zip = (let w = zip.0 in (w.shard, w.worker, w.wider), as-before xs ys zip.1)

    spots-now : (x : ℕ) → AllZip IsAsBefore (images x).spots (images_now x).spots
    spots-now x = on_bool (eqb x server)
        (λ q. let e = eqb-true x server q in
        subst (λ (y : ℕ). AllZip IsAsBefore (images y).spots (images_now y).spots) (sym e)
        (subst (λ (i : ImageValue). AllZip IsAsBefore i.spots (images_now server).spots) (sym new.was_there)
        (subst (λ (i : ImageValue). AllZip IsAsBefore image.spots i.spots) (sym new.is_there) (as-before image.spots image_now.spots wide))))
        (λ q. subst (λ (i : ImageValue). AllZip IsAsBefore (images x).spots i.spots) (sym (new.elsewhere x (eqb-false x server q))) (same (images x).spots))

    -- Images.

    abbrev growth : Growth
    growth = record { shard = last_shard way; at = row.at }

    image-now : IsImageOf s h (row_at h) placed server image_now
    image-now = record {
      places = same-places s.hierarchy (along way row.at) image.spots image_now.spots grows.boxes ∙ was.places;
      grown = AllZip-through (HasGrown s.hierarchy) Wide (HasGrown s.hierarchy) (λ x y z a b at c is. b.wider at c (a at c is)) (listing_of h server) image.spots image_now.spots was.grown wide;
      apart = λ x y a b comes. was.apart x y
          (Any-back Wide (IsSpotOf x) (IsSpotOf x) (λ old now w is. sym w.shard ∙ is) image.spots image_now.spots wide a)
          (Any-back Wide (IsSpotOf y) (IsSpotOf y) (λ old now w is. sym w.shard ∙ is) image.spots image_now.spots wide b) comes;
      whole = λ x live. Any-zip Wide (λ (spot : Spot). IsTrue (comes_from h spot.shard x)) (λ (spot : Spot). IsTrue (comes_from h spot.shard x))
          (λ old now w is. subst (λ (z : ℕ). IsTrue (comes_from h z x)) (sym w.shard) is) image.spots image_now.spots wide (was.whole x live);
      boxes = All-zip Wide (λ (spot : Spot). IsBox s.hierarchy (may placed h) spot.set) (λ (spot : Spot). IsBox s.hierarchy (may placed h) spot.set) (λ old now w box. w.box) image.spots image_now.spots wide was.boxes;
      growths = subst (All (IsGrowth s h (row_at h) placed)) (sym grows.noted)
          (All-push (IsGrowth s h (row_at h) placed) image.growths growth was.growths (record {
            made = subst (λ (z : ℕ). z < ids_made s.workers h) (sym (last-same way)) last-made;
            number = of;
            is_placed = k.is_placed;
            at = ap (λ (r : Row). r.at) row-is;
          }));
    }

    pub imaging-now : Imaging s h (row_at h) images_now placed
    imaging-now = record {
      image = λ x lt. on_bool (eqb x server)
          (λ q. subst (λ (y : ℕ). IsImageOf s h (row_at h) placed y (images_now y)) (sym (eqb-true x server q)) (subst (IsImageOf s h (row_at h) placed server) (sym new.is_there) image-now))
          (λ q. subst (IsImageOf s h (row_at h) placed x) (sym (new.elsewhere x (eqb-false x server q))) (imaging.image x lt));
    }

    -- Ways.

    pub leading-now : (maps : ℕ → ℕ → Option Where) (desks : ℕ → DeskValue) → Leading s maps images desks → Leading s maps images_now desks
    leading-now maps desks i = record {
      spots = λ x lt. All-zip IsAsBefore _ (λ (spot : Spot). (spot.worker < s.workers) × IsSome (maps spot.worker spot.shard))
          (λ old now same is. subst (λ (z : ℕ). (z < s.workers) × IsSome (maps z now.shard)) (sym same.1)
          (subst (λ (z : ℕ). (old.worker < s.workers) × IsSome (maps old.worker z)) (sym same.0) is)) (images x).spots (images_now x).spots (spots-now x) (i.spots x lt);
      parts = i.parts;
    }

    lead-now : (x : ℕ) (p : List ℕ) (shard : ℕ) → IsLead h images x p shard → IsLead h images_now x p shard
    lead-now x p shard i = record {
      is_path = i.is_path;
      last = i.last;
      listed = All-zip IsAsBefore (λ (spot : Spot). IsTrue (comes_from h spot.shard shard) → Contains p spot.shard) (λ (spot : Spot). IsTrue (comes_from h spot.shard shard) → Contains p spot.shard)
          (λ old now same on. subst (λ (z : ℕ). IsTrue (comes_from h z shard) → Contains p z) (sym same.0) on) (images x).spots (images_now x).spots (spots-now x) i.listed;
    }

    part-now : (ways : ℕ → Option RowWay) (x r : ℕ) (p : Part) (st : PartState) → IsRowPart h images ways placed path x r p st → IsRowPart h images_now ways placed path x r p st
    part-now ways x r p (state.Waiting wanted) i = (i.0, i.1, lead-now x p.path p.shard i.2)
    part-now ways x r p (state.Placed went) i = (i.0, i.1, i.2, lead-now x went (last_of went) i.3)
    part-now ways x r p state.NoMemory i = i
    part-now ways x r p _ i = tt

    pub inserting-now : (desks : ℕ → DeskValue) (commands : ℕ → Option Command) (ways : ℕ → Option RowWay) → Inserting s h images desks commands ways placed path → Inserting s h images_now desks commands ways placed path
    inserting-now desks commands ways i = record {
      unrouted = i.unrouted;
      parts = λ x r insert lt op is. All-weaker (λ (p : Part). IsRowPart h images ways placed path x r p p.state) (λ (p : Part). IsRowPart h images_now ways placed path x r p p.state) (λ p. part-now ways x r p p.state) (desks x).parts (i.parts x r insert lt op is);
      on_way = λ a w is. let o = i.on_way a w is in record { known = o.known; lead = lead-now w.server w.path w.shard o.lead; passed = o.passed; came = o.came };
    }

    -- What is covered.

    covered-now : (x r : ℕ) → IsCoordOf s.hierarchy (row_at h r).at → IsCovered s.hierarchy h (row_at h) home (images x).spots r → IsCovered s.hierarchy h (row_at h) home (images_now x).spots r
    covered-now x r c i =
        let Covers : Spot → Type 0 = λ spot. IsTrue (comes_from h spot.shard (home r)) × (covers s.hierarchy spot.set (row_at h r).at ≡ true) in
        Any-zip IsAsBefore Covers Covers (λ old now same is. (subst (λ (z : ℕ). IsTrue (comes_from h z (home r))) (sym same.0) is.0, same.2 (row_at h r).at c is.1)) (images x).spots (images_now x).spots (spots-now x) i

    abbrev IsNoted : (ℕ → ImageValue) → RegistryValue → Ack → Type 0
    IsNoted imgs registry a = Fits s.hierarchy (row_at h) home registry.frontier a.row.no ⊎ Contains (imgs a.server).growths (record { shard = last_of a.path; at = a.row.at })

    growths-stay : (x : ℕ) (g : Growth) → Contains (images x).growths g → Contains (images_now x).growths g
    growths-stay x g has = on_bool (eqb x server)
        (λ q. let e = eqb-true x server q in
        subst (λ (i : ImageValue). Contains i.growths g) (sym (ap images_now e ∙ new.is_there)) (subst (λ (gs : List Growth). Contains gs g) (sym grows.noted)
        (Contains-append_left image.growths (growth ∷ []) g (subst (λ (i : ImageValue). Contains i.growths g) (ap images e ∙ new.was_there) has))))
        (λ q. subst (λ (i : ImageValue). Contains i.growths g) (sym (new.elsewhere x (eqb-false x server q))) has)

    pub covering-now : (registry : RegistryValue) → Covering s h (row_at h) registry images placed home path → Covering s h (row_at h) registry images_now placed home path
    covering-now registry i = record {
      boxes = i.boxes;
      came = i.came;
      pushed = i.pushed;
      noted = All-weaker (IsNoted images registry) (IsNoted images_now registry) (λ a noted. elim noted [ inl fits ↦ inl fits | inr has ↦ inr (growths-stay a.server _ has) ]) (acked h) i.noted;
      must = λ x lt. All-inside (λ (a : Ack). IsCovered s.hierarchy h (row_at h) home (images x).spots a.row.no) (λ (a : Ack). IsCovered s.hierarchy h (row_at h) home (images_now x).spots a.row.no) (known s.hierarchy h x)
          (λ a has. covered-now x a.row.no (k.coords a.row.no (k.older.acked_rows a (known-acked s.hierarchy h x a has)))) (i.must x lt);
      unacked = λ r insert p is none. elim (i.unacked r insert p is none) [
        | inl lists ↦ inl (Any-zip IsAsBefore (λ (spot : Spot). Contains (path r) spot.shard) (λ (spot : Spot). Contains (path r) spot.shard)
            (λ old now same on. subst (Contains (path r)) (sym same.0) on) (images insert.server).spots (images_now insert.server).spots (spots-now insert.server) lists)
        | inr covered ↦ inr (covered-now insert.server r (k.coords r p) covered)
      ];
    }

    -- The new row.

    pub noted-now : Contains (images_now server).growths (record { shard = last_of way; at = row.at })
    noted-now = subst (λ (i : ImageValue). Contains i.growths (record { shard = last_of way; at = row.at })) (sym new.is_there)
        (subst (λ (gs : List Growth). Contains gs (record { shard = last_of way; at = row.at })) (sym grows.noted)
        (subst (λ (z : ℕ). Contains (image.growths ++ growth ∷ []) (record { shard = z; at = row.at })) (last-same way) (Contains-push image.growths growth)))

    -- its server's image covers it: by a shard of its way, whose box has grown by it, or as before
    own-now : (registry : RegistryValue) → Covering s h (row_at h) registry images placed home path → ((a : Ack) → Contains (acked h) a → a.row.no ≢ of) → IsCovered s.hierarchy h (row_at h) home (images_now server).spots of
    own-now registry i none =
        elim (i.unacked of (record { server = server; row = row }) k.is_placed k.begun none) [
          | inl lists ↦ subst (λ (j : ImageValue). IsCovered s.hierarchy h (row_at h) home j.spots of) (sym new.is_there)
              (Any-zip Wide (λ (spot : Spot). Contains (path of) spot.shard) (λ (spot : Spot). IsTrue (comes_from h spot.shard (home of)) × (covers s.hierarchy spot.set (row_at h of).at ≡ true))
              (λ old now w on.
              let on_way : Contains way old.shard = subst (λ (p : List ℕ). Contains p old.shard) k.came on in
              (subst (λ (z : ℕ). IsTrue (comes_from h z (home of))) (sym w.shard) (above old.shard on_way), subst (λ (r : Row). covers s.hierarchy now.set r.at ≡ true) (sym row-is) (w.on_path (among old.shard on_way))))
              image.spots image_now.spots wide (subst (λ (j : ImageValue). Any (λ (spot : Spot). Contains (path of) spot.shard) j.spots) new.was_there lists))
          | inr covered ↦ covered-now server of (k.coords of k.is_placed) covered
        ]

    -- and so does that of each server that listed a shard of its way with a box that covered it
    listed-now : (x : ℕ) → x < s.servers → IsTrue (is_listed s.hierarchy (listing_of h x) (ack_of way (record { server = server; row = row }))) → IsCovered s.hierarchy h (row_at h) home (images_now x).spots of
    listed-now x lt is =
        let i = imaging-now.image x lt in
        let found = Any-from_list_any (λ (spot : Spot). list_any (λ (y : ℕ). y == spot.shard) way && covers s.hierarchy spot.set row.at) (listing_of h x) is in
        Any-zip (λ (old now : Spot). (now.shard ≡ old.shard) × HasGrown s.hierarchy old now)
        (λ (spot : Spot). (list_any (λ (y : ℕ). y == spot.shard) way && covers s.hierarchy spot.set row.at) ≡ true)
        (λ (spot : Spot). IsTrue (comes_from h spot.shard (home of)) × (covers s.hierarchy spot.set (row_at h of).at ≡ true))
        (λ old now same test.
        let parts = and_parts (is_among way old.shard) (covers s.hierarchy old.set row.at) test in (
          subst (λ (z : ℕ). IsTrue (comes_from h z (home of))) (sym same.0) (above old.shard (from-among old.shard parts.0)),
          subst (λ (r : Row). covers s.hierarchy now.set r.at ≡ true) (sym row-is) (same.1 row.at at-row parts.1),
        ))
        (listing_of h x) (images_now x).spots (zip-shards (HasGrown s.hierarchy) (listing_of h x) (images_now x).spots i.places i.grown) found

    pub row-covered : (registry : RegistryValue) → Covering s h (row_at h) registry images placed home path → ((a : Ack) → Contains (acked h) a → a.row.no ≢ of)
        → (x : ℕ) → x < s.servers → (server ≡ x) ⊎ IsTrue (is_listed s.hierarchy (listing_of h x) (ack_of way (record { server = server; row = row }))) → IsCovered s.hierarchy h (row_at h) home (images_now x).spots of
    row-covered registry i none x lt (inl is) = subst (λ (y : ℕ). IsCovered s.hierarchy h (row_at h) home (images_now y).spots of) is (own-now registry i none)
    row-covered registry i none x lt (inr is) = listed-now x lt is
