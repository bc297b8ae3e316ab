-- The rows of a shard go to other shards, or to another worker: among shards that were made before, nothing comes from others than
-- before, and no row leaves the line of such a shard or comes to it. What that leaves of desks, inserts, queries, images and boxes,
-- where each part of a query is of a shard that was made.
use Rattle.std.proofs.{Common.{◌≡◌, ◌≢◌, ℕ, List, [], ◌∷◌, Bool, true, false, Option, Some, None, refl, sym, ap, ◌∙◌, subst, ◌⊎◌, inl, inr, Contains, ◌==◌, get_or, le_of_lt, ◌<◌, All}, lemmas.List.Elements.{All-contains, All-head, All-tail, All-weaker}}
use Rattle.std.specs.{List.{AllZip, list_any}, Prelude.IsTrue}
use Rattle.dim_hierarchy.specs.declared.row.Row.{Row}
use Rattle.describing_set.specs.{DescSet.covers, declared.listing.Spot.Spot}
use Rattle.dc_node.specs.declared.block.Block.{Block}
use Rattle.query_router.specs.{Desk.is_refused, declared.part.Part.Part, declared.part.PartState.PartState, declared.part.Want.Want}
use Rattle.query_router.specs.declared.part.PartState.TheVariants as state
use Rattle.query_router.specs.declared.part.Want.TheVariants as want_is
use Rattle.row_ledger.specs.{Bounds.{known, listing_of, may, must, published}, Changes.{AcksStay, KnowledgeStays, PullsStay}, Listings.{IsBox, places_of}, Past.{Ack, Query, acked, insert_at, insert_in, last_of, query_at, query_in}, Shards.{comes_from, ids_made, is_live, is_of}, declared.event.Event.Event}
use Rattle.row_ledger.proofs.{Older.is_path-older, Positions.before-older}
use Rattle.server_image.specs.Registry.{RegistryValue}
use Rattle.core_tree.specs.shard_store.specs.declared.gate.Gate.{Gate}
use Rattle.core_tree.specs.tree_shape.specs.{Queries.{IsUnfinished, fits}, Shape.{Shape, nodes}}
use Rattle.core_tree.specs.volap_cell.specs.{Desking.{AreLinesApart, AreUnrelated, Desking, IsQueryPart, IsWantOf}, Errands.ReadPart, Ghost.Ghost, Growing.{IsUnder, table_of}, Imaging.{Covering, Fits, HasGrown, Imaging, IsCovered, IsGrowth}, Invariant.InvWith, Placing.{Inserting, IsLead, IsRowPart}, Querying.{HoldsOr, IsCounted, IsEndOfPart, IsInTreeOf, IsWalk, Querying, must_hold}, Setting.{Setting, site_in}, Stocking.cells_at, Values.ReadingValue, View.{View, row_at, view}, World.World}
use Rattle.core_tree.specs.volap_cell.proofs.{Desks.Facts.with-parts, Histories.Departures.older-made, OneEvent.Known.{All-inside, known-acked, published-acked}, OneEvent.Older.{Any-weaker, box-older, insert-kept, insert-same, query-same, query-within, rows-same}, OneEvent.Reads.readers-take}
use Rattle.core_image.proofs.{Images.Frontiers.{listed-was, place-there, spot-there}, Images.MadePaths.{listed-made, path-made}}

-- the event that tells of it, and the shards of the rows behind it
pub record KeepsLines (s : Setting) (v : View) (g : Ghost) (home : ℕ → ℕ) (e : Event) : Type 0 where
  pub no_insert : insert_in e ≡ None
  pub no_query : query_in e ≡ None
  pub acks : AcksStay e v.history
  pub pulls : PullsStay e v.history
  pub knowledge : KnowledgeStays s.hierarchy e v.history
  pub comes : (x y : ℕ) → y < ids_made s.workers v.history → comes_from (e ∷ v.history) x y ≡ comes_from v.history x y
  pub under : (x q : ℕ) → IsUnder v.history g.placed g.home x q → IsUnder (e ∷ v.history) g.placed home x q
  pub under_was : (x q : ℕ) → x < ids_made s.workers v.history → IsUnder (e ∷ v.history) g.placed home x q → IsUnder v.history g.placed g.home x q
  -- a shard that stands comes from one that stood
  pub from : (x : ℕ) → is_live s.workers (e ∷ v.history) x ≡ true → (y : ℕ) × (is_live s.workers v.history y ≡ true) × ((z : ℕ) → comes_from v.history z y ≡ true → comes_from (e ∷ v.history) z x ≡ true)

-- the registry's boxes behind it
pub record KeepsBoxes (s : Setting) (v : View) (g : Ghost) (home : ℕ → ℕ) (registry : RegistryValue) : Type 0 where
  pub boxes : All (λ (z : Spot). IsBox s.hierarchy (may g.placed v.history) z.set) registry.frontier
  pub fits : (q : ℕ) → g.placed q ≡ true → Fits s.hierarchy v.row g.home v.registry.frontier q → Fits s.hierarchy v.row home registry.frontier q
  pub came : (q : ℕ) → g.placed q ≡ true → home q ≢ last_of (g.path q) → Fits s.hierarchy v.row home registry.frontier q

module _ (s : Setting) (w : World) (g : Ghost) (i : InvWith s (view s w) g) (home : ℕ → ℕ) (e : Event) (m : KeepsLines s (view s w) g home e) where
  abbrev v : View
  v = view s w

  abbrev h : List Event
  h = v.history

  pub rows : row_at (e ∷ h) ≡ v.row
  rows = rows-same e h m.no_insert

  insert-was : (b : ℕ) → insert_at h b ≡ insert_at (e ∷ h) b
  insert-was b = sym (insert-same e h m.no_insert b)

  query-was : (b : ℕ) → query_at h b ≡ query_at (e ∷ h) b
  query-was b = sym (query-same e h m.no_query b)

  -- Desks.

  parts-made : (server b : ℕ) (q : Query) → server < s.servers → (v.desks server).op ≡ Some b → query_at h b ≡ Some q → All (λ (p : Part). p.shard < ids_made s.workers h) (v.desks server).parts
  parts-made server b q within op is = All-weaker (IsQueryPart s h) (λ (p : Part). p.shard < ids_made s.workers h) (λ p both. both.1) (v.desks server).parts (i.desking.query server b q within op is).2

  -- and so was the shard that a reading is of
  read-made : (a b : ℕ) (q : Query) (p : ReadPart) → v.reads a ≡ Some p → (v.desks p.server).op ≡ Some b → query_at h b ≡ Some q → (p.server < s.servers) × (p.shard < ids_made s.workers h)
  read-made a b q p has op is =
      let t = readers-take s w a p has in
      let at = i.desking.at_parts a t.0 t.1 in
      let within : p.server < s.servers = subst (λ (x : ℕ). x < s.servers) t.2 at.within in
      let part : Part = at.part.1 in
      let stands : Contains (v.desks t.0.server).parts part = (at.part.0, at.part.2, at.part.3) in
      let stands_there : Contains (v.desks p.server).parts part = subst (λ (x : ℕ). Contains (v.desks x).parts part) t.2 stands in
      let made = All-contains (λ (x : Part). x.shard < ids_made s.workers h) (v.desks p.server).parts part (parts-made p.server b q within op is) stands_there in
      (within, subst (λ (x : ℕ). x < ids_made s.workers h) ((with-parts t.0.shard t.0.worker part at.part.4).0 ∙ t.3) made)

  query-parts-on : (parts : List Part) → All (IsQueryPart s h) parts → All (IsQueryPart s (e ∷ h)) parts
  query-parts-on parts all = All-weaker (IsQueryPart s h) (IsQueryPart s (e ∷ h)) (λ p both. (both.0, older-made s.workers e h p.shard both.1)) parts all

  lines : (parts : List Part) → All (λ (p : Part). p.shard < ids_made s.workers h) parts → AreLinesApart h parts → AreLinesApart (e ∷ h) parts
  lines [] all a = tt
  lines (p ∷ parts) all a =
      let first = All-head (λ (z : Part). z.shard < ids_made s.workers h) p parts all in
      let more = All-tail (λ (z : Part). z.shard < ids_made s.workers h) p parts all in
      (apart p first parts more a.0, lines parts more a.1)
    where
      apart : (p : Part) → p.shard < ids_made s.workers h → (parts : List Part) → All (λ (z : Part). z.shard < ids_made s.workers h) parts → All (AreUnrelated h p) parts → All (AreUnrelated (e ∷ h) p) parts
      apart p first parts all a = λ k z lt. let x = get_or parts k z in let o = a k z lt in (m.comes p.shard x.shard (all k z lt) ∙ o.0, m.comes x.shard p.shard first ∙ o.1)

  pub desking-kept : Desking s (e ∷ h) v.desks v.roles v.commands v.taken
  desking-kept =
      let k = i.desking in record {
        empty = k.empty;
        whose = k.whose;
        on_desk = k.on_desk;
        insert = λ server b insert within op is. k.insert server b insert within op (insert-was b ∙ is);
        query = λ server b q within op is. let was = query-was b ∙ is in let t = k.query server b q within op was in (t.0, lines (v.desks server).parts (parts-made server b q within op was) t.1, query-parts-on (v.desks server).parts t.2);
        takers = k.takers;
        at_parts = λ a t is. let o = k.at_parts a t is in record { within = o.within; of = o.of; op = o.op; wants = wanted o.of t.want o.wants; part = o.part };
        one = k.one;
      }
    where
      wanted : (b : ℕ) (want : Want) → IsWantOf h b want → IsWantOf (e ∷ h) b want
      wanted b (want_is.Row row) o = (o.0, insert-same e h m.no_insert b ∙ o.1, o.2)
      wanted b (want_is.Filter f) o = (o.0, query-same e h m.no_query b ∙ o.1, o.2)

  -- Inserts.

  lead : (server : ℕ) (path : List ℕ) (x : ℕ) → IsLead h v.images server path x → IsLead (e ∷ h) v.images server path x
  lead server path x k =
      let lt : x < ids_made s.workers h = subst (λ (z : ℕ). z < ids_made s.workers h) k.last (path-made (site_in s) g.placed h i.telling.right.right.opening i.telling.right.right.each server path k.is_path) in
      record {
        is_path = is_path-older e h server path k.is_path;
        last = k.last;
        listed = All-weaker (λ (z : Spot). IsTrue (comes_from h z.shard x) → Contains path z.shard) (λ (z : Spot). IsTrue (comes_from (e ∷ h) z.shard x) → Contains path z.shard)
            (λ z f is. f (sym (m.comes z.shard x lt) ∙ is)) (v.images server).spots k.listed;
      }

  row-part : (server q : ℕ) (p : Part) (st : PartState) → IsRowPart h v.images v.ways g.placed g.path server q p st → IsRowPart (e ∷ h) v.images v.ways g.placed g.path server q p st
  row-part server q p (state.Waiting wanted) o = (o.0, o.1, lead server p.path p.shard o.2)
  row-part server q p (state.Placed way) o = (o.0, o.1, o.2, lead server way (last_of way) o.3)
  row-part server q p state.NoMemory o = o
  row-part server q p state.Taken o = o
  row-part server q p (state.Done total) o = o

  pub inserting-kept : Inserting s (e ∷ h) v.images v.desks v.commands v.ways g.placed g.path
  inserting-kept =
      let k = i.inserting in record {
        unrouted = k.unrouted;
        parts = λ server q insert within op is.
            All-weaker (λ (p : Part). IsRowPart h v.images v.ways g.placed g.path server q p p.state) (λ (p : Part). IsRowPart (e ∷ h) v.images v.ways g.placed g.path server q p p.state)
            (λ p. row-part server q p p.state) (v.desks server).parts (k.parts server q insert within op (insert-was q ∙ is));
        on_way = λ a way is. let o = k.on_way a way is in record {
          known = let z = o.known in (z.0, insert-kept e h way.row.no z.0 z.1, z.2, z.3);
          lead = lead way.server way.path way.shard o.lead;
          passed = o.passed;
          came = o.came;
        };
      }

  -- Queries. What a query must hold was so when it began.

  must-same : (b : ℕ) (q : Query) → query_at (e ∷ h) b ≡ Some q → must_hold s.hierarchy (e ∷ h) b q ≡ must_hold s.hierarchy h b q
  must-same b q is =
      let lt = query-within h b q (query-was b ∙ is) in
      let told : List Event → ℕ → Bool = λ past k. list_any (λ (x : Row). x.no == k) (must s.hierarchy past q.server) in
      ap told (before-older e h b (le_of_lt lt))

  holds-on : (b : ℕ) (q : Query) → query_at (e ∷ h) b ≡ Some q → (x : ℕ) → x < ids_made s.workers h → (counted : List ℕ) (Else Else2 : ℕ → Type 0) → ((k : ℕ) → Else k → Else2 k)
      → HoldsOr s h v.row g.placed g.home b q x counted Else → HoldsOr s (e ∷ h) v.row g.placed home b q x counted Else2
  holds-on b q is x lt counted Else Else2 f o = λ k held fit under. elim (o k (sym (ap (λ (z : ℕ → Bool). z k) (must-same b q is)) ∙ held) fit (m.under_was x k lt under)) [ inl one ↦ inl one | inr other ↦ inr (f k other) ]

  end-on : (b : ℕ) (q : Query) → query_at (e ∷ h) b ≡ Some q → (x : ℕ) → x < ids_made s.workers h → (counted : List ℕ) (st : PartState) → IsEndOfPart s h v.row g.placed g.home b q x counted st → IsEndOfPart s (e ∷ h) v.row g.placed home b q x counted st
  end-on b q is x lt counted (state.Waiting wanted) o = o
  end-on b q is x lt counted (state.Done total) o = (o.0, holds-on b q is x lt counted (λ k. ⊥) (λ k. ⊥) (λ k no. no) o.1)
  end-on b q is x lt counted (state.Placed way) o = o
  end-on b q is x lt counted state.NoMemory o = o
  end-on b q is x lt counted state.Taken o = o

  module _ (blocks : ℕ → Block) (trees : ℕ → Gate) (shape : ℕ → Shape) (pinned : (a c : ℕ) (p : ReadPart) → v.reads a ≡ Some p → p.reading.pin ≡ Some c → shape c ≡ g.shape c)
      (k : Querying s h v.row blocks trees v.desks v.taken v.reads g.shape g.placed g.home g.counted) where
    walk-on : (b : ℕ) (q : Query) → query_at (e ∷ h) b ≡ Some q → (counted : List ℕ) (t : ReadingValue) (pin : Option ℕ) → ((c : ℕ) → pin ≡ Some c → shape c ≡ g.shape c)
        → IsWalk s h v.row blocks trees g.shape b q counted t pin → IsWalk s (e ∷ h) v.row blocks trees shape b q counted t pin
    walk-on b q is counted t None same o = o
    walk-on b q is counted t (Some c) same o = (
      o.0,
      subst (λ (z : Shape). IsUnfinished z (nodes (cells_at blocks trees c)) (must_hold s.hierarchy (e ∷ h) b q) (fits (table_of s v.row) q.filter) t.items counted) (sym (same c refl))
          (subst (λ (must : ℕ → Bool). IsUnfinished (g.shape c) (nodes (cells_at blocks trees c)) must (fits (table_of s v.row) q.filter) t.items counted) (sym (must-same b q is)) o.1),
    )

    in-tree : (pin : Option ℕ) → ((c : ℕ) → pin ≡ Some c → shape c ≡ g.shape c) → (q : ℕ) → IsInTreeOf g.shape pin q → IsInTreeOf shape pin q
    in-tree None same q o = o
    in-tree (Some c) same q o = subst (λ (z : Shape). z.placed q ≡ true) (sym (same c refl)) o

    pub querying-kept : Querying s (e ∷ h) (row_at (e ∷ h)) blocks trees v.desks v.taken v.reads shape g.placed home g.counted
    querying-kept = subst (λ (row : ℕ → Row). Querying s (e ∷ h) row blocks trees v.desks v.taken v.reads shape g.placed home g.counted) (sym rows) (record {
      counts = λ server b q lt op is.
          All-weaker (λ (p : Part). is_refused p ≡ false → IsCounted s h v.row g.placed g.home q p.shard (g.counted server p.shard)) (λ (p : Part). is_refused p ≡ false → IsCounted s (e ∷ h) v.row g.placed home q p.shard (g.counted server p.shard))
          (λ p f kept. let o = f kept in record { once = o.once; fitting = o.fitting; under = λ r some. m.under p.shard r (o.under r some) }) (v.desks server).parts (k.counts server b q lt op (query-was b ∙ is));
      ends = λ server b q lt op is. λ j d within.
          let p = get_or (v.desks server).parts j d in end-on b q is p.shard (parts-made server b q lt op (query-was b ∙ is) j d within) (g.counted server p.shard) p.state (k.ends server b q lt op (query-was b ∙ is) j d within);
      whole = λ server b q lt op is r held fit.
          Any-weaker (λ (p : Part). IsUnder h g.placed g.home p.shard r) (λ (p : Part). IsUnder (e ∷ h) g.placed home p.shard r) (λ p. m.under p.shard r) (v.desks server).parts
          (k.whole server b q lt op (query-was b ∙ is) r (sym (ap (λ (z : ℕ → Bool). z r) (must-same b q is)) ∙ held) fit);
      reading = λ a b q p has op is. let o = k.reading a b q p has op (query-was b ∙ is) in record {
        wanted = o.wanted;
        total = o.total;
        walk = walk-on b q is (g.counted p.server p.shard) p.reading p.reading.pin (λ c pin. pinned a c p has pin) o.walk;
        holds = holds-on b q is p.shard (read-made a b q p has op (query-was b ∙ is)).1 (g.counted p.server p.shard) (IsInTreeOf g.shape p.reading.pin) (IsInTreeOf shape p.reading.pin) (in-tree p.reading.pin (λ c pin. pinned a c p has pin)) o.holds;
      };
      unread = k.unread;
    })

  -- Images.

  pub imaging-kept : Imaging s (e ∷ h) (row_at (e ∷ h)) v.images g.placed
  imaging-kept = subst (λ (row : ℕ → Row). Imaging s (e ∷ h) row v.images g.placed) (sym rows) (record {
    image = λ server lt. let k = i.imaging.image server lt in record {
      places = k.places ∙ ap places_of (sym (m.pulls.listing server));
      grown = subst (λ (spots : List Spot). AllZip (HasGrown s.hierarchy) spots (v.images server).spots) (sym (m.pulls.listing server)) k.grown;
      apart = λ x y a b is. k.apart x y a b (sym (m.comes x y
          (listed-made (site_in s) g.placed h i.telling.right.right.opening i.telling.right.right.each server y (listed-was h server y (spot-there y (listing_of h server) (sym (ap (list_any (is_of y)) k.places) ∙ place-there y (v.images server).spots b))))) ∙ is);
      whole = λ x is. let from = m.from x is in
          Any-weaker (λ (z : Spot). IsTrue (comes_from h z.shard from.0)) (λ (z : Spot). IsTrue (comes_from (e ∷ h) z.shard x)) (λ z c. from.2 z.shard c) (v.images server).spots (k.whole from.0 from.1);
      boxes = box-older s.hierarchy g.placed e h (v.images server).spots k.boxes;
      growths = All-weaker (IsGrowth s h v.row g.placed) (IsGrowth s (e ∷ h) v.row g.placed) (λ z o. record { made = older-made s.workers e h z.shard o.made; number = o.number; is_placed = o.is_placed; at = o.at }) (v.images server).growths k.growths;
    };
  })

  -- Boxes.

  covered : (spots : List Spot) (q : ℕ) → g.placed q ≡ true → IsCovered s.hierarchy h v.row g.home spots q → IsCovered s.hierarchy (e ∷ h) v.row home spots q
  covered spots q placed c = Any-weaker (λ (z : Spot). IsTrue (comes_from h z.shard (g.home q)) × (covers s.hierarchy z.set (v.row q).at ≡ true)) (λ (z : Spot). IsTrue (comes_from (e ∷ h) z.shard (home q)) × (covers s.hierarchy z.set (v.row q).at ≡ true))
      (λ z both. ((m.under z.shard q (record { is_placed = placed; comes = both.0 })).comes, both.1)) spots c

  placed-ack : (a : Ack) → Contains (acked h) a → g.placed a.row.no ≡ true
  placed-ack a has = (i.placing.acked_rows a has).0

  known-same : (server : ℕ) → known s.hierarchy (e ∷ h) server ≡ known s.hierarchy h server
  known-same server = rw (m.acks.own server, m.pulls.passed server, m.knowledge.listed server) refl

  pub covering-kept : (registry : RegistryValue) → KeepsBoxes s v g home registry → Covering s (e ∷ h) (row_at (e ∷ h)) registry v.images g.placed home g.path
  covering-kept registry b =
      let k = i.covering in
      let IsNotedIn : List Spot → (ℕ → ℕ) → Ack → Type 0 = λ spots its a. Fits s.hierarchy v.row its spots a.row.no ⊎ Contains (v.images a.server).growths (record { shard = last_of a.path; at = a.row.at }) in
      let now : Covering s (e ∷ h) v.row registry v.images g.placed home g.path = record {
        boxes = box-older s.hierarchy g.placed e h registry.frontier b.boxes;
        came = b.came;
        pushed = subst (All (λ (a : Ack). Fits s.hierarchy v.row home registry.frontier a.row.no)) (sym m.pulls.published)
            (All-inside (λ (a : Ack). Fits s.hierarchy v.row g.home v.registry.frontier a.row.no) (λ (a : Ack). Fits s.hierarchy v.row home registry.frontier a.row.no) (published h) (λ a has f. b.fits a.row.no (placed-ack a (published-acked h a has)) f) k.pushed);
        noted = subst (All (IsNotedIn registry.frontier home)) (sym m.acks.acked)
            (All-inside (IsNotedIn v.registry.frontier g.home) (IsNotedIn registry.frontier home) (acked h) (λ a has o. elim o [ inl f ↦ inl (b.fits a.row.no (placed-ack a has) f) | inr there ↦ inr there ]) k.noted);
        must = λ server lt. subst (All (λ (a : Ack). IsCovered s.hierarchy (e ∷ h) v.row home (v.images server).spots a.row.no)) (sym (known-same server))
            (All-inside (λ (a : Ack). IsCovered s.hierarchy h v.row g.home (v.images server).spots a.row.no) (λ (a : Ack). IsCovered s.hierarchy (e ∷ h) v.row home (v.images server).spots a.row.no)
            (known s.hierarchy h server) (λ a has c. covered (v.images server).spots a.row.no (placed-ack a (known-acked s.hierarchy h server a has)) c) (k.must server lt));
        unacked = λ q insert p is none. elim (k.unacked q insert p (insert-was q ∙ is) (λ a has. none a (subst (λ (xs : List Ack). Contains xs a) (sym m.acks.acked) has))) [
          | inl lists ↦ inl lists
          | inr c ↦ inr (covered (v.images insert.server).spots q p c)
        ];
      } in
      subst (λ (row : ℕ → Row). Covering s (e ∷ h) row registry v.images g.placed home g.path) (sym rows) now
