-- What a pull leaves of each part of the invariant that reads the history, and what it changes of what servers must know.
-- Where shards are: `lineage-synced`, `resting-synced`. Where rows are: `placing-synced`; how far inserts are: `inserting-synced`. Desks and
-- queries: `desking-synced`, `querying-synced`. Jobs and balances: `working-synced`, `balancing-synced`. What is published and known:
-- `All-published-synced`, `known-synced-other`, `All-known-synced`; the images of other servers: `image-synced-other`. Trees and queues:
-- `growing-grown`, `queueing-grown` in GrowsTrees; commands: `telling-grown` in GrowsTold.
use Rattle.std.proofs.{Common.{◌≡◌, ◌≢◌, ℕ, ◌<◌, List, ◌∷◌, ◌++◌, Bool, true, IsTrue, length, refl, sym, ap, subst, inl, inr, All, Contains, le_of_lt, ◌==◌}, lemmas.Bool.{cond_both, ne_eqb}, lemmas.List.Elements.{All-nil, Contains-append_cases, All-append, All-contains, All-weaker, All-contains_itself}}
use Rattle.std.specs.{Option.option_map_or, Prelude.{Option, Some, None, [], filter, if◌then◌else◌}}
use Rattle.dim_hierarchy.specs.declared.row.Row.{Row}
use Rattle.describing_set.specs.{DescSet.covers, declared.listing.Spot.Spot}
use Rattle.cell_stock.specs.{Stock.StockValue, declared.purse.Spare.Spare}
use Rattle.dc_node.specs.declared.block.Block.{Block}
use Rattle.mapping_table.specs.declared.place.Where.{Where}
use Rattle.query_router.specs.Desk.{DeskValue}
use Rattle.row_ledger.specs.{Bounds.{own, passed, listed, known, published, listing_of, is_listed}, Changes.{PullChanges, ShardsStay}, Past.{Ack, Pull, acked, pull_in}, Shards.comes_from, declared.event.Event.Event, declared.event.Event.TheVariants.Synced}
use Rattle.row_ledger.proofs.{Changes.synced-changes, Descent.comes_from-self, Older.published-older}
use Rattle.list_words.proofs.{Elements.{Contains-nil, Contains-filtered, IsTrue-filtered}, Truth.eqb-self}
use Rattle.server_image.specs.{Image.ImageValue, Registry.RegistryValue}
use Rattle.shard_build.specs.shard_store.specs.{declared.gate.Gate.Gate, declared.gate.Phase.Phase, declared.queue.Queue.Queue}
use Rattle.shard_build.specs.tree_shape.specs.Shape.{Shape}
use Rattle.volap_cell.specs.{Desking.Desking, Errands.{ReadPart, RowWay, Taken}, Growing.Resting, Imaging.{Fits, IsCovered, IsImageOf}, Lineage.Lineage, Placing.{Placing, Inserting}, Querying.Querying, Setting.Setting, Values.JobValue, View.row_at, Working.{Working, Balancing}, declared.command.Command.Command, declared.role.Role.Role}
use Rattle.volap_cell.proofs.{OneEvent.Desks.{desking-grown, querying-grown}, OneEvent.Known.{AreOlder, image-grown}, OneEvent.Older.{insert-same, query-same, rows-same, Any-weaker}, OneEvent.Rows.{resting-grown, lineage-grown, placing-grown, inserting-grown}, OneEvent.Work.{working-grown, balancing-grown}}

-- what is passed to a server was published
pub passed-published : (h : List Event) (server : ℕ) (k : Ack) → Contains (passed h server) k → Contains (published h) k
passed-published [] server k has = absurd (Contains-nil k has)
passed-published (e ∷ past) server k has =
    elim (Contains-append_cases (option_map_or (λ (p : Pull). if p.server == server then published past else []) (pull_in e) []) (passed past server) k has) [
      | inl new ↦ published-older e past k (here (pull_in e) new)
      | inr old ↦ published-older e past k (passed-published past server k old)
    ]
  where
    here : (o : Option Pull) → Contains (option_map_or (λ (p : Pull). if p.server == server then published past else []) o []) k → Contains (published past) k
    here None has = absurd (Contains-nil k has)
    here (Some p) has = cond_both (p.server == server) (published past) [] (λ ks. Contains ks k → Contains (published past) k) (λ _ there. there) (λ _ there. absurd (Contains-nil k there)) has

-- a row that fits the registry's box is covered by an image that lists the registry's shards
pub fits-covered : (s : Setting) (h : List Event) (row : ℕ → Row) (home : ℕ → ℕ) (spots : List Spot) (r : ℕ) → Fits s.hierarchy row home spots r → IsCovered s.hierarchy h row home spots r
fits-covered s h row home spots r i = Any-weaker (λ (spot : Spot). (spot.shard ≡ home r) × (covers s.hierarchy spot.set (row r).at ≡ true))
    (λ (spot : Spot). IsTrue (comes_from h spot.shard (home r)) × (covers s.hierarchy spot.set (row r).at ≡ true))
    (λ spot both. (subst (λ (x : ℕ). IsTrue (comes_from h x (home r))) (sym both.0) (comes_from-self h (home r)), both.1)) spots i

module _ (s : Setting) (h : List Event) (server : ℕ) (listing : List Spot) where
  pub pull-changes : PullChanges s.hierarchy s.workers server listing h
  pull-changes = synced-changes s.hierarchy s.workers server listing h

  shards : ShardsStay s.workers (Synced server listing) h
  shards = pull-changes.shards

  -- Shards and rows.

  pub resting-synced : (gates : ℕ → Option ℕ) (phases : ℕ → Option Phase) (shape : ℕ → Shape) (placed : ℕ → Bool) (home : ℕ → ℕ)
      → Resting h gates phases shape placed home → Resting (Synced server listing ∷ h) gates phases shape placed home
  resting-synced gates phases shape placed home i = resting-grown s (Synced server listing) h shards gates phases shape placed home i

  pub lineage-synced : (stock : StockValue) (registry : RegistryValue) (maps : ℕ → ℕ → Option Where) (gates : ℕ → Option ℕ) (phases : ℕ → Option Phase) (gate : ℕ → ℕ)
      → Lineage s h stock registry maps gates phases gate → Lineage s (Synced server listing ∷ h) stock registry maps gates phases gate
  lineage-synced stock registry maps gates phases gate i = lineage-grown s (Synced server listing) h shards stock registry maps gates phases gate (λ x w. refl) i

  pub placing-synced : (commands : ℕ → Option Command) (ways : ℕ → Option RowWay) (queues : ℕ → Queue) (gate : ℕ → ℕ) (shape : ℕ → Shape) (placed : ℕ → Bool) (home : ℕ → ℕ) (path : ℕ → List ℕ)
      → Placing s h commands ways queues gate shape placed home path → Placing s (Synced server listing ∷ h) commands ways queues gate shape placed home path
  placing-synced commands ways queues gate shape placed home path i = placing-grown s (Synced server listing) h shards commands ways queues gate shape placed home path pull-changes.acks.acked i

  pub inserting-synced : (images : ℕ → ImageValue) (desks : ℕ → DeskValue) (commands : ℕ → Option Command) (ways : ℕ → Option RowWay) (placed : ℕ → Bool) (path : ℕ → List ℕ)
      → Inserting s h images desks commands ways placed path → Inserting s (Synced server listing ∷ h) images desks commands ways placed path
  inserting-synced images desks commands ways placed path i =
      inserting-grown s (Synced server listing) h shards images desks commands ways placed path (λ t r within op. insert-same (Synced server listing) h refl r) i

  -- Desks and queries.

  pub desking-synced : (desks : ℕ → DeskValue) (roles : ℕ → Role) (commands : ℕ → Option Command) (taken : ℕ → Option Taken)
      → Desking s h desks roles commands taken → Desking s (Synced server listing ∷ h) desks roles commands taken
  desking-synced desks roles commands taken i = desking-grown s (Synced server listing) h shards desks roles commands taken
      (λ t b within op. (insert-same (Synced server listing) h refl b, query-same (Synced server listing) h refl b)) i

  pub querying-synced : (blocks : ℕ → Block) (trees : ℕ → Gate) (desks : ℕ → DeskValue) (taken : ℕ → Option Taken) (reads : ℕ → Option ReadPart) (shape : ℕ → Shape) (placed : ℕ → Bool) (home : ℕ → ℕ) (counted : ℕ → ℕ → List ℕ)
      → AreOlder h placed → Querying s h (row_at h) blocks trees desks taken reads shape placed home counted
      → Querying s (Synced server listing ∷ h) (row_at (Synced server listing ∷ h)) blocks trees desks taken reads shape placed home counted
  querying-synced blocks trees desks taken reads shape placed home counted older i = querying-grown s (Synced server listing) h shards placed home older blocks trees desks taken reads shape counted
      (λ t b known op. query-same (Synced server listing) h refl b) (λ a b q p is op asked n some. ap (λ (row : ℕ → Row). row n) (rows-same (Synced server listing) h refl)) i

  -- Jobs and balances.

  pub working-synced : (blocks : ℕ → Block) (made : ℕ → Bool) (trees : ℕ → Gate) (phases : ℕ → Option Phase) (active : ℕ → ℕ) (queues : ℕ → Queue) (purses : ℕ → List Spare) (commands : ℕ → Option Command) (jobs : ℕ → Option JobValue) (gate : ℕ → ℕ) (shape : ℕ → Shape) (placed : ℕ → Bool)
      → ((a : ℕ) (c : Command) → commands a ≡ Some c → c.of < length h)
      → Working s h blocks made trees phases active queues purses commands jobs gate shape placed → Working s (Synced server listing ∷ h) blocks made trees phases active queues purses commands jobs gate shape placed
  working-synced blocks made trees phases active queues purses commands jobs gate shape placed began i =
      working-grown s (Synced server listing) h shards blocks made trees phases active queues purses commands jobs gate shape placed (λ a c is. le_of_lt (began a c is)) i

  pub balancing-synced : (commands : ℕ → Option Command) (jobs : ℕ → Option JobValue) (placed : ℕ → Bool) (home : ℕ → ℕ)
      → ((a : ℕ) (c : Command) → commands a ≡ Some c → c.of < length h)
      → Balancing s h commands jobs placed home → Balancing s (Synced server listing ∷ h) commands jobs placed home
  balancing-synced commands jobs placed home began i = balancing-grown s (Synced server listing) h shards commands jobs placed home (λ a b balance is. (le_of_lt (began a _ is), refl)) i

  -- What is known.

  pub listing-own : listing_of (Synced server listing ∷ h) server ≡ listing
  listing-own = rw (eqb-self server) refl

  pub listing-other : (t : ℕ) → t ≢ server → listing_of (Synced server listing ∷ h) t ≡ listing_of h t
  listing-other t off = rw (ne_eqb server t (λ q. off (sym q))) refl

  -- the image of another server
  pub image-synced-other : (placed : ℕ → Bool) → AreOlder h placed → (t : ℕ) (image : ImageValue) → t ≢ server → IsImageOf s h (row_at h) placed t image → IsImageOf s (Synced server listing ∷ h) (row_at (Synced server listing ∷ h)) placed t image
  image-synced-other placed older t image off i = image-grown s (Synced server listing) h shards placed older t image (listing-other t off) i

  pub All-published-synced : (P : Ack → Type 0) → All P (own h server) → All P (published h) → All P (published (Synced server listing ∷ h))
  All-published-synced P owned told = subst (All P) (sym pull-changes.publishes) (All-append P (own h server) (published h) owned told)

  pub known-synced-other : (t : ℕ) → t ≢ server → known s.hierarchy (Synced server listing ∷ h) t ≡ known s.hierarchy h t
  known-synced-other t off = (let no = ne_eqb server t (λ q. off (sym q)) in rw no refl)

  -- what holds of all that is the server's own or published, and of what the new listing covers, holds of all that it must know
  pub All-known-synced : (P : Ack → Type 0) → All P (own h server) → All P (published h)
      → ((k : Ack) → Contains (acked h) k → IsTrue (is_listed s.hierarchy listing k) → P k) → All P (known s.hierarchy (Synced server listing ∷ h) server)
  All-known-synced P owned told lists =
      let before : All P (passed h server) = All-weaker (Contains (passed h server)) P (λ k has. All-contains P (published h) k told (passed-published h server k has)) (passed h server) (All-contains_itself (passed h server)) in
      let spots : List Spot = if server == server then listing else listing_of h server in
      let covered : All P (filter (is_listed s.hierarchy spots) (acked h)) = All-weaker (Contains (filter (is_listed s.hierarchy spots) (acked h))) P
      (λ k has. lists k (Contains-filtered (is_listed s.hierarchy spots) (acked h) k has)
      (subst (λ (there : List Spot). IsTrue (is_listed s.hierarchy there k)) listing-own (IsTrue-filtered (is_listed s.hierarchy spots) (acked h) k has)))
      (filter (is_listed s.hierarchy spots) (acked h)) (All-contains_itself (filter (is_listed s.hierarchy spots) (acked h))) in
      let passes : All P (passed (Synced server listing ∷ h) server) = subst (All P) (sym (pull-changes.passes server)) (All-append P (if server == server then published h else []) (passed h server)
      (cond_both (server == server) (published h) [] (All P) (λ _. told) (λ _. All-nil P)) before) in
      All-append P (own (Synced server listing ∷ h) server ++ passed (Synced server listing ∷ h) server) (listed s.hierarchy (Synced server listing ∷ h) server)
      (All-append P (own (Synced server listing ∷ h) server) (passed (Synced server listing ∷ h) server) (subst (All P) (sym (pull-changes.acks.own server)) owned) passes)
      (subst (All P) (sym (pull-changes.covers server)) covered)
