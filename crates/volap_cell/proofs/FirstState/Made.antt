-- Vectors that are made as an opening's are one.
use Rattle.std.proofs.{Common.{◌≡◌, ◌≢◌, ◌∙◌, ℕ, zero, suc, ◌+◌, ◌-◌, ◌<◌, ◌≤◌, inl, inr, Bool, cond, List, [], ◌∷◌, length, Option, Some, None, get_or, set, refl, sym, ap, subst, arith}, lemmas.Bool.{cases_Bool, cases_lt, eqb-false}, lemmas.Cmp.nat_cmp_total, lemmas.List.{get_or-set_other, get_or-set_same, get_or_past, length-set}}
use Rattle.std.specs.{Cmp.unsigned_tied, List.range_with_len, Ordering.nat_cmp, Prelude.{◌*◌, ◌==◌, if◌then◌else◌}}
use Rattle.std.specs.FinMap as map
use Rattle.cell_stock.specs.Stock.{StockValue}
use Rattle.describing_set.specs.declared.listing.Spot.{Spot}
use Rattle.mapping_table.specs.declared.place.Where.{Where}
use Rattle.mapping_table.specs.declared.place.Where.TheVariants as where_is
use Rattle.row_ledger.specs.{Bounds.listing_of, Kept.IsOpeningHistory, LedgerValue.LedgerValue, Listings.IsFirstListing, declared.event.Event.Event, declared.event.Event.TheVariants.Synced}
use Rattle.row_ledger.proofs.Growth.{IsOpeningHistory-nil, IsOpeningHistory-pull}
use Rattle.server_image.specs.Registry.{RegistryValue, IsNewRegistry}
use Rattle.list_words.specs.Counts.{times}
use Rattle.list_words.proofs.Times.{same_is, same_not}
use Rattle.shard_build.specs.tree_shape.specs.Trees.{leaf_without_rows}
use Rattle.volap_cell.specs.{Cells.{CellValue, FreeCell, LedgerCell, StockCell, RegistryCell, ImageCell, DeskCell, MapCell, BlockCell, cell_of}, Filling.{Adds, HasPulled, IsActor, IsDesk, IsFirstStock, IsFreeCell, IsGate, IsImage, IsMap, IsOpened, IsRoot, Stands, cell_or, actor_or, world_of, pulls_of}, Numbering.IsSetting, Opening.{IsOpening, IsFirstShard, IsFresh}, Setting.{Setting, actor_count, cell_count, first_stock_cell, map_cell, site_in}, State.{Has, IsWorldOf}, Values.actor_of, World.World, declared.actor.Actor.Actor, declared.cell.Cell.Cell}
use Rattle.volap_cell.proofs.{FirstState.Holds.opening-inv, FirstState.Servers.{first-boxes, first-spots}}

-- Lists.

has-some : {A : Type 0} (P : A → Type 0) (o : Option A) → Has o P → (x : A) × (o ≡ Some x) × P x
has-some P None has = absurd has
has-some P (Some x) has = (x, refl, has)

-- what stood stands
kept : {A : Type 0} (n : ℕ) (P : ℕ → A → Type 0) (before now : List (Option A)) (y : ℕ) (x : A) → Adds n P before now → y < length before → get_or before y None ≡ Some x → get_or now y None ≡ Some x
kept n P before now y x adds low is = adds.old y low ∙ is

times-below : (y from n : ℕ) → y < from → times y (range_with_len from n) ≡ 0
times-below y from zero low = refl
times-below y from (suc n) low = let rest = times-below y (from + 1) n (omega arith) in let off = same_not y from (λ e. absurd (omega arith)) in omega arith

times-past : (y from n : ℕ) → from + n ≤ y → times y (range_with_len from n) ≡ 0
times-past y from zero high = refl
times-past y from (suc n) high = let rest = times-past y (from + 1) n (omega arith) in let off = same_not y from (λ e. absurd (omega arith)) in omega arith

times-within : (y from n : ℕ) → from ≤ y → y < from + n → times y (range_with_len from n) ≡ 1
times-within y from zero low high = absurd (omega arith)
times-within y from (suc n) low high = elim (cases_lt from y) [
  | inl below ↦ (let rest = times-within y (from + 1) n (omega arith) (omega arith) in let off = same_not y from (λ e. absurd (omega arith)) in omega arith)
  | inr above ↦ (let here : y ≡ from = omega arith in let one = same_is y from here in let rest = times-below y (from + 1) n (omega arith) in omega arith)
]

-- The history.

pulls-length : (spots : List Spot) (n : ℕ) → length (pulls_of spots n) ≡ n
pulls-length spots zero = refl
pulls-length spots (suc n) = let rest = pulls-length spots n in omega arith

pulls-open : (s : Setting) (spots : List Spot) → IsFirstListing (site_in s) spots → (n : ℕ) → n ≤ s.servers → IsOpeningHistory (site_in s) (pulls_of spots n)
pulls-open s spots first zero few = IsOpeningHistory-nil (site_in s)
pulls-open s spots first (suc n) few =
    let long = pulls-length spots n in
    subst (λ (k : ℕ). IsOpeningHistory (site_in s) (Synced k spots ∷ pulls_of spots n)) long
    (IsOpeningHistory-pull (site_in s) (pulls_of spots n) spots (pulls-open s spots first n (omega arith)) (omega arith) first)

pulls-list : (spots : List Spot) (n server : ℕ) → server < n → listing_of (pulls_of spots n) server ≡ spots
pulls-list spots zero server low = absurd (omega arith)
pulls-list spots (suc n) server low = elim (cases_Bool (n == server)) [
  | inl here ↦ rw here refl
  | inr other ↦ rw other (pulls-list spots n server (let ne = eqb-false n server other in omega arith))
]

-- a table with one place
one-place : (worker c x : ℕ) → map.get (map.insert (map.empty {X = Where} {R = nat_cmp}) worker (where_is.Gate c)) x ≡ (if x == worker then Some (where_is.Gate c) else None)
one-place worker c x = map.get-insert nat_cmp_total map.empty worker (where_is.Gate c) x
    ∙ ap (λ (b : Bool). cond b (Some (where_is.Gate c)) (map.get (map.empty {X = Where} {R = nat_cmp}) x)) (unsigned_tied x worker)
    ∙ ap (λ (o : Option Where). cond (x == worker) (Some (where_is.Gate c)) o) (map.get-empty nat_cmp x)

module _ (s : Setting) (set_ok : IsSetting s) (spots : List Spot) (first first_gate first_root : ℕ) (bare : List (Option Cell))
    (d : Stands s.hierarchy s.servers s.workers s.stock_cells first_gate first_root spots bare) (start actors : List (Option Actor))
    (ledger : LedgerValue) (stock : StockValue) (registry : RegistryValue) (l st r : Cell)
    (first_is : first ≡ first_stock_cell s) (gate_at : first_gate + 2 * s.workers ≡ cell_count s) (root_at : first_root + s.workers ≡ cell_count s)
    (l_is : cell_of l ≡ LedgerCell ledger) (st_is : cell_of st ≡ StockCell stock) (r_is : cell_of r ≡ RegistryCell registry)
    (pulled : HasPulled spots s.servers ledger) (stock_is : IsFirstStock first s.stock_cells s.workers stock) (registry_ok : IsNewRegistry s.hierarchy s.workers registry) (spots_are : registry.frontier ≡ spots)
    (start_is : start ≡ []) (made : Adds (actor_count s) (IsActor s) start actors) where
  stock_ok : IsFirstStock (first_stock_cell s) s.stock_cells s.workers stock
  stock_ok = subst (λ (k : ℕ). IsFirstStock k s.stock_cells s.workers stock) first_is stock_is

  abbrev cells : List (Option Cell)
  cells = set (set (set bare 2 (Some r)) 1 (Some st)) 0 (Some l)

  abbrev w : World
  w = world_of s cells actors

  -- How long the vectors are.

  long-images : length d.images ≡ 3 + s.servers
  long-images = let z : length d.start ≡ 0 = ap length d.start_is in let a = d.fixed_are.count in let b = d.images_are.count in omega arith

  long-desks : length d.desks ≡ 3 + s.servers + s.servers
  long-desks = let a = long-images in let b = d.desks_are.count in omega arith

  long-maps : length d.maps ≡ first_stock_cell s
  long-maps = let a = long-desks in let b = d.maps_are.count in omega arith

  long-free : length d.free ≡ first_gate
  long-free = let a = long-maps in let b = d.free_are.count in let e = set_ok.enough in omega arith

  long-gates : length d.gates ≡ first_root
  long-gates = let a = long-free in let b = d.gates_are.count in let e = set_ok.enough in omega arith

  long-bare : length bare ≡ cell_count s
  long-bare = let a = long-gates in let b = d.roots_are.count in let e = set_ok.enough in omega arith

  long : length cells ≡ cell_count s
  long = length-set (set (set bare 2 (Some r)) 1 (Some st)) 0 (Some l) ∙ length-set (set bare 2 (Some r)) 1 (Some st) ∙ length-set bare 2 (Some r) ∙ long-bare

  -- What stands where.

  at-first : get_or cells 0 None ≡ Some l
  at-first = get_or-set_same (set (set bare 2 (Some r)) 1 (Some st)) 0 (Some l) None (let a = long in let b = length-set (set (set bare 2 (Some r)) 1 (Some st)) 0 (Some l) in omega arith)

  at-second : get_or cells 1 None ≡ Some st
  at-second = get_or-set_other (set (set bare 2 (Some r)) 1 (Some st)) 0 1 (Some l) None (λ e. absurd (omega arith))
      ∙ get_or-set_same (set bare 2 (Some r)) 1 (Some st) None (let a = long-bare in let b = length-set bare 2 (Some r) in omega arith)

  at-third : get_or cells 2 None ≡ Some r
  at-third = get_or-set_other (set (set bare 2 (Some r)) 1 (Some st)) 0 2 (Some l) None (λ e. absurd (omega arith))
      ∙ get_or-set_other (set bare 2 (Some r)) 1 2 (Some st) None (λ e. absurd (omega arith))
      ∙ get_or-set_same bare 2 (Some r) None (let a = long-bare in omega arith)

  at-rest : (y : ℕ) → 3 ≤ y → get_or cells y None ≡ get_or bare y None
  at-rest y high = get_or-set_other (set (set bare 2 (Some r)) 1 (Some st)) 0 y (Some l) None (λ e. absurd (omega arith))
      ∙ get_or-set_other (set bare 2 (Some r)) 1 y (Some st) None (λ e. absurd (omega arith))
      ∙ get_or-set_other bare 2 y (Some r) None (λ e. absurd (omega arith))

  abbrev Is : ℕ → (Cell → Type 0) → Type 0
  Is y P = (x : Cell) × (get_or cells y None ≡ Some x) × P x

  -- a cell from one of the lists to the end
  from-gates : (y : ℕ) (x : Cell) → 3 ≤ y → y < length d.gates → get_or d.gates y None ≡ Some x → get_or cells y None ≡ Some x
  from-gates y x high low is = at-rest y high ∙ kept s.workers IsRoot d.gates bare y x d.roots_are low is

  from-free : (y : ℕ) (x : Cell) → 3 ≤ y → y < length d.free → get_or d.free y None ≡ Some x → get_or cells y None ≡ Some x
  from-free y x high low is = from-gates y x high (let a = d.gates_are.count in omega arith) (kept s.workers (IsGate s.hierarchy first_root) d.free d.gates y x d.gates_are low is)

  from-maps : (y : ℕ) (x : Cell) → 3 ≤ y → y < length d.maps → get_or d.maps y None ≡ Some x → get_or cells y None ≡ Some x
  from-maps y x high low is = from-free y x high (let a = d.free_are.count in omega arith) (kept (s.stock_cells - 2 * s.workers) IsFreeCell d.maps d.free y x d.free_are low is)

  from-desks : (y : ℕ) (x : Cell) → 3 ≤ y → y < length d.desks → get_or d.desks y None ≡ Some x → get_or cells y None ≡ Some x
  from-desks y x high low is = from-maps y x high (let a = d.maps_are.count in omega arith) (kept s.workers (IsMap (first_gate)) d.desks d.maps y x d.maps_are low is)

  from-images : (y : ℕ) (x : Cell) → 3 ≤ y → y < length d.images → get_or d.images y None ≡ Some x → get_or cells y None ≡ Some x
  from-images y x high low is = from-desks y x high (let a = d.desks_are.count in omega arith) (kept s.servers IsDesk d.images d.desks y x d.desks_are low is)

  image-is : (k : ℕ) → k < s.servers → Is (3 + k) (IsImage spots k)
  image-is k low =
      let z : length d.start ≡ 0 = ap length d.start_is in let f = d.fixed_are.count in
      let at : length d.fixed + k ≡ 3 + k = omega arith in
      let x = has-some (IsImage spots k) (get_or d.images (length d.fixed + k) None) (d.images_are.each k low) in
      (x.0, from-images (3 + k) x.0 (omega arith) (let a = long-images in omega arith) (ap (λ (y : ℕ). get_or d.images y None) (sym at) ∙ x.1), x.2)

  desk-is : (k : ℕ) → k < s.servers → Is (3 + s.servers + k) (IsDesk k)
  desk-is k low =
      let f = long-images in
      let at : length d.images + k ≡ 3 + s.servers + k = omega arith in
      let x = has-some (IsDesk k) (get_or d.desks (length d.images + k) None) (d.desks_are.each k low) in
      (x.0, from-desks (3 + s.servers + k) x.0 (omega arith) (let a = long-desks in omega arith) (ap (λ (y : ℕ). get_or d.desks y None) (sym at) ∙ x.1), x.2)

  map-is : (k : ℕ) → k < s.workers → Is (map_cell s k) (IsMap (first_gate) k)
  map-is k low =
      let f = long-desks in
      let at : length d.desks + k ≡ map_cell s k = omega arith in
      let x = has-some (IsMap (first_gate) k) (get_or d.maps (length d.desks + k) None) (d.maps_are.each k low) in
      (x.0, from-maps (map_cell s k) x.0 (omega arith) (let a = long-maps in omega arith) (ap (λ (y : ℕ). get_or d.maps y None) (sym at) ∙ x.1), x.2)

  free-is : (k : ℕ) → k < s.stock_cells - 2 * s.workers → Is (first_stock_cell s + k) (IsFreeCell k)
  free-is k low =
      let f = long-maps in
      let at : length d.maps + k ≡ first_stock_cell s + k = omega arith in
      let x = has-some (IsFreeCell k) (get_or d.free (length d.maps + k) None) (d.free_are.each k low) in
      (x.0, from-free (first_stock_cell s + k) x.0 (omega arith) (let a = d.free_are.count in omega arith) (ap (λ (y : ℕ). get_or d.free y None) (sym at) ∙ x.1), x.2)

  gate-is : (k : ℕ) → k < s.workers → Is (first_gate + k) (IsGate s.hierarchy first_root k)
  gate-is k low =
      let f = long-free in let e = set_ok.enough in
      let at : length d.free + k ≡ first_gate + k = omega arith in
      let x = has-some (IsGate s.hierarchy first_root k) (get_or d.gates (length d.free + k) None) (d.gates_are.each k low) in
      (x.0, from-gates (first_gate + k) x.0 (omega arith) (let a = d.gates_are.count in omega arith) (ap (λ (y : ℕ). get_or d.gates y None) (sym at) ∙ x.1), x.2)

  root-is : (k : ℕ) → k < s.workers → Is (first_root + k) (IsRoot k)
  root-is k low =
      let f = long-gates in let e = set_ok.enough in
      let at : length d.gates + k ≡ first_root + k = omega arith in
      let x = has-some (IsRoot k) (get_or bare (length d.gates + k) None) (d.roots_are.each k low) in
      (x.0, at-rest (first_root + k) (omega arith) ∙ ap (λ (y : ℕ). get_or bare y None) (sym at) ∙ x.1, x.2)

  value : (y : ℕ) (v : CellValue) → Is y (λ c. cell_of c ≡ v) → w.cells y ≡ v
  value y v is = ap cell_or is.1 ∙ is.2

  -- The parts of an opening.

  spots-first : IsFirstListing (site_in s) spots
  spots-first = subst (IsFirstListing (site_in s)) spots_are (record {
    places = first-spots s.hierarchy 0 s.workers registry.frontier registry_ok.first;
    boxes = first-boxes s.hierarchy 0 s.workers registry.frontier registry_ok.first;
  })

  shard-is : (k : ℕ) → k < s.workers → IsFirstShard s w k (first_gate + k) (first_root + k)
  shard-is k low =
      let x = gate-is k low in
      let g = x.2 in
      let e = set_ok.enough in
      record {
        gate = g.gate;
        set = g.set;
        empty = g.empty;
        is_new = g.is_new;
        in_cell = ap cell_or x.1 ∙ g.is;
        root = value (first_root + k) (BlockCell (leaf_without_rows k)) (root-is k low);
        apart = λ same. absurd (omega arith);
      }

  -- a cell of the stock that is neither a gate nor a root
  in-free : (y : ℕ) → first_stock_cell s ≤ y → y < first_gate → (w.cells y ≡ FreeCell) × (times y stock.free ≡ 1)
  in-free y high low =
      let e = set_ok.enough in
      let at : first_stock_cell s + (y - first_stock_cell s) ≡ y = omega arith in
      let is = free-is (y - first_stock_cell s) (omega arith) in (
        ap (λ (k : ℕ). w.cells k) (sym at) ∙ value (first_stock_cell s + (y - first_stock_cell s)) FreeCell is,
        ap (times y) stock_ok.free ∙ times-within y (first_stock_cell s) (s.stock_cells - 2 * s.workers) high (omega arith),
      )

  before-gates : (y : ℕ) → first_stock_cell s ≤ y → y < cell_count s → ((k : ℕ) → k < s.workers → (y ≢ first_gate + k) × (y ≢ first_root + k)) → y < first_gate
  before-gates y high low off =
      let e = set_ok.enough in
      elim (cases_lt y (first_gate)) [
        | inl below ↦ below
        | inr above ↦ elim (cases_lt y first_root) [
          | inl below ↦ absurd ((off (y - first_gate) (omega arith)).0 (omega arith))
          | inr past ↦ absurd ((off (y - first_root) (omega arith)).1 (omega arith))
        ]
      ]

  not-free : (y : ℕ) → w.cells y ≢ FreeCell → times y stock.free ≡ 0
  not-free y some =
      let e = set_ok.enough in
      let none : times y (range_with_len (first_stock_cell s) (s.stock_cells - 2 * s.workers)) ≡ 0 = elim (cases_lt y (first_stock_cell s)) [
        | inl below ↦ times-below y (first_stock_cell s) (s.stock_cells - 2 * s.workers) below
        | inr above ↦ elim (cases_lt y first_gate) [
          | inl low ↦ absurd (some (in-free y above low).0)
          | inr past ↦ times-past y (first_stock_cell s) (s.stock_cells - 2 * s.workers) (omega arith)
        ]
      ] in
      ap (times y) stock_ok.free ∙ none

  long-actors : length actors ≡ actor_count s
  long-actors = let z : length start ≡ 0 = ap length start_is in let c = made.count in omega arith

  actor-at : (a : ℕ) → a < actor_count s → (x : Actor) × (get_or actors a None ≡ Some x) × IsActor s a x
  actor-at a low =
      let z : length start ≡ 0 = ap length start_is in
      let at : length start + a ≡ a = omega arith in
      has-some (IsActor s a) (get_or actors a None) (subst (λ (k : ℕ). Has (get_or actors k None) (IsActor s a)) at (made.each a low))

  fresh-at : (a : ℕ) → IsFresh s a (w.actors a)
  fresh-at a = elim (cases_lt a (actor_count s)) [
    | inl low ↦
        let x = actor-at a low in
        subst (IsFresh s a) (sym (ap (actor_or s a) x.1)) x.2
    | inr high ↦
        let none : get_or actors a None ≡ None = get_or_past actors a None (let c = long-actors in omega arith) in
        subst (IsFresh s a) (sym (ap (actor_or s a) none)) (record { number = refl; role = λ low. absurd (omega arith); beyond = λ past. refl; about = refl; seen = refl; counted = refl; purse = refl; boxes = refl; command = refl; errand = refl; job = refl; gone_gates = refl })
  ]

  opening : IsOpening s w
  opening = record {
    ledger = ledger;
    ledger_is = ap cell_or at-first ∙ l_is;
    history = subst (IsOpeningHistory (site_in s)) (sym pulled.0) (pulls-open s spots spots-first s.servers (omega arith));
    all_pulled = ap length pulled.0 ∙ pulls-length spots s.servers;
    none_promised = pulled.1;
    stock = stock;
    stock_is = ap cell_or at-second ∙ st_is;
    valid = stock_ok.valid;
    count = stock_ok.count;
    ids = stock_ok.ids;
    stamps = (let a = stock_ok.stamps in omega arith);
    registry = registry;
    registry_is = ap cell_or at-third ∙ r_is;
    is_new = registry_ok;
    images = λ server low. value (3 + server) (ImageCell server (record { spots = spots; growths = []; owed = 0 })) (image-is server low)
        ∙ ap (λ (xs : List Spot). ImageCell server (record { spots = xs; growths = []; owed = 0 })) (sym (ap (λ (h : List Event). listing_of h server) pulled.0 ∙ pulls-list spots s.servers server low));
    desks = λ server low. value (3 + s.servers + server) (DeskCell server (record { op = None; parts = []; sessions = 0 })) (desk-is server low);
    gate = λ k. first_gate + k;
    root = λ k. first_root + k;
    tables = λ worker low. (map.insert map.empty worker (where_is.Gate (first_gate + worker)), value (map_cell s worker) (MapCell worker (map.insert map.empty worker (where_is.Gate (first_gate + worker)))) (map-is worker low), one-place worker (first_gate + worker));
    shards = shard-is;
    apart = λ a b low high same. omega arith;
    free = λ y high low off. in-free y high (before-gates y high low off);
    filled = not-free;
    rest = λ y high. ap cell_or (get_or_past cells y None (let a = long in omega arith));
    actors = fresh-at;
  }

  -- each place holds something
  filled-at : (y : ℕ) → y < cell_count s → Is y (λ c. cell_of c ≡ w.cells y)
  filled-at y low = elim (cases_lt y 3) [
    | inl small ↦ first-three y small
    | inr high ↦ elim (cases_lt y (3 + s.servers)) [
      | inl a ↦ shift (3 + (y - 3)) (IsImage spots (y - 3)) (image-is (y - 3) (omega arith)) (omega arith)
      | inr na ↦ elim (cases_lt y (3 + s.servers + s.servers)) [
        | inl a ↦ shift (3 + s.servers + (y - (3 + s.servers))) (IsDesk (y - (3 + s.servers))) (desk-is (y - (3 + s.servers)) (omega arith)) (omega arith)
        | inr nb ↦ elim (cases_lt y (first_stock_cell s)) [
          | inl a ↦ shift (map_cell s (y - (3 + s.servers + s.servers))) (IsMap (first_gate) (y - (3 + s.servers + s.servers))) (map-is (y - (3 + s.servers + s.servers)) (omega arith)) (omega arith)
          | inr nc ↦ elim (cases_lt y (first_gate)) [
            | inl a ↦ shift (first_stock_cell s + (y - first_stock_cell s)) (IsFreeCell (y - first_stock_cell s)) (free-is (y - first_stock_cell s) (let e = set_ok.enough in omega arith)) (omega arith)
            | inr nd ↦ elim (cases_lt y first_root) [
              | inl a ↦ shift (first_gate + (y - first_gate)) (IsGate s.hierarchy first_root (y - first_gate)) (gate-is (y - first_gate) (let e = set_ok.enough in omega arith)) (omega arith)
              | inr ne ↦ shift (first_root + (y - first_root)) (IsRoot (y - first_root)) (root-is (y - first_root) (let e = set_ok.enough in omega arith)) (omega arith)
            ]
          ]
        ]
      ]
    ]
  ]
    where
      here : (y : ℕ) (x : Cell) → get_or cells y None ≡ Some x → Is y (λ c. cell_of c ≡ w.cells y)
      here y x is = (x, is, sym (ap cell_or is))

      shift : (z : ℕ) (P : Cell → Type 0) → Is z P → z ≡ y → Is y (λ c. cell_of c ≡ w.cells y)
      shift z P is e = here y is.0 (ap (λ (k : ℕ). get_or cells k None) (sym e) ∙ is.1)

      first-three : (y : ℕ) → y < 3 → Is y (λ c. cell_of c ≡ w.cells y)
      first-three zero small = here 0 l at-first
      first-three (suc zero) small = here 1 st at-second
      first-three (suc (suc zero)) small = here 2 r at-third
      first-three (suc (suc (suc y))) small = absurd (omega arith)

  is-world : IsWorldOf cells actors w
  is-world = record {
    cell = λ y low. (let x = filled-at y (let a = long in omega arith) in subst (λ (o : Option Cell). Has o (λ c. cell_of c ≡ w.cells y)) (sym x.1) x.2);
    no_cell = λ y high. ap cell_or (get_or_past cells y None high);
    actor = λ a low. (let x = actor-at a (let c = long-actors in omega arith) in
        subst (λ (o : Option Actor). Has o (λ c. actor_of c ≡ w.actors a)) (sym x.1) (sym (ap (actor_or s a) x.1)));
    no_actor = λ a high. subst (λ (t : Setting). IsFresh t a (w.actors a)) (sym (fresh-at a).about) (fresh-at a);
  }

  pub is-opened : IsOpened s cells actors
  is-opened = record { places = long; count = long-actors; world = w; is = is-world; opening = opening; inv = opening-inv s w set_ok opening }
