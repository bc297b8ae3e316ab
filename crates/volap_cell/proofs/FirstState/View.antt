-- What the invariant sees of an opening: its history, its registry, images, desks, tables and actors, and that no gate is busy.
use Rattle.std.proofs.{Common.{◌≡◌, ◌≢◌, ◌∙◌, ℕ, zero, suc, ◌<◌, ◌⊎◌, inl, inr, List, [], ◌++◌, length, refl, sym, ap, subst, arith}, lemmas.Bool.{cases_Bool, cases_lt, eq-eqb, eqb-true}}
use Rattle.std.specs.Prelude.{Option, Some, None, ◌==◌, if◌then◌else◌}
use Rattle.cell_stock.specs.declared.purse.Spare.{Spare}
use Rattle.mapping_table.specs.declared.place.Where.{Where}
use Rattle.mapping_table.specs.declared.place.Where.TheVariants as where_is
use Rattle.query_router.specs.Desk.{DeskValue}
use Rattle.row_ledger.specs.{Bounds.listing_of, Kept.IsOpeningHistory, Listings.IsFirstListing, declared.event.Event.Event}
use Rattle.server_image.specs.Image.{ImageValue}
use Rattle.shard_build.specs.shard_store.specs.{declared.gate.Phase.Phase, declared.gate.Phase.TheVariants.{Open, Frozen, Gone}, declared.queue.Queue.Queue}
use Rattle.volap_cell.specs.{Cells.{CellValue, FreeCell, LedgerCell, StockCell, RegistryCell, ImageCell, DeskCell, MapCell, GateCell, BlockCell, OfStock, tag_of, gate_shard, phase_of, active_in, pins_in, queue_in, gone_in, ledger_in, stock_in, registry_in, image_in, desk_in, where_in}, Errands.{Taken, RowWay, ReadPart, taken_of, way_of, read_of}, Numbering.IsSetting, Opening.IsOpening, Setting.{Setting, site_in, map_cell}, Stocking.{all_items, all_spares, items_of_job, items_of_read, spent_of}, Sums.sum_below, Values.JobValue, View.{View, view}, World.World, declared.command.Command.Command}
use Rattle.volap_cell.proofs.{FirstState.Cells.{IsOther, IsSpare, IsGateOf, IsRootOf, NoGate}, FirstState.Found.{found, stock-tag, tag-is}, FirstState.Past.opening-listing}

pub sum-none : (n : ℕ) (f : ℕ → ℕ) → ((a : ℕ) → f a ≡ 0) → sum_below n f ≡ 0
sum-none zero f none = refl
sum-none (suc n) f none = let a = none n in let b = sum-none n f none in omega arith

-- a cell of the stock has no table
no-table : (c : CellValue) → tag_of c ≡ OfStock → (x : ℕ) → where_in c x ≡ None
no-table (MapCell worker m) tag x = absurd (let never : ⊥ = cc in never)
no-table FreeCell tag x = refl
no-table (LedgerCell l) tag x = refl
no-table (StockCell l) tag x = refl
no-table (RegistryCell l) tag x = refl
no-table (ImageCell server l) tag x = refl
no-table (DeskCell server l) tag x = refl
no-table (GateCell g) tag x = refl
no-table (BlockCell b) tag x = refl

-- a gate at which nobody is, or a cell without one
pub record IsQuiet (c : CellValue) : Type 0 where
  pub phase : (phase_of c ≡ None) ⊎ (phase_of c ≡ Some Open)
  pub active : active_in c ≡ 0
  pub pins : pins_in c ≡ 0
  pub rows : (queue_in c).rows ≡ []
  pub gone : gone_in c ≡ []

quiet-none : (c : CellValue) → NoGate c → IsQuiet c
quiet-none c none = record { phase = inl none.phase; active = none.active; pins = none.pins; rows = ap (λ (q : Queue). q.rows) none.queue; gone = none.gone }

not-gone-in : (p : Option Phase) → (p ≡ None) ⊎ (p ≡ Some Open) → p ≢ Some Gone
not-gone-in p is gone = elim is [ inl none ↦ cc | inr opened ↦ cc ]

not-frozen-in : (p : Option Phase) (n : ℕ) → (p ≡ None) ⊎ (p ≡ Some Open) → p ≢ Some (Frozen n)
not-frozen-in p n is gone = elim is [ inl none ↦ cc | inr opened ↦ cc ]

-- where a worker's table leads
pub record IsTable (s : Setting) (gate : ℕ → ℕ) (leads : Option Where) (worker x : ℕ) : Type 0 where
  pub is : (leads ≡ None) ⊎ ((worker < s.workers) × (x ≡ worker) × (leads ≡ Some (where_is.Gate (gate worker))))

module _ (s : Setting) (w : World) (set : IsSetting s) (o : IsOpening s w) where
  abbrev pub v : View
  v = view s w

  -- The history.

  history-is : v.history ≡ o.ledger.history
  history-is = ap (λ c. (ledger_in c).history) o.ledger_is

  pub opens : IsOpeningHistory (site_in s) v.history
  opens = subst (IsOpeningHistory (site_in s)) (sym history-is) o.history

  pub pulled : length v.history ≡ s.servers
  pulled = ap length history-is ∙ o.all_pulled

  pub promised-none : v.promised ≡ 0
  promised-none = ap (λ c. (ledger_in c).promised) o.ledger_is ∙ o.none_promised

  pub lists : (server : ℕ) → server < s.servers → IsFirstListing (site_in s) (listing_of v.history server)
  lists server low = opening-listing (site_in s) v.history opens server (let p = pulled in omega arith)

  -- What there is one of, and what servers and workers have.

  pub stock-is : v.stock ≡ o.stock
  stock-is = ap stock_in o.stock_is

  pub registry-is : v.registry ≡ o.registry
  registry-is = ap registry_in o.registry_is

  image-at : (server : ℕ) → server < s.servers → v.images server ≡ record { spots = listing_of o.ledger.history server; growths = []; owed = 0 }
  image-at server low = ap image_in (o.images server low)

  pub spots-are : (server : ℕ) → server < s.servers → (v.images server).spots ≡ listing_of v.history server
  spots-are server low = ap (λ (i : ImageValue). i.spots) (image-at server low) ∙ ap (λ (h : List Event). listing_of h server) (sym history-is)

  pub growths-none : (server : ℕ) → server < s.servers → (v.images server).growths ≡ []
  growths-none server low = ap (λ (i : ImageValue). i.growths) (image-at server low)

  pub owed-none : (server : ℕ) → server < s.servers → (v.images server).owed ≡ 0
  owed-none server low = ap (λ (i : ImageValue). i.owed) (image-at server low)

  pub desk-is : (server : ℕ) → server < s.servers → v.desks server ≡ record { op = None; parts = []; sessions = 0 }
  desk-is server low = ap desk_in (o.desks server low)

  pub op-none : (server : ℕ) → server < s.servers → (v.desks server).op ≡ None
  op-none server low = ap (λ (d : DeskValue). d.op) (desk-is server low)

  pub parts-none : (server : ℕ) → server < s.servers → (v.desks server).parts ≡ []
  parts-none server low = ap (λ (d : DeskValue). d.parts) (desk-is server low)

  pub op-never : {P : Type 0} (server of : ℕ) → server < s.servers → (v.desks server).op ≡ Some of → P
  op-never server of low is = let none = op-none server low in absurd (let never : ⊥ = cc in never)

  map-at : (worker x : ℕ) (low : worker < s.workers) → v.maps worker x ≡ (if x == worker then Some (where_is.Gate (o.gate worker)) else None)
  map-at worker x low = let t = o.tables worker low in ap (λ c. where_in c x) t.1 ∙ t.2 x

  pub own-map : (worker : ℕ) → worker < s.workers → v.maps worker worker ≡ Some (where_is.Gate (o.gate worker))
  own-map worker low = map-at worker worker low ∙ (rw (eq-eqb worker worker refl) refl)

  pub table-is : (worker x : ℕ) → IsTable s o.gate (v.maps worker x) worker x
  table-is worker x = elim (cases_lt worker s.workers) [
    | inl low ↦ elim (cases_Bool (x == worker)) [
      | inl here ↦ record { is = inr (low, eqb-true x worker here, map-at worker x low ∙ (rw here refl)) }
      | inr other ↦ record { is = inl (map-at worker x low ∙ (rw other refl)) }
    ]
    | inr high ↦ record { is = inl (no-table (w.cells (map_cell s worker)) (tag-is s w set o (map_cell s worker) ∙ stock-tag s w set o (map_cell s worker) (omega arith)) x) }
  ]

  -- The gates.

  quiet-gate : (i : ℕ) → i < s.workers → IsQuiet (w.cells (o.gate i))
  quiet-gate i low =
      let d = o.shards i low in
      record {
        phase = inr (ap phase_of d.in_cell ∙ ap Some d.is_new.phase);
        active = ap active_in d.in_cell ∙ d.is_new.active;
        pins = ap pins_in d.in_cell ∙ d.is_new.pins;
        rows = ap (λ c. (queue_in c).rows) d.in_cell ∙ d.is_new.empty;
        gone = ap gone_in d.in_cell ∙ d.is_new.gone;
      }

  pub quiet : (c : ℕ) → IsQuiet (w.cells c)
  quiet c = elim (found s w set o c) [
    | IsOther out a b none ↦ quiet-none (w.cells c) none
    | IsSpare a b d e none ↦ quiet-none (w.cells c) none
    | IsGateOf i low is a b d e ↦ subst (λ (k : ℕ). IsQuiet (w.cells k)) is (quiet-gate i low)
    | IsRootOf i low is a b d e none ↦ quiet-none (w.cells c) none
  ]

  pub not-gone : (c : ℕ) → v.phases c ≢ Some Gone
  not-gone c = not-gone-in (v.phases c) (quiet c).phase

  pub not-frozen : (c n : ℕ) → v.phases c ≢ Some (Frozen n)
  not-frozen c n = not-frozen-in (v.phases c) n (quiet c).phase

  pub gate-shard : (i : ℕ) → i < s.workers → v.gates (o.gate i) ≡ Some i
  gate-shard i low = let d = o.shards i low in ap gate_shard d.in_cell ∙ ap Some d.is_new.shard_is

  -- The actors.

  pub purse-none : (a : ℕ) → v.purses a ≡ []
  purse-none a = (o.actors a).purse

  pub command-none : (a : ℕ) → v.commands a ≡ None
  command-none a = (o.actors a).command

  pub job-none : (a : ℕ) → v.jobs a ≡ None
  job-none a = (o.actors a).job

  pub taken-none : (a : ℕ) → v.taken a ≡ None
  taken-none a = ap taken_of (o.actors a).errand

  pub way-none : (a : ℕ) → v.ways a ≡ None
  way-none a = ap way_of (o.actors a).errand

  pub read-none : (a : ℕ) → v.reads a ≡ None
  read-none a = ap read_of (o.actors a).errand

  pub spares-none : (a : ℕ) → all_spares v.purses v.jobs a ≡ []
  spares-none a = ap (λ (p : List Spare). p ++ spent_of (v.jobs a)) (purse-none a) ∙ ap spent_of (job-none a)

  pub items-none : (a : ℕ) → all_items v.reads v.jobs a ≡ []
  items-none a = ap (λ (r : Option ReadPart). items_of_read r ++ items_of_job (v.jobs a)) (read-none a) ∙ ap items_of_job (job-none a)

  pub no-command : {P : Type 0} (a : ℕ) (c : Command) → v.commands a ≡ Some c → P
  no-command a c is = let none = command-none a in absurd (let never : ⊥ = cc in never)

  pub no-job : {P : Type 0} (a : ℕ) (j : JobValue) → v.jobs a ≡ Some j → P
  no-job a j is = let none = job-none a in absurd (let never : ⊥ = cc in never)

  pub no-part : {P : Type 0} (a : ℕ) (t : Taken) → v.taken a ≡ Some t → P
  no-part a t is = let none = taken-none a in absurd (let never : ⊥ = cc in never)

  pub no-way : {P : Type 0} (a : ℕ) (r : RowWay) → v.ways a ≡ Some r → P
  no-way a r is = let none = way-none a in absurd (let never : ⊥ = cc in never)

  pub no-read : {P : Type 0} (a : ℕ) (r : ReadPart) → v.reads a ≡ Some r → P
  no-read a r is = let none = read-none a in absurd (let never : ⊥ = cc in never)
