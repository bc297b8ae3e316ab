-- What an event that acknowledges, pulls, splits and moves nothing leaves of each part of the invariant that reads the history: inserts,
-- queries and other commands that begin or end, work that is left, and pages.
-- Where shards are: `lineage-quiet`, `resting-quiet`, `under-quiet`. Trees and queues: `growing-grown`, `queueing-grown` in GrowsTrees. Where rows
-- are: `placing-quiet`; how far inserts are: `inserting-quiet`; the row that begins: `new-row-out`, `nobody-at-new`. What is known:
-- `imaging-quiet`, `covering-quiet`. Desks and queries: `desking-quiet`, `querying-quiet`. Jobs and balances: `working-quiet`, `balancing-quiet`.
-- Commands: `telling-grown` in GrowsTold. All parts but that one, and but what is owed, together: `told-quiet`,
-- and of a state `told-here`.
use Rattle.std.proofs.{Common.{◌≡◌, ℕ, ◌<◌, ◌≤◌, ◌∙◌, List, ◌∷◌, Bool, true, false, length, refl, subst, arith, ◌⊎◌, inl, inr, le_of_lt}, lemmas.Bool.{false≢true}}
use Rattle.std.specs.Prelude.{Option, Some}
use Rattle.dim_hierarchy.specs.declared.row.Row.{Row}
use Rattle.cell_stock.specs.{Stock.StockValue, declared.purse.Spare.Spare}
use Rattle.dc_node.specs.declared.block.Block.{Block}
use Rattle.mapping_table.specs.declared.place.Where.{Where}
use Rattle.query_router.specs.Desk.{DeskValue}
use Rattle.row_ledger.specs.{Changes.{is_quiet, AllStays, ShardsStay}, Past.{Query, insert_in, query_at, query_in, is_work_of}, declared.event.Event.Event, declared.event.Event.TheVariants.Moved}
use Rattle.row_ledger.proofs.Changes.{quiet}
use Rattle.server_image.specs.{Image.ImageValue, Registry.RegistryValue}
use Rattle.shard_build.specs.shard_store.specs.{declared.gate.Gate.Gate, declared.gate.Phase.Phase, declared.queue.Queue.Queue}
use Rattle.list_words.specs.Counts.{times}
use Rattle.list_words.proofs.Truth.{on_bool}
use Rattle.shard_build.specs.tree_shape.specs.Shape.{Shape}
use Rattle.volap_cell.specs.{Desking.Desking, Errands.{ReadPart, RowWay, Taken}, Ghost.Ghost, Growing.{IsUnder, Growing, Queueing, Resting}, Imaging.{Covering, Imaging}, Invariant.InvWith, Lineage.{Lineage, went_to}, Placing.{NobodyAt, Placing, Inserting}, Querying.{IsInTreeOf, Querying}, Setting.Setting, Stocking.IsWhole, Telling.Telling, Values.JobValue, View.{View, row_at, view}, Working.{Working, Balancing}, World.World, declared.command.Balance.Balance, declared.command.Command.Command, declared.role.Role.Role}
use Rattle.volap_cell.specs.declared.command.Work.TheVariants as work_is
use Rattle.volap_cell.proofs.{OneEvent.Desks.{IsReader, desking-grown, querying-grown}, OneEvent.Known.{AreOlder, older-rows, imaging-grown, covering-grown}, OneEvent.Older.{kind-older, row-older, insert-within}, OneEvent.Reads.{ReadersTake, readers-take, pinned-whole, reading-rows-older}, OneEvent.Rows.{under-grown, resting-grown, lineage-grown, placing-grown, inserting-grown}, OneEvent.Told.commands-older, OneEvent.Trees.{past-there, growing-grown, queueing-grown}, OneEvent.Work.{working-grown, balancing-grown}}

-- Older commands.

-- what stands on a desk began before
pub desks-older : (s : Setting) (h : List Event) {desks : ℕ → DeskValue} {commands : ℕ → Option Command} {jobs : ℕ → Option JobValue} {roles : ℕ → Role} {seen : ℕ → ℕ} {placed : ℕ → Bool} {taken : ℕ → Option Taken}
    → Telling s h commands jobs roles seen placed → Desking s h desks roles commands taken
    → (server b : ℕ) → server < s.servers → (desks server).op ≡ Some b → b < length h
desks-older s h telling desking server b within op =
    let w = desking.whose server b within op in subst (λ (p : ℕ). p < length h) w.3 (commands-older s h telling w.0 w.1 w.2)

-- and what stands on the desk of a server for which a gate was read
pub readers-older : (s : Setting) (h : List Event) {desks : ℕ → DeskValue} {commands : ℕ → Option Command} {jobs : ℕ → Option JobValue} {roles : ℕ → Role} {seen : ℕ → ℕ} {placed : ℕ → Bool} {taken : ℕ → Option Taken} {reads : ℕ → Option ReadPart}
    → Telling s h commands jobs roles seen placed → Desking s h desks roles commands taken → ReadersTake taken reads
    → (server b : ℕ) → (server < s.servers) ⊎ IsReader reads server → (desks server).op ≡ Some b → b < length h
readers-older s h telling desking takes server b known op = elim known [
  | inl within ↦ desks-older s h telling desking server b within op
  | inr reader ↦
      let t = takes reader.0 reader.1 reader.2 in
      let at = desking.at_parts reader.0 t.0 t.1 in
      desks-older s h telling desking server b (subst (λ (n : ℕ). n < s.servers) (t.2 ∙ reader.3) at.within) op
]

-- New rows.

-- no row has passed a gate that is to begin yet
pub new-row-out : (h : List Event) (placed : ℕ → Bool) → AreOlder h placed → placed (length h) ≡ false
new-row-out h placed older = on_bool (placed (length h)) (λ p. let below : length h < length h = older.placed_rows (length h) p in absurd (omega arith)) (λ p. p)

-- and nobody is at it
pub nobody-at-new : (s : Setting) (h : List Event) {images : ℕ → ImageValue} {desks : ℕ → DeskValue} {commands : ℕ → Option Command} {ways : ℕ → Option RowWay} {placed : ℕ → Bool} {path : ℕ → List ℕ}
    → Inserting s h images desks commands ways placed path → NobodyAt ways (length h)
nobody-at-new s h i a w is same =
    let at = i.on_way a w is in
    let known = at.known in
    let below : w.row.no < length h = insert-within h w.row.no known.0 known.1 in
    absurd (omega arith)

-- no move is noted
went-quiet : (e : Event) (h : List Event) → is_quiet e ≡ true → (x w : ℕ) → went_to (e ∷ h) x w ≡ went_to h x w
went-quiet (Moved of shard to) h q x w = absurd (false≢true q)
went-quiet _ h q x w = refl

module _ (s : Setting) (e : Event) (h : List Event) (q : is_quiet e ≡ true) where
  pub all-stays : AllStays s.hierarchy s.workers e h
  all-stays = quiet s.hierarchy s.workers e h q

  shards : ShardsStay s.workers e h
  shards = all-stays.shards

  -- Where shards and rows are.

  pub under-quiet : (placed : ℕ → Bool) (home : ℕ → ℕ) (x r : ℕ) → IsUnder h placed home x r → IsUnder (e ∷ h) placed home x r
  under-quiet placed home x r i = under-grown s e h shards placed home x r i

  pub resting-quiet : (gates : ℕ → Option ℕ) (phases : ℕ → Option Phase) (shape : ℕ → Shape) (placed : ℕ → Bool) (home : ℕ → ℕ)
      → Resting h gates phases shape placed home → Resting (e ∷ h) gates phases shape placed home
  resting-quiet gates phases shape placed home i = resting-grown s e h shards gates phases shape placed home i

  pub lineage-quiet : (stock : StockValue) (registry : RegistryValue) (maps : ℕ → ℕ → Option Where) (gates : ℕ → Option ℕ) (phases : ℕ → Option Phase) (gate : ℕ → ℕ)
      → Lineage s h stock registry maps gates phases gate → Lineage s (e ∷ h) stock registry maps gates phases gate
  lineage-quiet stock registry maps gates phases gate i = lineage-grown s e h shards stock registry maps gates phases gate (went-quiet e h q) i

  pub placing-quiet : (commands : ℕ → Option Command) (ways : ℕ → Option RowWay) (queues : ℕ → Queue) (gate : ℕ → ℕ) (shape : ℕ → Shape) (placed : ℕ → Bool) (home : ℕ → ℕ) (path : ℕ → List ℕ)
      → Placing s h commands ways queues gate shape placed home path → Placing s (e ∷ h) commands ways queues gate shape placed home path
  placing-quiet commands ways queues gate shape placed home path i = placing-grown s e h shards commands ways queues gate shape placed home path all-stays.acks.acked i

  pub inserting-quiet : (images : ℕ → ImageValue) (desks : ℕ → DeskValue) (commands : ℕ → Option Command) (ways : ℕ → Option RowWay) (placed : ℕ → Bool) (path : ℕ → List ℕ)
      → ((server b : ℕ) → server < s.servers → (desks server).op ≡ Some b → b < length h)
      → Inserting s h images desks commands ways placed path → Inserting s (e ∷ h) images desks commands ways placed path
  inserting-quiet images desks commands ways placed path older i =
      inserting-grown s e h shards images desks commands ways placed path (λ server r within op. kind-older insert_in e h r (older server r within op)) i

  -- What is known.

  pub imaging-quiet : (images : ℕ → ImageValue) (placed : ℕ → Bool) → AreOlder h placed → Imaging s h (row_at h) images placed → Imaging s (e ∷ h) (row_at (e ∷ h)) images placed
  imaging-quiet images placed older i = imaging-grown s e h shards placed older images all-stays.pulls i

  pub covering-quiet : (registry : RegistryValue) (images : ℕ → ImageValue) (placed : ℕ → Bool) (home : ℕ → ℕ) (path : ℕ → List ℕ) → AreOlder h placed
      → Covering s h (row_at h) registry images placed home path → Covering s (e ∷ h) (row_at (e ∷ h)) registry images placed home path
  covering-quiet registry images placed home path older i = covering-grown s e h shards placed older registry images home path i all-stays.acks all-stays.pulls all-stays.knowledge

  -- Desks and queries.

  pub desking-quiet : (desks : ℕ → DeskValue) (roles : ℕ → Role) (commands : ℕ → Option Command) (taken : ℕ → Option Taken)
      → ((server b : ℕ) → server < s.servers → (desks server).op ≡ Some b → b < length h)
      → Desking s h desks roles commands taken → Desking s (e ∷ h) desks roles commands taken
  desking-quiet desks roles commands taken older i = desking-grown s e h shards desks roles commands taken
      (λ server b within op. (kind-older insert_in e h b (older server b within op), kind-older query_in e h b (older server b within op))) i

  pub querying-quiet : (blocks : ℕ → Block) (trees : ℕ → Gate) (desks : ℕ → DeskValue) (taken : ℕ → Option Taken) (reads : ℕ → Option ReadPart) (shape : ℕ → Shape) (placed : ℕ → Bool) (home : ℕ → ℕ) (counted : ℕ → ℕ → List ℕ)
      → AreOlder h placed
      → ((server b : ℕ) → (server < s.servers) ⊎ IsReader reads server → (desks server).op ≡ Some b → b < length h)
      → ((a b : ℕ) (query : Query) (p : ReadPart) → reads a ≡ Some p → (desks p.server).op ≡ Some b → query_at h b ≡ Some query
      → (n : ℕ) → (1 ≤ times n (counted p.server p.shard)) ⊎ IsInTreeOf shape p.reading.pin n → n < length h)
      → Querying s h (row_at h) blocks trees desks taken reads shape placed home counted
      → Querying s (e ∷ h) (row_at (e ∷ h)) blocks trees desks taken reads shape placed home counted
  querying-quiet blocks trees desks taken reads shape placed home counted older began rows i = querying-grown s e h shards placed home older blocks trees desks taken reads shape counted
      (λ server b known op. kind-older query_in e h b (began server b known op)) (λ a b query p is op asked n there. row-older e h n (rows a b query p is op asked n there)) i

  -- Jobs and balances.

  pub working-quiet : (blocks : ℕ → Block) (made : ℕ → Bool) (trees : ℕ → Gate) (phases : ℕ → Option Phase) (active : ℕ → ℕ) (queues : ℕ → Queue) (purses : ℕ → List Spare) (commands : ℕ → Option Command) (jobs : ℕ → Option JobValue) (gate : ℕ → ℕ) (shape : ℕ → Shape) (placed : ℕ → Bool)
      → ((a : ℕ) (c : Command) → commands a ≡ Some c → c.of < length h)
      → Working s h blocks made trees phases active queues purses commands jobs gate shape placed → Working s (e ∷ h) blocks made trees phases active queues purses commands jobs gate shape placed
  working-quiet blocks made trees phases active queues purses commands jobs gate shape placed began i =
      working-grown s e h shards blocks made trees phases active queues purses commands jobs gate shape placed (λ a c is. le_of_lt (began a c is)) i

  -- the event is no work of a balance
  pub balancing-quiet : (commands : ℕ → Option Command) (jobs : ℕ → Option JobValue) (placed : ℕ → Bool) (home : ℕ → ℕ)
      → ((a : ℕ) (c : Command) → commands a ≡ Some c → c.of < length h)
      → ((a b : ℕ) (balance : Balance) → commands a ≡ Some (record { of = b; work = work_is.Balance balance }) → is_work_of b e ≡ false)
      → Balancing s h commands jobs placed home → Balancing s (e ∷ h) commands jobs placed home
  balancing-quiet commands jobs placed home began none i =
      balancing-grown s e h shards commands jobs placed home (λ a b balance is. (le_of_lt (began a _ is), none a b balance is)) i

-- All together.

-- the parts that read the history, but for what it tells of commands and what is owed, over a history of the same rest
pub record Told (s : Setting) (v : View) (g : Ghost) (history : List Event) : Type 0 where
  pub lineage : Lineage s history v.stock v.registry v.maps v.gates v.phases g.gate
  pub growing : Growing s (row_at history) v.blocks v.trees v.gates v.phases v.pins g.shape
  pub queueing : Queueing s (row_at history) v.gates v.phases v.queues
  pub resting : Resting history v.gates v.phases g.shape g.placed g.home
  pub placing : Placing s history v.commands v.ways v.queues g.gate g.shape g.placed g.home g.path
  pub inserting : Inserting s history v.images v.desks v.commands v.ways g.placed g.path
  pub imaging : Imaging s history (row_at history) v.images g.placed
  pub covering : Covering s history (row_at history) v.registry v.images g.placed g.home g.path
  pub desking : Desking s history v.desks v.roles v.commands v.taken
  pub querying : Querying s history (row_at history) v.blocks v.trees v.desks v.taken v.reads g.shape g.placed g.home g.counted
  pub working : Working s history v.blocks v.made v.trees v.phases v.active v.queues v.purses v.commands v.jobs g.gate g.shape g.placed
  pub balancing : Balancing s history v.commands v.jobs g.placed g.home

pub told : (s : Setting) (v : View) (g : Ghost) → v.row ≡ row_at v.history → InvWith s v g → Told s v g v.history
told s v g rows i = record {
  lineage = i.lineage;
  growing = subst (λ (row : ℕ → Row). Growing s row v.blocks v.trees v.gates v.phases v.pins g.shape) rows i.growing;
  queueing = subst (λ (row : ℕ → Row). Queueing s row v.gates v.phases v.queues) rows i.queueing;
  resting = i.resting;
  placing = i.placing;
  inserting = i.inserting;
  imaging = subst (λ (row : ℕ → Row). Imaging s v.history row v.images g.placed) rows i.imaging;
  covering = subst (λ (row : ℕ → Row). Covering s v.history row v.registry v.images g.placed g.home g.path) rows i.covering;
  desking = i.desking;
  querying = subst (λ (row : ℕ → Row). Querying s v.history row v.blocks v.trees v.desks v.taken v.reads g.shape g.placed g.home g.counted) rows i.querying;
  working = i.working;
  balancing = i.balancing;
}

-- the event is no work of a balance
pub told-quiet : (s : Setting) (v : View) (g : Ghost) (e : Event) → is_quiet e ≡ true → v.row ≡ row_at v.history → ReadersTake v.taken v.reads
    → ((a c : ℕ) (p : ReadPart) → v.reads a ≡ Some p → p.reading.pin ≡ Some c → IsWhole v.gates v.phases v.pins c)
    → ((a b : ℕ) (balance : Balance) → v.commands a ≡ Some (record { of = b; work = work_is.Balance balance }) → is_work_of b e ≡ false)
    → InvWith s v g → Told s v g (e ∷ v.history)
told-quiet s v g e q rows takes pinned none i =
    let h : List Event = v.history in
    let t : Told s v g h = told s v g rows i in
    let some : 0 < length h = past-there s g.placed h i.numbering.setting i.telling.right in
    let older : AreOlder h g.placed = older-rows s h i.placing in
    let began = commands-older s h i.telling in
    let on_desks = desks-older s h i.telling i.desking in
    record {
      lineage = lineage-quiet s e h q v.stock v.registry v.maps v.gates v.phases g.gate t.lineage;
      growing = growing-grown s e h some v.blocks v.trees v.gates v.phases v.pins g.shape t.growing;
      queueing = queueing-grown s e h some v.gates v.phases v.queues t.queueing;
      resting = resting-quiet s e h q v.gates v.phases g.shape g.placed g.home t.resting;
      placing = placing-quiet s e h q v.commands v.ways v.queues g.gate g.shape g.placed g.home g.path t.placing;
      inserting = inserting-quiet s e h q v.images v.desks v.commands v.ways g.placed g.path on_desks t.inserting;
      imaging = imaging-quiet s e h q v.images g.placed older t.imaging;
      covering = covering-quiet s e h q v.registry v.images g.placed g.home g.path older t.covering;
      desking = desking-quiet s e h q v.desks v.roles v.commands v.taken on_desks t.desking;
      querying = querying-quiet s e h q v.blocks v.trees v.desks v.taken v.reads g.shape g.placed g.home g.counted older
          (readers-older s h i.telling i.desking takes)
          (reading-rows-older s h some g.placed g.home older v.blocks v.trees v.gates v.phases v.pins v.desks v.roles v.commands v.taken v.reads g.shape g.counted takes pinned t.growing i.desking t.querying)
          t.querying;
      working = working-quiet s e h q v.blocks v.made v.trees v.phases v.active v.queues v.purses v.commands v.jobs g.gate g.shape g.placed began t.working;
      balancing = balancing-quiet s e h q v.commands v.jobs g.placed g.home began none t.balancing;
    }

-- the same of a state
pub told-here : (s : Setting) (w : World) (g : Ghost) (e : Event) → is_quiet e ≡ true
    → ((a b : ℕ) (balance : Balance) → (view s w).commands a ≡ Some (record { of = b; work = work_is.Balance balance }) → is_work_of b e ≡ false)
    → InvWith s (view s w) g → Told s (view s w) g (e ∷ (view s w).history)
told-here s w g e q none i =
    let v : View = view s w in
    let takes : ReadersTake v.taken v.reads = readers-take s w in
    told-quiet s v g e q refl takes
    (pinned-whole s v.tags v.numbers v.roles v.settings v.counted_in v.purses v.commands v.taken v.jobs v.gates v.phases v.pins v.reads i.numbering takes i.pinning)
    none i
