-- The view after the steps of splits and moves: the fields that each touches, and no other.
use Rattle.std.proofs.Common.{◌≡◌, ℕ, true, false, List, [], ◌∷◌, ◌++◌, Option, None, refl, ap, ◌∙◌}
use Rattle.dim_hierarchy.specs.Dimension.{Dimension}
use Rattle.cell_stock.specs.Stock.{StockValue}
use Rattle.describing_set.specs.declared.plane.Plane.{Plane}
use Rattle.row_ledger.specs.{LedgerValue.LedgerValue, declared.event.Event.Event, declared.settings.Decline.Decline}
use Rattle.shard_build.specs.shard_store.specs.declared.gate.Gate.{Gate}
use Rattle.list_words.proofs.Each.{each-append}
use Rattle.volap_cell.specs.{AdminKinds.{DoesDrained, CollectsBlock, CollectsQueued, CollectsAll, DoesBuildBlock, DoesFinishSplit, DoesFinishMove, DoesPostpone, ReusesBlock, ReusesGate, Declines, Freezes, Finishes, GivesUp, MovesIn, PushesBoth}, Cells.{CellValue, FreeCell, LedgerCell, StockCell, RegistryCell, ImageCell, DeskCell, MapCell, GateCell, BlockCell, OfStock, tag_of}, Commands.after_action, ImageKinds.{Pushes, doing}, Planning.next_job, Setting.Setting, Values.{ActorValue, JobValue}, View.view, World.{World, Change, Agrees, after}, declared.command.Command.Command, declared.command.Work.Work}
use Rattle.volap_cell.specs.declared.command.Work.TheVariants as work_is
use Rattle.volap_cell.proofs.{Views.Commits.view-step, Views.Frames.Same, Views.Seen.{Touched, nothing, bare, beside, actor_beside, renewed}, Views.Touches.{IsBlank, hidden, turned, turned-stock, filled-block, freed-block}}

-- nothing but an actor's job
abbrev pub by_job : Touched
by_job = record nothing { jobs = true }

-- a job, and the purse that it uses
abbrev pub by_job_purse : Touched
by_job_purse = record nothing { purses = true; jobs = true }

-- Freezing.

-- a shard is frozen, or the job is declined and all cells stay
abbrev pub by_freeze : Touched
by_freeze = record by_job_purse { phases = true; stock = true }

-- where the job is declined, only the job is touched
pub view-decline : (s : Setting) (w : World) (n : ℕ) (m g c : Change) (a b : ActorValue) → Agrees w (m ∷ g ∷ c ∷ []) n a → m.now ≡ m.before → (job : JobValue) (decline : Decline) (gate : Gate) (stock : StockValue) → Declines job decline gate stock g c a b
    → view s (after w (m ∷ g ∷ c ∷ []) n b) ≡ renewed by_job (view s (after w (m ∷ g ∷ c ∷ []) n b)) (view s w)
view-decline s w n m g c a b agrees read job decline gate stock d =
    let (stays, same, actor_is) = d in
    view-step by_job s w (m ∷ g ∷ c ∷ []) n a b agrees
    (ap (beside by_job) read, (turned (beside by_job) g (GateCell gate) (GateCell gate) stays.was stays.is refl, (turned (beside by_job) c (StockCell stock) (StockCell stock) same.was same.is refl, tt)))
    (ap (actor_beside by_job) actor_is)

pub view-freeze : (s : Setting) (w : World) (n : ℕ) (m g c : Change) (a b : ActorValue) → Agrees w (m ∷ g ∷ c ∷ []) n a → m.now ≡ m.before → (job : JobValue) (plane : Option Plane) (gate : Gate) (stock : StockValue) → Freezes job plane gate stock g c a b
    → view s (after w (m ∷ g ∷ c ∷ []) n b) ≡ renewed by_freeze (view s (after w (m ∷ g ∷ c ∷ []) n b)) (view s w)
view-freeze s w n m g c a b agrees read job plane gate stock d =
    let t = by_freeze in
    view-step t s w (m ∷ g ∷ c ∷ []) n a b agrees
    (ap (beside t) read, (turned (beside t) g _ _ d.frozen.was d.frozen.is refl, (turned-stock t refl d.turns, tt)))
    (ap (actor_beside t) d.actor_is)

-- Collecting.

pub view-drained : (s : Setting) (w : World) (n : ℕ) (g : Change) (a b : ActorValue) → Agrees w (g ∷ []) n a → DoesDrained g a b
    → view s (after w (g ∷ []) n b) ≡ renewed by_job (view s (after w (g ∷ []) n b)) (view s w)
view-drained s w n g a b agrees d = view-step by_job s w (g ∷ []) n a b agrees (turned (beside by_job) g (GateCell d.gate) (GateCell d.gate) d.same.was d.same.is refl, tt) (ap (actor_beside by_job) d.actor_is)

pub view-collect_block : (s : Setting) (w : World) (n : ℕ) (c : Change) (a b : ActorValue) → Agrees w (c ∷ []) n a → CollectsBlock c a b
    → view s (after w (c ∷ []) n b) ≡ renewed by_job (view s (after w (c ∷ []) n b)) (view s w)
view-collect_block s w n c a b agrees d = view-step by_job s w (c ∷ []) n a b agrees (ap (beside by_job) d.reads.same, tt) (ap (actor_beside by_job) d.actor_is)

pub view-collect_queued : (s : Setting) (w : World) (n : ℕ) (g : Change) (a b : ActorValue) → Agrees w (g ∷ []) n a → CollectsQueued g a b
    → view s (after w (g ∷ []) n b) ≡ renewed by_job (view s (after w (g ∷ []) n b)) (view s w)
view-collect_queued s w n g a b agrees d = view-step by_job s w (g ∷ []) n a b agrees (turned (beside by_job) g (GateCell d.gate) (GateCell d.gate) d.same.was d.same.is refl, tt) (ap (actor_beside by_job) d.actor_is)

pub view-collect_all : (s : Setting) (w : World) (n : ℕ) (h : List Dimension) (g : Change) (a b : ActorValue) → Agrees w (g ∷ []) n a → CollectsAll h g a b
    → view s (after w (g ∷ []) n b) ≡ renewed by_job_purse (view s (after w (g ∷ []) n b)) (view s w)
view-collect_all s w n h g a b agrees d =
    let t = by_job_purse in view-step t s w (g ∷ []) n a b agrees (turned (beside t) g (GateCell d.gate) (GateCell d.gate) d.same.was d.same.is refl, tt) (ap (actor_beside t) d.actor_is)

-- Building.

abbrev pub by_build_block : Touched
by_build_block = record by_job { blocks = true }

-- the cell is blank before
pub view-build_block : (s : Setting) (w : World) (n : ℕ) (c : Change) (a b : ActorValue) → Agrees w (c ∷ []) n a → DoesBuildBlock c a b → IsBlank c.before
    → view s (after w (c ∷ []) n b) ≡ renewed by_build_block (view s (after w (c ∷ []) n b)) (view s w)
view-build_block s w n c a b agrees d blank =
    let t = by_build_block in view-step t s w (c ∷ []) n a b agrees (filled-block t refl d.next.block c blank d.filled, tt) (ap (actor_beside t) d.actor_is)

-- Finishing.

-- gates, tables, registry, stock and ledger, and all that the administrator has
abbrev pub by_finish : Touched
by_finish = record nothing {
  gates = true;
  phases = true;
  trees = true;
  active = true;
  pins = true;
  queues = true;
  gone = true;
  blocks = true;
  maps = true;
  registry = true;
  stock = true;
  ledger = true;
  seen = true;
  purses = true;
  commands = true;
  jobs = true;
  gone_gates = true;
}

-- a stock's cell that gets a gate: what it had before is of no matter
new-gate : (gate : Gate) (c : CellValue) → tag_of c ≡ OfStock → beside by_finish (GateCell gate) ≡ beside by_finish c
new-gate gate FreeCell tag = refl
new-gate gate (BlockCell b) tag = refl
new-gate gate (GateCell x) tag = refl
new-gate gate (LedgerCell l) tag = cc
new-gate gate (StockCell s) tag = cc
new-gate gate (RegistryCell r) tag = cc
new-gate gate (ImageCell s i) tag = cc
new-gate gate (DeskCell s d) tag = cc
new-gate gate (MapCell w m) tag = cc

pub gets-gate : {gate : Gate} (c : Change) → tag_of c.before ≡ OfStock → c.now ≡ GateCell gate → beside by_finish c.now ≡ beside by_finish c.before
gets-gate {gate} c tag is = ap (beside by_finish) is ∙ new-gate gate c.before tag

-- what the end of a job leaves of ledger and actor, whatever its command is; the gates that are gone are these then
record Ends (gone_gates : List ℕ) (l : Change) (a b : ActorValue) : Type 0 where
  ledger : LedgerValue
  ledger_now : LedgerValue
  was : l.before ≡ LedgerCell ledger
  is : l.now ≡ LedgerCell ledger_now
  command : Option Command
  job : Option JobValue
  actor_is : b ≡ record a { purse = []; seen = b.seen; command = command; job = job; gone_gates = gone_gates }

ends-one : {e : Event} {used : ℕ} {l : Change} {a b : ActorValue} {gone_gates : List ℕ} (command : Option Command) (job : Option JobValue) → Pushes e 0 used l b.seen → b ≡ record a { purse = []; seen = b.seen; command = command; job = job; gone_gates = gone_gates } → Ends gone_gates l a b
ends-one command job p is = record { ledger = p.ledger; ledger_now = p.ledger_now; was = p.was; is = p.is; command = command; job = job; actor_is = is }

ends-both : {e f : Event} {l : Change} {a b : ActorValue} {gone_gates : List ℕ} → PushesBoth e f l b.seen × (b ≡ record a { purse = []; seen = b.seen; command = None; job = None; gone_gates = gone_gates }) → Ends gone_gates l a b
ends-both both = let (p, is) = both in record { ledger = p.ledger; ledger_now = p.ledger_now; was = p.was; is = p.is; command = None; job = None; actor_is = is }

finishes-ends : (gate of : ℕ) (work : Work) (job : JobValue) (e : Event) (l : Change) (a b : ActorValue) → Finishes gate of work job e l a b → Ends (a.gone_gates ++ gate ∷ []) l a b
finishes-ends gate of (work_is.Balance balance) job e l a b f = let (p, is) = f in ends-one (doing of (work_is.Balance (after_action true job balance))) (next_job (after_action true job balance)) p is
finishes-ends gate of (work_is.Insert row routed) job e l a b f = ends-both f
finishes-ends gate of work_is.Query job e l a b f = ends-both f
finishes-ends gate of (work_is.Sync server pulled) job e l a b f = ends-both f
finishes-ends gate of (work_is.Settle pulls) job e l a b f = ends-both f
finishes-ends gate of work_is.Bare job e l a b f = ends-both f
finishes-ends gate of (work_is.Page subject there shown) job e l a b f = ends-both f
finishes-ends gate of (work_is.Action a_is) job e l a b f = ends-both f

gives-up-ends : (of : ℕ) (work : Work) (job : JobValue) (l : Change) (a b : ActorValue) → GivesUp of work job l a b → Ends a.gone_gates l a b
gives-up-ends of (work_is.Balance balance) job l a b f = let (p, is) = f in ends-one (doing of (work_is.Balance (after_action false job balance))) (next_job (after_action false job balance)) p is
gives-up-ends of (work_is.Insert row routed) job l a b f = let (p, is) = f in ends-one None None p is
gives-up-ends of work_is.Query job l a b f = let (p, is) = f in ends-one None None p is
gives-up-ends of (work_is.Sync server pulled) job l a b f = let (p, is) = f in ends-one None None p is
gives-up-ends of (work_is.Settle pulls) job l a b f = let (p, is) = f in ends-one None None p is
gives-up-ends of work_is.Bare job l a b f = let (p, is) = f in ends-one None None p is
gives-up-ends of (work_is.Page subject there shown) job l a b f = let (p, is) = f in ends-one None None p is
gives-up-ends of (work_is.Action a_is) job l a b f = let (p, is) = f in ends-one None None p is

ends-ledger : (t : Touched) → t.ledger ≡ true → {l : Change} {gone_gates : List ℕ} {a b : ActorValue} → Ends gone_gates l a b → beside t l.now ≡ beside t l.before
ends-ledger t on {l} e =
    let ledger = hidden t.ledger bare.ledger e.ledger_now e.ledger on in
    turned (beside t) l (LedgerCell e.ledger) (LedgerCell e.ledger_now) e.was e.is (λ k. record (beside t (LedgerCell e.ledger)) { ledger = ledger k })

-- the cells of the new gates are the stock's
pub view-finish_split : (s : Setting) (w : World) (n : ℕ) (h : List Dimension) (m x l r reg c led : Change) (a b : ActorValue) → Agrees w (m ∷ x ∷ l ∷ r ∷ reg ∷ c ∷ led ∷ []) n a → DoesFinishSplit h m x l r reg c led a b
    → tag_of l.before ≡ OfStock → tag_of r.before ≡ OfStock
    → view s (after w (m ∷ x ∷ l ∷ r ∷ reg ∷ c ∷ led ∷ []) n b) ≡ renewed by_finish (view s (after w (m ∷ x ∷ l ∷ r ∷ reg ∷ c ∷ led ∷ []) n b)) (view s w)
view-finish_split s w n h m x l r reg c led a b agrees d left right =
    let t = by_finish in
    let ends = finishes-ends x.number d.of d.work d.job _ led a b d.finishes in
    view-step t s w (m ∷ x ∷ l ∷ r ∷ reg ∷ c ∷ led ∷ []) n a b agrees (
      turned (beside t) m _ _ d.map_was d.map_is refl,
      (
        turned (beside t) x _ _ d.turns.was d.turns.is refl,
        (
          gets-gate l left d.left_now,
          (
            gets-gate r right d.right_now,
            (
              turned (beside t) reg _ _ d.registry_was d.registry_is refl,
              (
                turned-stock t refl d.turns_stock,
                (ends-ledger t refl ends, tt),
              ),
            ),
          ),
        ),
      ),
    )
    (ap (actor_beside t) ends.actor_is)

-- tables of which a shard moves
moved-tables : (maps : List Change) (job : JobValue) (to gate : ℕ) → MovesIn maps job to gate → Same (beside by_finish) maps
moved-tables [] job to gate m = absurd m
moved-tables (x ∷ []) job to gate m = let (own, one) = m in let (table, was, is) = one in (turned (beside by_finish) x _ _ was is refl, tt)
moved-tables (x ∷ y ∷ []) job to gate m =
    let (other, from, onto) = m in
    let (old, was, is) = from in
    let (table, was_there, is_there) = onto in
    (turned (beside by_finish) x _ _ was is refl, (turned (beside by_finish) y _ _ was_there is_there refl, tt))
moved-tables (x ∷ y ∷ z ∷ more) job to gate m = absurd m

pub view-finish_move : (s : Setting) (w : World) (n : ℕ) (h : List Dimension) (maps : List Change) (x g reg c led : Change) (a b : ActorValue) → Agrees w (maps ++ x ∷ g ∷ reg ∷ c ∷ led ∷ []) n a → DoesFinishMove h maps x g reg c led a b
    → tag_of g.before ≡ OfStock
    → view s (after w (maps ++ x ∷ g ∷ reg ∷ c ∷ led ∷ []) n b) ≡ renewed by_finish (view s (after w (maps ++ x ∷ g ∷ reg ∷ c ∷ led ∷ []) n b)) (view s w)
view-finish_move s w n h maps x g reg c led a b agrees d new =
    let t = by_finish in
    let ends = finishes-ends x.number d.of d.work d.job _ led a b d.finishes in
    let rest : Same (beside t) (x ∷ g ∷ reg ∷ c ∷ led ∷ []) = (turned (beside t) x _ _ d.turns.was d.turns.is refl, (gets-gate g new d.new_now, (turned (beside t) reg _ _ d.registry_was d.registry_is refl, (turned-stock t refl d.turns_stock, (ends-ledger t refl ends, tt))))) in
    view-step t s w (maps ++ x ∷ g ∷ reg ∷ c ∷ led ∷ []) n a b agrees
    (each-append (λ (k : Change). beside t k.now ≡ beside t k.before) maps (x ∷ g ∷ reg ∷ c ∷ led ∷ []) (moved-tables maps d.job d.to g.number d.moves) rest)
    (ap (actor_beside t) ends.actor_is)

-- Giving up.

abbrev pub by_postpone : Touched
by_postpone = record nothing { stock = true; ledger = true; seen = true; purses = true; commands = true; jobs = true }

pub view-postpone : (s : Setting) (w : World) (n : ℕ) (c led : Change) (a b : ActorValue) → Agrees w (c ∷ led ∷ []) n a → DoesPostpone c led a b
    → view s (after w (c ∷ led ∷ []) n b) ≡ renewed by_postpone (view s (after w (c ∷ led ∷ []) n b)) (view s w)
view-postpone s w n c led a b agrees d =
    let t = by_postpone in
    let ends = gives-up-ends d.of d.work d.job led a b d.gives_up in
    view-step t s w (c ∷ led ∷ []) n a b agrees (turned-stock t refl d.turns, (ends-ledger t refl ends, tt)) (ap (actor_beside t) ends.actor_is)

-- Using cells again.

-- gates and blocks, the stock, and the administrator's list
abbrev pub by_reuse : Touched
by_reuse = record nothing { blocks = true; gates = true; phases = true; trees = true; active = true; pins = true; queues = true; gone = true; stock = true; gone_gates = true }

-- a block of the tree goes, and the gate has it in its list no more
pub view-reuse_block : (s : Setting) (w : World) (n : ℕ) (g y c : Change) (a b : ActorValue) → Agrees w (g ∷ y ∷ c ∷ []) n a → ReusesBlock g y c a b → IsBlank y.before
    → view s (after w (g ∷ y ∷ c ∷ []) n b) ≡ renewed by_reuse (view s (after w (g ∷ y ∷ c ∷ []) n b)) (view s w)
view-reuse_block s w n g y c a b agrees d blank =
    let t = by_reuse in
    view-step t s w (g ∷ y ∷ c ∷ []) n a b agrees
    (turned (beside t) g _ _ d.turns.was d.turns.is refl, (freed-block t refl y blank d.freed, (turned (beside t) c _ _ d.frees.was d.frees.is refl, tt)))
    (ap (actor_beside t) d.actor_is)

-- the gate goes itself
pub view-reuse_gate : (s : Setting) (w : World) (n : ℕ) (g c : Change) (a b : ActorValue) → Agrees w (g ∷ c ∷ []) n a → ReusesGate g c a b
    → view s (after w (g ∷ c ∷ []) n b) ≡ renewed by_reuse (view s (after w (g ∷ c ∷ []) n b)) (view s w)
view-reuse_gate s w n g c a b agrees d =
    let t = by_reuse in
    view-step t s w (g ∷ c ∷ []) n a b agrees (turned (beside t) g _ _ d.was d.freed refl, (turned (beside t) c _ _ d.frees.was d.frees.is refl, tt)) (ap (actor_beside t) d.actor_is)
