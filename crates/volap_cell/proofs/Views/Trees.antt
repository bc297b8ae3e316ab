-- The view after the steps of rows and queries at gates and blocks: the fields that each touches, and no other.
use Rattle.std.proofs.Common.{◌≡◌, ℕ, ◌+◌, true, List, [], ◌∷◌, ◌++◌, inl, inr, refl, sym, ap, subst}
use Rattle.dim_hierarchy.specs.{Dimension.Dimension, declared.row.Row.Row}
use Rattle.dc_node.specs.declared.block.Block.{Block}
use Rattle.cell_stock.specs.Stock.{PurseValue}
use Rattle.shard_build.specs.link_descent.specs.{Descend.Enters, declared.entered.Entered.Entered}
use Rattle.shard_build.specs.shard_store.specs.declared.gate.Gate.{Gate}
use Rattle.list_words.specs.Counts.{Each}
use Rattle.list_words.proofs.Each.{each-append}
use Rattle.volap_cell.specs.{Cells.{GateCell, StockCell}, Setting.Setting, TreeKinds.{DoesEnterTree, DoesEnterQueue, DoesLeaveTree, DoesRefill, blocks_of}, Values.ActorValue, View.view, World.{World, Change, Agrees, after}}
use Rattle.volap_cell.proofs.{Actors.row-moved, Views.Commits.view-step, Views.Frames.Same, Views.Seen.{Touched, nothing, beside, actor_beside, renewed}, Views.Touches.{IsBlank, turned, turned-block, tail-read, all-read, others-blocks}}

-- Queries.

abbrev pub by_gate_read : Touched
by_gate_read = record nothing { pins = true; reads = true }

-- Rows.

abbrev pub by_enter_tree : Touched
by_enter_tree = record nothing { trees = true; active = true; blocks = true; purses = true; boxes = true; ways = true }

-- a gate at which a row comes in changes in its way to the tree, and in how many are in it
entered-gate : (h : List Dimension) (row : Row) (tail : List Block) (gate gate_now : Gate) (root root_now : Block) (purse purse_now : PurseValue) (entered : Entered) (active : ℕ) → Enters h row tail gate gate_now root root_now purse purse_now entered
    → beside by_enter_tree (GateCell (record gate_now { active = active })) ≡ beside by_enter_tree (GateCell gate)
entered-gate h row tail gate gate_now root root_now purse purse_now entered active enters =
    let seen = λ (g : Gate). beside by_enter_tree (GateCell (record g { active = active })) in
    elim enters.step [
      | inl kept ↦ (let (entry_now, keeps, passes) = kept in ap seen keeps.gate_is)
      | inr more ↦ elim more [
        | inl halved ↦ (let (entry_now, keeps, halves) = halved in ap seen keeps.gate_is)
        | inr cut ↦ ap seen cut.gate_is
      ]
    ]

-- the cells that are filled are blank before
pub view-enter_tree : (s : Setting) (w : World) (n : ℕ) (h : List Dimension) (m g root : Change) (others : List Change) (a b : ActorValue) → Agrees w (m ∷ g ∷ root ∷ others) n a
    → (d : DoesEnterTree h m g root others a b) → Each (λ c. IsBlank c.before) d.fresh
    → view s (after w (m ∷ g ∷ root ∷ others) n b) ≡ renewed by_enter_tree (view s (after w (m ∷ g ∷ root ∷ others) n b)) (view s w)
view-enter_tree s w n h m g root others a b agrees d blank =
    let t = by_enter_tree in
    let gate = turned (beside t) g (GateCell d.gate) (GateCell (record d.entered_gate { active = d.gate.active + 1 })) d.counted.was d.counted.is (entered-gate h d.r.row (blocks_of d.tail) d.gate d.entered_gate d.head d.head_now d.purse d.purse_now d.entered (d.gate.active + 1) d.enters) in
    let filled = others-blocks t refl d.entered.fresh.items d.tail d.fresh (tail-read d.gate.stamp d.head d.tail d.behind) d.are_filled blank in
    let rest = subst (Same (beside t)) (sym d.others_are) (each-append (λ (c : Change). beside t c.now ≡ beside t c.before) (d.tail ++ d.fresh) d.unfilled filled (all-read (beside t) d.unfilled d.stay)) in
    view-step t s w (m ∷ g ∷ root ∷ others) n a b agrees
    (ap (beside t) d.leads.same, (gate, (turned-block t refl d.turns, rest)))
    (row-moved t d.actor_is d.has refl refl refl)

abbrev pub by_enter_queue : Touched
by_enter_queue = record nothing { queues = true; ways = true }

pub view-enter_queue : (s : Setting) (w : World) (n : ℕ) (h : List Dimension) (m g : Change) (a b : ActorValue) → Agrees w (m ∷ g ∷ []) n a → DoesEnterQueue h m g a b
    → view s (after w (m ∷ g ∷ []) n b) ≡ renewed by_enter_queue (view s (after w (m ∷ g ∷ []) n b)) (view s w)
view-enter_queue s w n h m g a b agrees d =
    view-step by_enter_queue s w (m ∷ g ∷ []) n a b agrees
    (ap (beside by_enter_queue) d.leads.same, (turned (beside by_enter_queue) g _ _ d.queued.was d.queued.is refl, tt))
    (row-moved by_enter_queue d.actor_is d.has refl refl refl)

abbrev pub by_leave_tree : Touched
by_leave_tree = record nothing { active = true; ways = true }

pub view-leave_tree : (s : Setting) (w : World) (n : ℕ) (g : Change) (a b : ActorValue) → Agrees w (g ∷ []) n a → DoesLeaveTree g a b
    → view s (after w (g ∷ []) n b) ≡ renewed by_leave_tree (view s (after w (g ∷ []) n b)) (view s w)
view-leave_tree s w n g a b agrees d =
    view-step by_leave_tree s w (g ∷ []) n a b agrees
    (turned (beside by_leave_tree) g _ _ d.turns.was d.turns.is (sym (ap (λ (x : Gate). beside by_leave_tree (GateCell x)) d.left)), tt)
    (row-moved by_leave_tree d.actor_is d.has refl refl refl)

-- Purses.

abbrev pub by_refill : Touched
by_refill = record nothing { stock = true; purses = true; boxes = true; ways = true }

pub view-refill : (s : Setting) (w : World) (n : ℕ) (c : Change) (a b : ActorValue) → Agrees w (c ∷ []) n a → DoesRefill c a b
    → view s (after w (c ∷ []) n b) ≡ renewed by_refill (view s (after w (c ∷ []) n b)) (view s w)
view-refill s w n c a b agrees d =
    let t = by_refill in
    view-step t s w (c ∷ []) n a b agrees
    (turned (beside t) c (StockCell d.stock) (StockCell d.stock_now) d.was d.is refl, tt)
    (elim d.does [
      | inl filled ↦ row-moved t filled.1.actor_is filled.1.has refl refl refl
      | inr emptied ↦ ap (actor_beside t) emptied.actor_is
    ])
