-- What the steps of rows and queries at gates and blocks do to the cells that they hold and to their actor. `a` is the actor
-- before the step and `b` the actor after it.
use Rattle.std.specs.{Ordering.nat_cmp, Prelude.{ℕ, ◌≡◌, ◌≢◌, ◌+◌, ◌*◌, ◌^◌, ◌<◌, ◌≤◌, ◌⊎◌, true, false, List, [], ◌∷◌, ◌++◌, Option, Some, None, slice_get, map as each, length, Bool}}
use Rattle.std.specs.FinMap as map
use Rattle.dim_hierarchy.specs.{Compiled.compiled, Dimension.Dimension, declared.filter.Pick.Pick}
use Rattle.measure_agg.specs.Joining.{join}
use Rattle.dc_node.specs.{Block.{rows_in, entries_in, is_leaf, is_full, with_rows}, declared.block.Block.Block, declared.entry.Entry.Entry, declared.todo.Item.Item}
use Rattle.cell_stock.specs.Stock.{PurseValue, StockValue, Takes, Gives}
use Rattle.shard_build.specs.shard_store.specs.{Gate.Enqueues, declared.gate.Gate.Gate, declared.gate.Phase.TheVariants.Open, declared.queue.Queue.Queue}
use Rattle.shard_build.specs.link_descent.specs.{Descend.{StepsDown, Enters}, GateRead.{queue_part, tree_part, root_items}, Pick.IsPick, Visit.{noted_in, noted_right, counted as block_part}, declared.entered.Entered.Entered, declared.entered.Fresh.Fresh}
use Rattle.mapping_table.specs.declared.place.Where.{Where}
use Rattle.mapping_table.specs.declared.place.Where.TheVariants as where_is
use Rattle.list_words.specs.Counts.{Each}
use Rattle.volap_cell.specs.{Cells.{MapCell, GateCell, BlockCell, StockCell, block_in}, Errands.{place_of, Outside, height_of, height_to_fill, is_filled}, Values.{ActorValue, ErrandValue, ReadingValue, OfRow, Unread, Read}, World.{Change, MustKeep}, declared.errand.RowErrand.RowErrand, declared.errand.Way.Way, declared.errand.Way.TheVariants.{Before, Carried, Put, Placed}}

-- Cells that are only read.

-- the table of a worker, which stays as it is, has the shard there
pub record Leads (m : Change) (worker shard : ℕ) (to : Where) : Type 0 where
  pub table : map.FinMap nat_cmp Where
  pub was : m.before ≡ MapCell worker table
  pub leads : map.get table shard ≡ Some to
  pub same : m.now ≡ m.before

-- a block that stays as it is
pub record IsRead (block : Block) (c : Change) : Type 0 where
  pub was : c.before ≡ BlockCell block
  pub same : c.now ≡ c.before

-- Cells that change.

-- a gate becomes another one
pub record TurnsGate (gate gate_now : Gate) (c : Change) : Type 0 where
  pub was : c.before ≡ GateCell gate
  pub is : c.now ≡ GateCell gate_now

-- a block becomes another one
pub record TurnsBlock (block block_now : Block) (c : Change) : Type 0 where
  pub was : c.before ≡ BlockCell block
  pub is : c.now ≡ BlockCell block_now

-- new blocks are in the cells that they fill; what these had before is of no matter
abbrev pub AreFilled : List Fresh → List Change → Type 0
AreFilled [] [] = Unit {0}
AreFilled (f ∷ fresh) (c ∷ changes) = (c.number ≡ f.cell) × (c.now ≡ BlockCell f.block) × AreFilled fresh changes
AreFilled _ _ = ⊥

-- Blocks along right links, from one whose link and stamp are known, up to the stamp that is expected: the next two at most.

abbrev pub AreBehind : (expected : ℕ) → (most : ℕ) → Block → List Change → Type 0
AreBehind expected most block [] = (most ≡ 0) ⊎ (block.stamp ≡ expected)
AreBehind expected most block (c ∷ changes) =
    (left : ℕ) × (most ≡ left + 1) × (block.stamp ≢ expected) × (block.right ≡ Some c.number) × IsRead (block_in c.before) c × AreBehind expected left (block_in c.before) changes

-- how many blocks behind a full head a division looks at
abbrev pub most_behind : ℕ
most_behind = 2

-- a full head's next blocks are held, since it may be divided among them; behind a head with room none is
abbrev pub IsTailIf : Bool → ℕ → Block → List Change → Type 0
IsTailIf true expected head tail = AreBehind expected most_behind head tail
IsTailIf false expected head tail = tail ≡ []

abbrev pub IsTailOf : ℕ → Block → List Change → Type 0
IsTailOf expected head tail = IsTailIf (is_full head.body) expected head tail

abbrev pub blocks_of : List Change → List Block
blocks_of changes = each (λ c. block_in c.before) changes

-- The actor.

-- its errand is a row's, which has come so far
pub record HasRow (a : ActorValue) (e : ErrandValue) (r : RowErrand) : Type 0 where
  pub errand : a.errand ≡ Some e
  pub row : e.task ≡ OfRow r

-- the errand with the row further on its way
abbrev pub on_way : ErrandValue → RowErrand → Way → Option ErrandValue
on_way e r way = Some (record e { task = OfRow (record r { way = way }) })

-- the errand with what a query has read
abbrev pub with_reading : ErrandValue → ReadingValue → Option ErrandValue
with_reading e reading = Some (record e { task = Read reading })

-- Queries.

-- the gate at which a query is pinned, where it has noted something there
abbrev pub pin_if : ℕ → List Item → Option ℕ
pin_if gate [] = None
pin_if gate (item ∷ items) = Some gate

abbrev pub one_if_some : List Item → ℕ
one_if_some [] = 0
one_if_some (item ∷ items) = 1

-- the part reads queue and tree of its shard's gate, and is pinned there where it noted the root
pub record DoesGateRead (h : List Dimension) (m g : Change) (a b : ActorValue) : Type 0 where
  pub e : ErrandValue
  pub errand : a.errand ≡ Some e
  pub filter : List Pick
  pub unread : e.task ≡ Unread filter
  pub leads : Leads m e.worker e.shard (where_is.Gate g.number)
  pub gate : Gate
  pub pinned : TurnsGate gate (record gate { pins = gate.pins + one_if_some (root_items h filter gate) }) g
  pub actor_is : b ≡ record a {
    errand = with_reading e (record {
      wanted = compiled h filter;
      agg = join (queue_part h filter gate.queue) (tree_part h filter gate);
      items = root_items h filter gate;
      pin = pin_if g.number (root_items h filter gate);
    });
  }

-- the block that was noted last is visited; it stays as it is
pub record DoesBlockVisit (h : List Dimension) (c : Change) (a b : ActorValue) : Type 0 where
  pub e : ErrandValue
  pub errand : a.errand ≡ Some e
  pub r : ReadingValue
  pub reading : e.task ≡ Read r
  pub items : List Item
  pub item : Item
  pub noted : r.items ≡ items ++ item ∷ []
  pub here : item.cell ≡ c.number
  pub block : Block
  pub read : IsRead block c
  pub actor_is : b ≡ record a {
    errand = with_reading e (record r {
      agg = join r.agg (block_part h r.wanted.picks block.body);
      items = items ++ noted_in h r.wanted.picks block.body ++ noted_right block item.stamp;
    });
  }

-- Rows.

-- The row comes in at the open gate, for which the purse was filled and has enough; the insert is counted there. It is carried at
-- the root's head, or at a new root. A cell that is held for a new root stays as it is where the root is only halved.
pub record DoesEnterTree (h : List Dimension) (m g root : Change) (others : List Change) (a b : ActorValue) : Type 0 where
  pub e : ErrandValue
  pub r : RowErrand
  pub has : HasRow a e r
  pub filled : is_filled r.way ≡ true
  pub leads : Leads m e.worker e.shard (where_is.Gate g.number)
  pub gate : Gate
  pub is_open : gate.phase ≡ Open
  pub enough : gate.height + 2 ≤ length a.purse
  pub root_is : root.number ≡ gate.root
  pub head : Block
  pub head_now : Block
  pub tail : List Change
  pub fresh : List Change
  pub unfilled : List Change
  pub others_are : others ≡ tail ++ fresh ++ unfilled
  pub stay : Each (λ c. c.now ≡ c.before) unfilled
  pub behind : IsTailOf gate.stamp head tail
  pub entered_gate : Gate
  pub purse : PurseValue
  pub purse_was : purse.spares ≡ a.purse
  pub purse_now : PurseValue
  pub entered : Entered
  pub enters : Enters h r.row (blocks_of tail) gate entered_gate head head_now purse purse_now entered
  pub counted : TurnsGate gate (record entered_gate { active = gate.active + 1 }) g
  pub turns : TurnsBlock head head_now root
  pub are_filled : AreFilled entered.fresh.items fresh
  pub boxes : a.boxes ≤ b.boxes + 2 * length fresh
  pub actor_is : b ≡ record a { purse = purse_now.spares; boxes = b.boxes; errand = on_way e r (Carried g.number entered.at) }

-- why a row goes to the queue: the gate isn't open, or a purse that was filled for this part hasn't enough
abbrev pub MayQueue : Gate → ActorValue → Way → Type 0
MayQueue gate a way = (gate.phase ≢ Open) ⊎ ((length a.purse < gate.height + 2) × (is_filled way ≡ true))

-- the row is last in the queue of its shard's gate
pub record DoesEnterQueue (h : List Dimension) (m g : Change) (a b : ActorValue) : Type 0 where
  pub e : ErrandValue
  pub r : RowErrand
  pub has : HasRow a e r
  pub outside : place_of r.way ≡ Outside
  pub leads : Leads m e.worker e.shard (where_is.Gate g.number)
  pub gate : Gate
  pub why : MayQueue gate a r.way
  pub queue : Queue
  pub last : Enqueues h r.row gate.queue queue
  pub queued : TurnsGate gate (record gate { queue = queue }) g
  pub actor_is : b ≡ record a { errand = on_way e r Placed }

-- The row goes down to the child that comes first for it, of which the head is divided where it is full.
pub record DoesDown (h : List Dimension) (p c : Change) (others : List Change) (a b : ActorValue) : Type 0 where
  pub e : ErrandValue
  pub r : RowErrand
  pub has : HasRow a e r
  pub gate : ℕ
  pub carried : r.way ≡ Carried gate p.number
  pub parent : Block
  pub parent_now : Block
  pub head : Block
  pub head_now : Block
  pub place : ℕ
  pub picked : IsPick h r.row.at (each (λ e. e.set) (entries_in parent.body)) place
  pub entry : Entry
  pub entry_at : slice_get (entries_in parent.body) place ≡ Some entry
  pub child : entry.child ≡ c.number
  pub tail : List Change
  pub fresh : List Change
  pub others_are : others ≡ tail ++ fresh
  pub behind : IsTailOf entry.stamp head tail
  pub purse : PurseValue
  pub purse_was : purse.spares ≡ a.purse
  pub purse_now : PurseValue
  pub entered : Entered
  pub step : StepsDown h r.row place (blocks_of tail) parent parent_now head head_now purse purse_now entered
  pub turns_parent : TurnsBlock parent parent_now p
  pub turns_head : TurnsBlock head head_now c
  pub are_filled : AreFilled entered.fresh.items fresh
  pub boxes : a.boxes ≤ b.boxes + 2 * length fresh
  pub actor_is : b ≡ record a { purse = purse_now.spares; boxes = b.boxes; errand = on_way e r (Carried gate entered.at) }

-- the row is last in its leaf, and is carried no more
pub record DoesPutInLeaf (c : Change) (a b : ActorValue) : Type 0 where
  pub e : ErrandValue
  pub r : RowErrand
  pub has : HasRow a e r
  pub gate : ℕ
  pub carried : r.way ≡ Carried gate c.number
  pub block : Block
  pub leaf : is_leaf block.body ≡ true
  pub last : TurnsBlock block (with_rows block (rows_in block.body ++ r.row ∷ [])) c
  pub boxes : a.boxes ≤ b.boxes + 1
  pub actor_is : b ≡ record a { boxes = b.boxes; errand = on_way e r (Put gate) }

-- the insert is counted at its gate no more
pub record DoesLeaveTree (g : Change) (a b : ActorValue) : Type 0 where
  pub e : ErrandValue
  pub r : RowErrand
  pub has : HasRow a e r
  pub put : r.way ≡ Put g.number
  pub gate : Gate
  pub gate_now : Gate
  pub turns : TurnsGate gate gate_now g
  pub left : gate ≡ record gate_now { active = gate_now.active + 1 }
  pub actor_is : b ≡ record a { errand = on_way e r Placed }

-- Purses.

-- the purse is emptied into the stock, and filled where the stock has enough then
pub record Fills (height : ℕ) (stock stock_now : StockValue) (a b : ActorValue) : Type 0 where
  pub purse : PurseValue
  pub purse_was : purse.spares ≡ a.purse
  pub emptied : PurseValue
  pub between : StockValue
  pub gives : Gives stock between purse emptied
  pub purse_now : PurseValue
  pub purse_is : purse_now.spares ≡ b.purse
  pub takes :
      ((height + 2 ≤ length between.free) × Takes (height + 2) between stock_now emptied purse_now)
      ⊎ ((length between.free < height + 2) × (stock_now ≡ between) × (b.purse ≡ []))
  pub stamps : stock_now.stamps < 2 ^ 63
  pub boxes : 2 * length b.purse + 1 ≤ b.boxes
  pub e : ErrandValue
  pub r : RowErrand
  pub has : HasRow a e r
  pub noted : height_of r.way ≡ Some height
  pub unfilled : is_filled r.way ≡ false
  pub actor_is : b ≡ record a { purse = b.purse; boxes = b.boxes; errand = on_way e r (Before (Some height) true) }

-- the purse is emptied into the stock; no row is carried meanwhile, and none is to come in
pub record Empties (stock stock_now : StockValue) (a b : ActorValue) : Type 0 where
  pub some : a.purse ≢ []
  pub none_to_fill : height_to_fill a.errand ≡ None
  pub none_carried : (y : ℕ) → ¬ MustKeep a y
  pub purse : PurseValue
  pub purse_was : purse.spares ≡ a.purse
  pub emptied : PurseValue
  pub gives : Gives stock stock_now purse emptied
  pub actor_is : b ≡ record a { purse = [] }

-- an actor without a job fills its purse by the height that it looked up, or gives back what is left in it
pub record DoesRefill (c : Change) (a b : ActorValue) : Type 0 where
  pub no_job : a.job ≡ None
  pub stock : StockValue
  pub stock_now : StockValue
  pub was : c.before ≡ StockCell stock
  pub is : c.now ≡ StockCell stock_now
  pub does : ((height : ℕ) × Fills height stock stock_now a b) ⊎ Empties stock stock_now a b
