-- What the steps of a query's part ask of the cells that they are given and of their actor, beyond that they are those of a
-- state; and what their inner functions ask and do.
use Rattle.std.specs.{Ordering.nat_cmp, Prelude.{ℕ, ◌≡◌, ◌≢◌, ◌+◌, ◌<◌, ◌^◌, List, [], ◌∷◌, ◌++◌, Option, Some, None, IsSome, length}}
use Rattle.std.specs.FinMap as map
use Rattle.dim_hierarchy.specs.{Compiled.compiled, Dimension.Dimension, Filter.{IsFilterOf, pick_at}, declared.filter.Pick.Pick, declared.filter.Pick.TheVariants.All}
use Rattle.describing_set.specs.Sets.{IsDescSetOf}
use Rattle.dc_node.specs.{Block.IsBodyOf, Summary.row_count, declared.block.Block.Block, declared.todo.Item.Item}
use Rattle.volap_cell.specs.link_descent.specs.{GateRead.{queue_part, tree_part, root_items}, Visit.{noted_in, noted_right, counted}}
use Rattle.mapping_table.specs.declared.place.Where.{Where}
use Rattle.mapping_table.specs.declared.place.Where.TheVariants as where_is
use Rattle.measure_agg.specs.Joining.{join}
use Rattle.volap_cell.specs.shard_store.specs.{Gate.IsQueueOf, declared.gate.Gate.Gate}
use Rattle.volap_cell.specs.{Cells.{CellValue, MapCell}, TreeKinds.{one_if_some, pin_if}, Values.{ActorValue, ErrandValue, ReadingValue, Unread, Read}, declared.actor.Actor.Actor, declared.errand.Errand.Errand, declared.errand.Task.Task}
use Rattle.volap_cell.specs.declared.errand.Task.TheVariants as task

-- Visits.

-- how many blocks an actor's query can note without memory

abbrev pub room_in_task : Task → ℕ
room_in_task (task.Read r) = r.value.todo.room
room_in_task _ = 0

abbrev pub room_in_errand : Option Errand → ℕ
room_in_errand None = 0
room_in_errand (Some e) = room_in_task e.task

abbrev pub room_to_note : Actor → ℕ
room_to_note a = room_in_errand a.errand

-- the block at the cell was noted last
pub record HasNoted (r : ReadingValue) (at : ℕ) : Type 0 where
  pub items : List Item
  pub item : Item
  pub noted : r.items ≡ items ++ item ∷ []
  pub here : item.cell ≡ at

-- the actor's query has read its gate, and what it noted last is the cell
pub record CanBlockVisit (at : ℕ) (a : ActorValue) : Type 0 where
  pub e : ErrandValue
  pub errand : a.errand ≡ Some e
  pub r : ReadingValue
  pub reading : e.task ≡ Read r
  pub last : HasNoted r at

-- what was noted last can be this block
pub record CanVisit (block : Block) (r : ReadingValue) : Type 0 where
  pub items : List Item
  pub item : Item
  pub noted : r.items ≡ items ++ item ∷ []
  pub body : IsBodyOf r.wanted.hierarchy block.body
  pub link : block.stamp ≢ item.stamp → IsSome block.right
  pub few : r.agg.count + row_count block.body < 2 ^ 63

-- it is visited
pub record Visits (block : Block) (before now : ReadingValue) : Type 0 where
  pub items : List Item
  pub item : Item
  pub noted : before.items ≡ items ++ item ∷ []
  pub visited : now ≡ record before {
    agg = join before.agg (counted before.wanted.hierarchy before.wanted.picks block.body);
    items = items ++ noted_in before.wanted.hierarchy before.wanted.picks block.body ++ noted_right block item.stamp;
  }

-- the same of a part that has noted it
pub record IsAtBlock (block : Block) (e : ErrandValue) : Type 0 where
  pub r : ReadingValue
  pub reading : e.task ≡ Read r
  pub can : CanVisit block r

pub record VisitsFor (block : Block) (before now : ErrandValue) : Type 0 where
  pub r : ReadingValue
  pub r_now : ReadingValue
  pub reading : before.task ≡ Read r
  pub visits : Visits block r r_now
  pub now_is : now ≡ record before { task = Read r_now }

-- Gates.

-- the actor's query has read no gate, and its shard's worker has the shard at the cell
pub record CanGateRead (table : CellValue) (gate_at : ℕ) (a : ActorValue) : Type 0 where
  pub e : ErrandValue
  pub errand : a.errand ≡ Some e
  pub filter : List Pick
  pub unread : e.task ≡ Unread filter
  pub places : map.FinMap nat_cmp Where
  pub table_is : table ≡ MapCell e.worker places
  pub leads : map.get places e.shard ≡ Some (where_is.Gate gate_at)

-- a query with this filter can read the gate, and be pinned there
pub record CanBegin (h : List Dimension) (gate : Gate) (f : List Pick) : Type 0 where
  pub filter : IsFilterOf h f
  pub queue : IsQueueOf h gate.queue
  pub set : IsDescSetOf h gate.set
  pub few : gate.queue.agg.count + gate.agg.count < 2 ^ 63
  pub pins : gate.pins + 1 < 2 ^ 64

-- what it has then
abbrev pub begun_reading : List Dimension → ℕ → List Pick → Gate → ReadingValue
begun_reading h gate_at f gate = record {
  wanted = compiled h f;
  agg = join (queue_part h f gate.queue) (tree_part h f gate);
  items = root_items h f gate;
  pin = pin_if gate_at (root_items h f gate);
}

-- the same of a part that has read nothing

pub record IsAtGate (h : List Dimension) (gate : Gate) (e : ErrandValue) : Type 0 where
  pub filter : List Pick
  pub unread : e.task ≡ Unread filter
  pub can : CanBegin h gate filter

pub record BeginsFor (h : List Dimension) (gate_at : ℕ) (gate gate_now : Gate) (before now : ErrandValue) : Type 0 where
  pub filter : List Pick
  pub unread : before.task ≡ Unread filter
  pub pinned : gate_now ≡ record gate { pins = gate.pins + one_if_some (root_items h filter gate) }
  pub now_is : now ≡ record before { task = Read (begun_reading h gate_at filter gate) }

-- a filter that is All in each dimension
abbrev pub IsOfAll : List Dimension → List Pick → Type 0
IsOfAll h f = (dim : ℕ) → dim < length h → pick_at f dim ≡ All

-- with it both aggregates of a gate are taken whole, no row of the queue is tested, and nothing is noted
abbrev pub OfAllLaw : Type 0
OfAllLaw = (h : List Dimension) (f : List Pick) (gate : Gate) → IsFilterOf h f → IsQueueOf h gate.queue → IsDescSetOf h gate.set → IsOfAll h f
    → (queue_part h f gate.queue ≡ gate.queue.agg) × (tree_part h f gate ≡ gate.agg) × (root_items h f gate ≡ [])
