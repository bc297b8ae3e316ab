-- Open queries: what their parts have read adds up to what is counted for them, and no row is met twice.
use Rattle.std.specs.{List.{AllZip, flat_map}, Prelude.{ℕ, ◌≡◌, ◌<◌, ◌≤◌, not, List, [], Option, Some, None, map, filter, slice_get}}
use Rattle.dc_node.specs.{Summary.joined, declared.todo.Item.Item}
use Rattle.measure_agg.specs.Aggregate.{Aggregate, agg}
use Rattle.query_router.specs.{Desk.is_refused, declared.part.Part.Part, declared.part.PartState.PartState}
use Rattle.query_router.specs.declared.part.PartState.TheVariants as state
use Rattle.row_ledger.specs.Past.{Query, query_at}
use Rattle.list_words.specs.Counts.{times}
use Rattle.core_tree.specs.tree_shape.specs.{Shape.nodes, Trees.IsTree, Walks.{IsNoted, Noted, beneath}}
use Rattle.core_tree.specs.volap_cell.specs.{Errands.{ReadPart, Taken}, Growing.table_of, Promises.{HasCounted, HasNotRead, IsAheadOf, Standing}, Setting.Setting, Steps.Inv, Stocking.cells_at, View.{View, view}, World.World}

-- What was read.

-- what an actor has read for its part; nothing before the gate
abbrev pub agg_read : Option ReadPart → Aggregate
agg_read None = agg []
agg_read (Some p) = p.reading.agg

-- what a part has read so far: nothing while it waits, what its actor has, or what it came to
abbrev pub HasReadBy : View → ℕ → Part → Aggregate → PartState → Type 0
HasReadBy v server p a (state.Waiting wanted) = a ≡ agg []
HasReadBy v server p a state.Taken = (n : ℕ) × (t : Taken) × (v.taken n ≡ Some t) × (t.server ≡ server) × (t.shard ≡ p.shard) × (a ≡ agg_read (v.reads n))
HasReadBy v server p a (state.Done total) = a ≡ total
HasReadBy v server p a _ = ⊥

abbrev pub HasRead : View → ℕ → Part → Aggregate → Type 0
HasRead v server p a = HasReadBy v server p a p.state

-- the parts for which memory was found
abbrev pub heard : List Part → List Part
heard parts = filter (λ (p : Part). not (is_refused p)) parts

-- the rows that are counted for parts
abbrev pub counted_for : (ℕ → List ℕ) → List Part → List ℕ
counted_for counted parts = flat_map (λ (p : Part). counted p.shard) parts

-- what the parts have read is together the aggregate of the rows that are counted for them
pub record AddUp (v : View) (server : ℕ) (counted : ℕ → List ℕ) (parts : List Part) : Type 0 where
  pub read : List Aggregate
  pub each : AllZip (HasRead v server) parts read
  pub total : agg (map v.row (counted_for counted parts)) ≡ joined read

-- What is still to be read.

-- What a query has still before it: a part for which no gate is read, by its place among the parts; or a block that is noted, by the
-- actor that noted it and its place on that actor's list.
pub data Pending : Type 0 where
  WholePart : ℕ → Pending
  NotedBlock : ℕ → ℕ → Pending

-- a block that an actor has noted for a part, with its walk in the tree to which the part is pinned
pub record IsNotedAt (s : Setting) (v : View) (t : Standing s v) (server actor place : ℕ) (block : Noted) : Type 0 where
  pub part : ReadPart
  pub reads : v.reads actor ≡ Some part
  pub server_is : part.server ≡ server
  pub gate : ℕ
  pub pinned : part.reading.pin ≡ Some gate
  pub there : slice_get part.reading.items place ≡ Some (record { cell = block.cell; stamp = block.stamp })
  pub tree : IsTree (table_of s v.row) (cells_at v.blocks v.trees gate) (t.shape gate)
  pub walks : IsNoted (t.shape gate) (nodes (cells_at v.blocks v.trees gate)) block

-- What is beneath a pending thing: the rows in the line of a part's shard, or those reached from a noted block along right links and down.
abbrev pub IsBeneathPending : (s : Setting) (v : View) → Standing s v → ℕ → Pending → ℕ → Type 0
IsBeneathPending s v t server (WholePart place) r = (p : Part) × (slice_get (v.desks server).parts place ≡ Some p) × HasNotRead v server p × IsAheadOf s v t p r
IsBeneathPending s v t server (NotedBlock actor place) r = (block : Noted) × (at : IsNotedAt s v t server actor place block) × (1 ≤ beneath (t.shape at.gate) block r)

-- No row is counted twice, and what the parts have read adds up to what is counted. Each noted block has its walk in its part's tree,
-- and no row is beneath it twice. What is beneath one pending thing is beneath no other and is not counted.
pub record MeetsOnce (s : Setting) (v : View) (t : Standing s v) (of server : ℕ) (q : Query) (counted : ℕ → List ℕ) : Type 0 where
  pub counts : HasCounted s v t of server q counted
  pub distinct : (r : ℕ) → times r (counted_for counted (heard (v.desks server).parts)) ≤ 1
  pub adds_up : AddUp v server counted (heard (v.desks server).parts)
  pub noted : (actor place : ℕ) (part : ReadPart) (item : Item) → v.reads actor ≡ Some part → part.server ≡ server → slice_get part.reading.items place ≡ Some item
      → (block : Noted) × IsNotedAt s v t server actor place block
  pub once : (actor place r : ℕ) (block : Noted) (at : IsNotedAt s v t server actor place block) → beneath (t.shape at.gate) block r ≤ 1
  pub apart : (one other : Pending) (r : ℕ) → IsBeneathPending s v t server one r → IsBeneathPending s v t server other r → one ≡ other
  pub uncounted : (one : Pending) (r : ℕ) → IsBeneathPending s v t server one r → times r (counted_for counted (heard (v.desks server).parts)) ≡ 0

abbrev pub MeetLaw : Type 0
MeetLaw = (s : Setting) (w : World) → Inv s w → (t : Standing s (view s w)) × ((server of : ℕ) (q : Query) → server < s.servers
    → ((view s w).desks server).op ≡ Some of → query_at (view s w).history of ≡ Some q → (counted : ℕ → List ℕ) × MeetsOnce s (view s w) t of server q counted)
