-- What the invariant gives, in the words of the rules: the one place of each row, what a query has and has still before it, and that
-- images cover what their servers must know.
use Rattle.std.specs.Prelude.{ℕ, ◌≡◌, ◌≢◌, ◌+◌, ◌<◌, ◌≤◌, ◌⊎◌, true, false, cond, IsTrue, List, [], ◌∷◌, Some, None, All, Any, Contains}
use Rattle.dim_hierarchy.specs.declared.row.Row.{Row}
use Rattle.describing_set.specs.{DescSet.covers, declared.listing.Spot.Spot}
use Rattle.query_router.specs.{Desk.{is_refused, is_taken, is_waiting}, declared.part.Part.Part}
use Rattle.row_ledger.specs.{Bounds.known, Past.{Ack, Insert, Query, acked, insert_at, is_kept, query_at}, Shards.{comes_from, is_live}}
use Rattle.shard_build.specs.shard_store.specs.declared.gate.Phase.TheVariants.{Gone}
use Rattle.list_words.specs.Counts.{times}
use Rattle.shard_build.specs.tree_shape.specs.{Queries.{fits, items_of}, Shape.{Shape, nodes, numbers}, Trees.IsTree, Walks.{Noted, AreNoted, pending}}
use Rattle.volap_cell.specs.{Errands.{ReadPart, RowWay, Taken, has_passed}, Ghost.Ghost, Growing.table_of, ImageKinds.doing, Invariant.InvWith, Numbering.IsSetting, Opening.IsOpening, Querying.must_hold, Setting.Setting, Steps.Inv, Stocking.cells_at, View.{View, view}, World.World}
use Rattle.volap_cell.specs.declared.command.Work.TheVariants as work_is

-- beside an opening there is a ghost with which all parts of the invariant hold, and it is reached
abbrev pub OpeningLaw : Type 0
OpeningLaw = (s : Setting) (w : World) → IsSetting s → IsOpening s w → ((g : Ghost) × InvWith s (view s w) g) × Inv s w

-- The gates of the shards that stand, and for each a shape that fits its tree.
pub record Standing (s : Setting) (v : View) : Type 0 where
  pub gate : ℕ → ℕ
  pub shape : ℕ → Shape
  pub is_gate : (x : ℕ) → is_live s.workers v.history x ≡ true → (v.gates (gate x) ≡ Some x) × (v.phases (gate x) ≢ Some Gone)
  pub tree : (x : ℕ) → is_live s.workers v.history x ≡ true → IsTree (table_of s v.row) (cells_at v.blocks v.trees (gate x)) (shape (gate x))

-- how often a shard has the row: in its tree, at a leaf or carried, and in its queue
abbrev pub times_in : (v : View) → (gate : ℕ → ℕ) → (shape : ℕ → Shape) → ℕ → ℕ → ℕ
times_in v gate shape x r = cond ((shape (gate x)).placed r) 1 0 + times r (numbers (v.queues (gate x)).rows)

-- a row is in one shard that stands, once, and in no other one
pub record IsInOne (s : Setting) (v : View) (t : Standing s v) (r x : ℕ) : Type 0 where
  pub stands : is_live s.workers v.history x ≡ true
  pub once : times_in v t.gate t.shape x r ≡ 1
  pub others : (y : ℕ) → is_live s.workers v.history y ≡ true → y ≢ x → times_in v t.gate t.shape y r ≡ 0

-- a row is in no shard that stands
abbrev pub IsInNone : (s : Setting) (v : View) → Standing s v → ℕ → Type 0
IsInNone s v t r = (x : ℕ) → is_live s.workers v.history x ≡ true → times_in v t.gate t.shape x r ≡ 0

-- a part of the row's insert that hasn't passed a gate: it waits, or no memory was found for it, or an actor has it before its gate
abbrev pub HasNotPassed : View → ℕ → ℕ → Part → Type 0
HasNotPassed v server r p =
    (is_waiting p ≡ true) ⊎ (is_refused p ≡ true)
    ⊎ ((is_taken p ≡ true) × ((a : ℕ) × (way : RowWay) × (v.ways a ≡ Some way) × (way.server ≡ server) × (way.row.no ≡ r) × (has_passed way.place ≡ false)))

-- the insert of the row stands on the desk of its server, and its one part hasn't passed a gate
pub record IsOnDesk (s : Setting) (v : View) (i : Insert) (r : ℕ) : Type 0 where
  pub op : (v.desks i.server).op ≡ Some r
  pub part : Part
  pub alone : (v.desks i.server).parts ≡ part ∷ []
  pub outside : HasNotPassed v i.server r part

-- an insert for which no part was routed yet
abbrev pub IsUnrouted : View → ℕ → Type 0
IsUnrouted v r = (a : ℕ) × (row : Row) × (v.commands a ≡ doing r (work_is.Insert row false))

-- A row is in one place: in one shard that stands, once; or on a desk before a gate; or no part for it was routed yet.
abbrev pub HasItsPlace : (s : Setting) (v : View) → Standing s v → Insert → ℕ → Type 0
HasItsPlace s v t i r =
    (((x : ℕ) × IsInOne s v t r x) × ¬ IsOnDesk s v i r × ¬ IsUnrouted v r)
    ⊎ (IsInNone s v t r × IsOnDesk s v i r × ¬ IsUnrouted v r)
    ⊎ (IsInNone s v t r × ¬ IsOnDesk s v i r × IsUnrouted v r)

-- So is each row whose insert began and didn't fail.
abbrev pub PlaceLaw : Type 0
PlaceLaw = (s : Setting) (w : World) → Inv s w → (t : Standing s (view s w)) × ((r : ℕ) (i : Insert) → insert_at (view s w).history r ≡ Some i → IsTrue (is_kept (view s w).history r)
    → HasItsPlace s (view s w) t i r)

-- The rows of the shards that stand: each was begun and hasn't failed, and each row that was acknowledged is there.
abbrev pub RowsLaw : Type 0
RowsLaw = (s : Setting) (w : World) → Inv s w → (t : Standing s (view s w))
    × ((x r : ℕ) → is_live s.workers (view s w).history x ≡ true → 1 ≤ times_in (view s w) t.gate t.shape x r
    → ((i : Insert) × (insert_at (view s w).history r ≡ Some i)) × IsTrue (is_kept (view s w).history r) × IsInOne s (view s w) t r x)
    × ((k : Ack) → Contains (acked (view s w).history) k → (x : ℕ) × IsInOne s (view s w) t k.row.no x)

-- an acknowledged row is in a shard that comes from one that the server's image lists, with a box that covers the row
abbrev pub IsCoveredBy : (s : Setting) (v : View) → Standing s v → ℕ → Ack → Type 0
IsCoveredBy s v t server k =
    (x : ℕ) × IsInOne s v t k.row.no x
    × Any (λ (spot : Spot). IsTrue (comes_from v.history spot.shard x) × (covers s.hierarchy spot.set k.row.at ≡ true)) (v.images server).spots

-- So is each row that a server must know.
abbrev pub ImageLaw : Type 0
ImageLaw = (s : Setting) (w : World) → Inv s w → (t : Standing s (view s w)) × ((server : ℕ) → server < s.servers → All (IsCoveredBy s (view s w) t server) (known s.hierarchy (view s w).history server))

-- A row is beneath what an actor has noted for the part of a query at a shard: it is in the tree of the gate to which the part is
-- pinned, and is reached once from the noted blocks along right links and down.
pub record IsBeneath (s : Setting) (v : View) (t : Standing s v) (server shard r : ℕ) : Type 0 where
  pub actor : ℕ
  pub part : ReadPart
  pub reads : v.reads actor ≡ Some part
  pub server_is : part.server ≡ server
  pub shard_is : part.shard ≡ shard
  pub gate : ℕ
  pub pinned : part.reading.pin ≡ Some gate
  pub tree : IsTree (table_of s v.row) (cells_at v.blocks v.trees gate) (t.shape gate)
  pub noted : List Noted
  pub items : items_of noted ≡ part.reading.items
  pub walks : AreNoted (t.shape gate) (nodes (cells_at v.blocks v.trees gate)) noted
  pub placed : (t.shape gate).placed r ≡ true
  pub once : pending (t.shape gate) noted ((t.shape gate).at r) ≡ 1

-- a part that has read no gate yet: it waits, or an actor has it and hasn't read; or no memory was found for it
abbrev pub HasNotRead : View → ℕ → Part → Type 0
HasNotRead v server p =
    (is_waiting p ≡ true) ⊎ (is_refused p ≡ true)
    ⊎ ((a : ℕ) × (t : Taken) × (v.taken a ≡ Some t) × (t.server ≡ server) × (t.shard ≡ p.shard) × (v.reads a ≡ None))

-- the row is in a shard that is the part's or comes from it
abbrev pub IsAheadOf : (s : Setting) (v : View) → Standing s v → Part → ℕ → Type 0
IsAheadOf s v t p r = (x : ℕ) × IsInOne s v t r x × IsTrue (comes_from v.history p.shard x)

-- What the parts of an open query have counted: a list for each part's shard. No row stands in two of them or twice in one, each is
-- begun, doesn't fail, and is one that the filter matches; and each that the query must hold is counted, or is beneath what is noted
-- for a part, or is in the line of the shard of a part that has read nothing.
pub record HasCounted (s : Setting) (v : View) (t : Standing s v) (of server : ℕ) (q : Query) (counted : ℕ → List ℕ) : Type 0 where
  pub once : (r : ℕ) → All (λ (p : Part). is_refused p ≡ false → times r (counted p.shard) ≤ 1) (v.desks server).parts
  pub apart : (r : ℕ) (p other : Part) → Contains (v.desks server).parts p → Contains (v.desks server).parts other → is_refused p ≡ false → is_refused other ≡ false
      → 1 ≤ times r (counted p.shard) → 1 ≤ times r (counted other.shard) → p.shard ≡ other.shard
  pub usable : (r : ℕ) (p : Part) → Contains (v.desks server).parts p → is_refused p ≡ false → 1 ≤ times r (counted p.shard)
      → IsTrue (is_kept v.history r) × (fits (table_of s v.row) q.filter r ≡ true) × ((x : ℕ) × IsInOne s v t r x)
  pub whole : (r : ℕ) → must_hold s.hierarchy v.history of q r ≡ true → fits (table_of s v.row) q.filter r ≡ true
      → Any (λ (p : Part). (1 ≤ times r (counted p.shard)) ⊎ IsBeneath s v t server p.shard r ⊎ (HasNotRead v server p × IsAheadOf s v t p r)) (v.desks server).parts

abbrev pub QueryLaw : Type 0
QueryLaw = (s : Setting) (w : World) → Inv s w → (t : Standing s (view s w)) × ((server of : ℕ) (q : Query) → server < s.servers
    → ((view s w).desks server).op ≡ Some of → query_at (view s w).history of ≡ Some q → (counted : ℕ → List ℕ) × HasCounted s (view s w) t of server q counted)
