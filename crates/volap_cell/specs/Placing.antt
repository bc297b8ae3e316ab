-- Rows: each that has passed a gate has one place, and each open insert is as far as its part says.
use Rattle.std.specs.Prelude.{ℕ, ◌≡◌, ◌≢◌, ◌+◌, ◌<◌, ◌⊎◌, ⊤, Bool, true, false, cond, IsTrue, List, [], Option, Some, All, Contains}
use Rattle.dim_hierarchy.specs.declared.row.Row.{Row}
use Rattle.describing_set.specs.declared.listing.Spot.{Spot}
use Rattle.query_router.specs.{Desk.DeskValue, declared.part.Part.Part, declared.part.PartState.PartState}
use Rattle.query_router.specs.declared.part.PartState.TheVariants as state
use Rattle.row_ledger.specs.{Past.{Ack, Insert, acked, insert_at, last_of}, Shards.{comes_from, is_live, is_path}, declared.event.Event.Event}
use Rattle.server_image.specs.Image.{ImageValue}
use Rattle.shard_build.specs.shard_store.specs.declared.queue.Queue.{Queue}
use Rattle.list_words.specs.Counts.{same, times}
use Rattle.shard_build.specs.tree_shape.specs.Shape.{Shape, numbers}
use Rattle.volap_cell.specs.{Errands.{RowWay, has_passed}, ImageKinds.doing, Setting.Setting, declared.command.Command.Command}
use Rattle.volap_cell.specs.declared.command.Work.TheVariants as work_is

-- no actor is at the row
abbrev pub NobodyAt : (ℕ → Option RowWay) → ℕ → Type 0
NobodyAt ways r = (a : ℕ) (w : RowWay) → ways a ≡ Some w → w.row.no ≢ r

-- an insert of the row is open, and a part for it was routed
abbrev pub IsRouted : (ℕ → Option Command) → ℕ → Type 0
IsRouted commands r = (a : ℕ) × (row : Row) × (commands a ≡ doing r (work_is.Insert row true))

-- A row that has passed a gate is in the tree or in the queue of the shard that has it, once, and nowhere else; that shard stands,
-- and comes from the last one of its path. Every other row is in no shard that stands.
pub record Placing (s : Setting) (history : List Event) (commands : ℕ → Option Command) (ways : ℕ → Option RowWay) (queues : ℕ → Queue) (gate : ℕ → ℕ) (shape : ℕ → Shape) (placed : ℕ → Bool) (home : ℕ → ℕ) (path : ℕ → List ℕ) : Type 0 where
  pub one : (x r : ℕ) → is_live s.workers history x ≡ true
      → cond ((shape (gate x)).placed r) 1 0 + times r (numbers (queues (gate x)).rows) ≡ cond (placed r) (same (home r) x) 0
  pub stands : (r : ℕ) → placed r ≡ true → is_live s.workers history (home r) ≡ true
  pub begun : (r : ℕ) → placed r ≡ true → (i : Insert) × (insert_at history r ≡ Some i)
  pub line : (r : ℕ) → placed r ≡ true → (path r ≢ []) × IsTrue (comes_from history (last_of (path r)) (home r))
  pub acked_rows : (k : Ack) → Contains (acked history) k → (placed k.row.no ≡ true) × (path k.row.no ≡ k.path) × NobodyAt ways k.row.no
  pub others : (r : ℕ) → placed r ≡ true → ((k : Ack) × Contains (acked history) k × (k.row.no ≡ r)) ⊎ IsRouted commands r

-- The path of an insert's part: from a shard that the server has pulled down splits to the part's shard; and of the shards from
-- which that one comes, the server lists only such as are on the path.
pub record IsLead (history : List Event) (images : ℕ → ImageValue) (server : ℕ) (path : List ℕ) (shard : ℕ) : Type 0 where
  pub is_path : IsTrue (is_path history server path)
  pub last : last_of path ≡ shard
  pub listed : All (λ (x : Spot). IsTrue (comes_from history x.shard shard) → Contains path x.shard) (images server).spots

-- how far the row r has come that a part on the desk of a server is for
abbrev pub IsRowPart : List Event → (ℕ → ImageValue) → (ℕ → Option RowWay) → (ℕ → Bool) → (ℕ → List ℕ) → ℕ → ℕ → Part → PartState → Type 0
IsRowPart h images ways placed path server r p (state.Waiting wanted) = (placed r ≡ false) × NobodyAt ways r × IsLead h images server p.path p.shard
IsRowPart h images ways placed path server r p (state.Placed way) = (placed r ≡ true) × (path r ≡ way) × NobodyAt ways r × IsLead h images server way (last_of way)
IsRowPart h images ways placed path server r p state.NoMemory = (placed r ≡ false) × NobodyAt ways r × (p.path ≢ [])
IsRowPart h images ways placed path server r p _ = ⊤

-- a row that an actor is at
pub record IsOnWay (history : List Event) (images : ℕ → ImageValue) (placed : ℕ → Bool) (path : ℕ → List ℕ) (w : RowWay) : Type 0 where
  pub known : (i : Insert) × (insert_at history w.row.no ≡ Some i) × (i.row ≡ w.row) × (i.server ≡ w.server)
  pub lead : IsLead history images w.server w.path w.shard
  pub passed : placed w.row.no ≡ has_passed w.place
  pub came : has_passed w.place ≡ true → path w.row.no ≡ w.path

pub record Inserting (s : Setting) (history : List Event) (images : ℕ → ImageValue) (desks : ℕ → DeskValue) (commands : ℕ → Option Command) (ways : ℕ → Option RowWay) (placed : ℕ → Bool) (path : ℕ → List ℕ) : Type 0 where
  pub unrouted : (a r : ℕ) (row : Row) → commands a ≡ doing r (work_is.Insert row false) → (placed r ≡ false) × NobodyAt ways r
  pub parts : (server r : ℕ) (i : Insert) → server < s.servers → (desks server).op ≡ Some r → insert_at history r ≡ Some i
      → All (λ (p : Part). IsRowPart history images ways placed path server r p p.state) (desks server).parts
  pub on_way : (a : ℕ) (w : RowWay) → ways a ≡ Some w → IsOnWay history images placed path w
