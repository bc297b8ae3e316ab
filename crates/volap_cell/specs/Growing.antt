-- Each gate leads to a tree, and has a queue beside it.
use Rattle.std.specs.Prelude.{ℕ, ◌≡◌, ◌≤◌, Bool, true, false, IsTrue, IsSome, List, length, Option, Some}
use Rattle.dim_hierarchy.specs.declared.row.Row.{Row}
use Rattle.dc_node.specs.declared.block.Block.{Block}
use Rattle.row_ledger.specs.{Shards.comes_from, declared.event.Event.Event}
use Rattle.shard_build.specs.shard_store.specs.{Gate.IsQueueOf, declared.gate.Gate.Gate, declared.gate.Phase.Phase, declared.gate.Phase.TheVariants.{Frozen, Gone}, declared.queue.Queue.Queue}
use Rattle.list_words.specs.Counts.{Each}
use Rattle.shard_build.specs.tree_shape.specs.{Shape.{Table, Shape}, Trees.IsTree}
use Rattle.volap_cell.specs.{Setting.Setting, Stocking.{cells_at, IsWhole}}

abbrev pub table_of : Setting → (ℕ → Row) → Table
table_of s row = record { hierarchy = s.hierarchy; row = row }

-- a placed row is in the shard, or in one that comes from it
pub record IsUnder (history : List Event) (placed : ℕ → Bool) (home : ℕ → ℕ) (x r : ℕ) : Type 0 where
  pub is_placed : placed r ≡ true
  pub comes : IsTrue (comes_from history x (home r))

pub record Growing (s : Setting) (row : ℕ → Row) (blocks : ℕ → Block) (trees : ℕ → Gate) (gates : ℕ → Option ℕ) (phases : ℕ → Option Phase) (pins : ℕ → ℕ) (shape : ℕ → Shape) : Type 0 where
  pub tree : (c : ℕ) → IsWhole gates phases pins c → IsTree (table_of s row) (cells_at blocks trees c) (shape c)

pub record Queueing (s : Setting) (row : ℕ → Row) (gates : ℕ → Option ℕ) (phases : ℕ → Option Phase) (queues : ℕ → Queue) : Type 0 where
  pub queue : (c : ℕ) → IsSome (gates c) → IsQueueOf s.hierarchy (queues c)
  pub named : (c : ℕ) → IsSome (gates c) → Each (λ r. row r.no ≡ r) (queues c).rows
  pub upto : (c n : ℕ) → phases c ≡ Some (Frozen n) → n ≤ length (queues c).rows

-- the rows in the tree of a shard that is gone are at rest, and are now in shards that come from it
pub record Resting (history : List Event) (gates : ℕ → Option ℕ) (phases : ℕ → Option Phase) (shape : ℕ → Shape) (placed : ℕ → Bool) (home : ℕ → ℕ) : Type 0 where
  pub rests : (c x r : ℕ) → gates c ≡ Some x → phases c ≡ Some Gone → (shape c).placed r ≡ true → ((shape c).carried r ≡ false) × IsUnder history placed home x r
