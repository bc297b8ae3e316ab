-- That each row has its place in a state.
use Rattle.std.specs.Prelude.{ℕ, ◌≡◌, ◌≤◌, true, IsTrue, Some, Contains}
use Rattle.row_ledger.specs.{Past.{Ack, Insert, acked, insert_at, is_kept}, Shards.is_live}
use Rattle.core_laws.specs.volap_cell.specs.{Promises.{IsInOne, HasItsPlace, Standing, times_in}, Setting.Setting, View.view, World.World}

-- Each row whose insert began and didn't fail is in one place: in one shard that stands, once; or its insert stands on a desk, and its
-- part hasn't passed a gate; or no part for it was routed yet.
pub record HavePlaces (s : Setting) (w : World) : Type 0 where
  pub standing : Standing s (view s w)
  pub one : (r : ℕ) (i : Insert) → insert_at (view s w).history r ≡ Some i → IsTrue (is_kept (view s w).history r)
      → HasItsPlace s (view s w) standing i r

-- The rows of the shards that stand began and didn't fail, and are there once; and each row that was acknowledged is one of them.
pub record AreInShards (s : Setting) (w : World) : Type 0 where
  pub standing : Standing s (view s w)
  pub began : (x r : ℕ) → is_live s.workers (view s w).history x ≡ true → 1 ≤ times_in (view s w) standing.gate standing.shape x r
      → ((i : Insert) × (insert_at (view s w).history r ≡ Some i)) × IsTrue (is_kept (view s w).history r) × IsInOne s (view s w) standing r x
  pub acknowledged : (k : Ack) → Contains (acked (view s w).history) k → (x : ℕ) × IsInOne s (view s w) standing k.row.no x

pub record AreRowsKept (s : Setting) (w : World) : Type 0 where
  pub places : HavePlaces s w
  pub shards : AreInShards s w
