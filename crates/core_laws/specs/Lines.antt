-- Where a row is that was acknowledged.
use Rattle.std.specs.Prelude.{ℕ, IsTrue, Contains}
use Rattle.row_ledger.specs.{Past.{Ack, acked, last_of}, Shards.comes_from}
use Rattle.core_tree.specs.volap_cell.specs.{Promises.{IsInOne, Standing}, Setting.Setting, Steps.Inv, View.view, World.World}

-- It is in one shard that stands, once, and that shard is the last one of its path or comes from it.
abbrev pub LineLaw : Type 0
LineLaw = (s : Setting) (w : World) → Inv s w → (t : Standing s (view s w))
    × ((k : Ack) → Contains (acked (view s w).history) k → (x : ℕ) × IsInOne s (view s w) t k.row.no x × IsTrue (comes_from (view s w).history (last_of k.path) x))
