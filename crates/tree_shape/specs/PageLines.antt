-- The lines of a page, read off blocks, whatever these may hold: a group ends at the stamp that the entry expects, or where
-- no link leads on; it has no more blocks than there are cells.
use Rattle.std.specs.{List.flat_map, Prelude.{ℕ, zero, suc, ◌+◌, Bool, true, false, cond, eqb, Option, Some, None, List, [], ◌∷◌, length}}
use Rattle.dc_node.specs.{Block.{entries_in, size}, declared.block.Block.Block, declared.entry.Entry.Entry}
use Rattle.row_ledger.specs.declared.page.NodeLine.{NodeLine}
use Rattle.list_words.specs.Counts.{total}

-- how many cells there are, and the block in each
pub record CellBlocks : Type 0 where
  pub count : ℕ
  pub block : ℕ → Block

abbrev pub linked : CellBlocks → Option ℕ → Option Block
linked blocks None = None
linked blocks (Some cell) = Some (blocks.block cell)

-- the block that follows in a group
abbrev pub block_after : CellBlocks → ℕ → Block → Option Block
block_after blocks stamp block = cond (eqb block.stamp stamp) None (linked blocks block.right)

-- the blocks from one on, so many at most
abbrev pub walk : CellBlocks → ℕ → ℕ → Option Block → List Block
walk blocks stamp zero next = []
walk blocks stamp (suc n) None = []
walk blocks stamp (suc n) (Some block) = block ∷ walk blocks stamp n (block_after blocks stamp block)

-- the blocks of an entry's group, and their entries

abbrev pub group : CellBlocks → Entry → List Block
group blocks entry = walk blocks entry.stamp blocks.count (Some (blocks.block entry.child))

abbrev pub group_entries : CellBlocks → Entry → List Entry
group_entries blocks entry = flat_map (λ b. entries_in b.body) (group blocks entry)

-- the line of a group
abbrev pub group_line : Bool → ℕ → List Block → Entry → NodeLine
group_line leaf depth blocks entry = record {
  depth = depth;
  leaf = leaf;
  blocks = length blocks;
  items = total (λ b. size b.body) blocks;
  agg = entry.agg;
  set = entry.set;
}

-- the line of a group on a level, and of those beneath it
abbrev pub lines : CellBlocks → ℕ → ℕ → Entry → List NodeLine
lines blocks zero depth entry = group_line true depth (group blocks entry) entry ∷ []
lines blocks (suc level) depth entry = group_line false depth (group blocks entry) entry ∷ flat_map (λ e. lines blocks level (depth + 1) e) (group_entries blocks entry)
