-- What is kept of a block when the next one is looked at.
use Rattle.std.specs.Prelude.{ℕ, ◌≡◌, ◌<◌, ◌^◌, cond, eqb, Option, None}
use Rattle.dc_node.specs.{Block.size, declared.block.Block.Block}
use Rattle.core_pages.specs.declared.group.Note.{Note}

-- the cell of the block that follows in a group; none behind the one with the stamp that ends the group
abbrev pub next_of : ℕ → Block → Option ℕ
next_of stamp block = cond (eqb block.stamp stamp) None block.right

pub record IsNoteOf (stamp : ℕ) (block : Block) (note : Note) : Type 0 where
  pub items : note.items ≡ size block.body
  pub few : note.items < 2 ^ 8
  pub next : note.next ≡ next_of stamp block
