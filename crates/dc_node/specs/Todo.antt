-- What contracts see of the list of noted blocks.
use Rattle.std.specs.Prelude.{ℕ, List}
use Rattle.dc_node.specs.declared.todo.Item.{Item}

-- the noted blocks, and for how many more there is room
pub record TodoValue : Type 0 where
  pub items : List Item
  pub room : ℕ
