-- What stands beside a state: it is in no cell and no actor, and the invariant says that there is such a thing.
use Rattle.std.specs.Prelude.{ℕ, ◌==◌, Bool, true, false, List}
use Rattle.shard_build.specs.tree_shape.specs.Shape.{Shape}

-- The one use of a cell: it isn't the stock's; it is free; it is a spare of an actor's purse; it is a gate; it is a block of the
-- tree of a gate; or it is meant for a block that an actor's job builds.
pub data Owner : Type 0 where
  NotOfStock : Owner
  Unused : Owner
  InPurse : ℕ → Owner
  AGate : Owner
  InTree : ℕ → Owner
  InJob : ℕ → Owner

abbrev pub is_unused : Owner → Bool
is_unused Unused = true
is_unused _ = false

abbrev pub is_in_purse : ℕ → Owner → Bool
is_in_purse a (InPurse b) = b == a
is_in_purse a _ = false

abbrev pub is_in_tree : ℕ → Owner → Bool
is_in_tree c (InTree d) = d == c
is_in_tree c _ = false

abbrev pub is_in_job : ℕ → Owner → Bool
is_in_job a (InJob b) = b == a
is_in_job a _ = false

pub record Ghost : Type 0 where
  -- by cell
  pub owner : ℕ → Owner
  -- by the id of a shard that stands: the cell of its gate
  pub gate : ℕ → ℕ
  -- by the cell of a gate, of shards that are gone too
  pub shape : ℕ → Shape
  -- by the number of a row: whether it has passed a gate; the shard that has it then, which is one that stands; and the
  -- shards by which it came, from the one that it was routed to to the one that took it
  pub placed : ℕ → Bool
  pub home : ℕ → ℕ
  pub path : ℕ → List ℕ
  -- by server and by the shard of a part of its query: the rows that were counted there, by number
  pub counted : ℕ → ℕ → List ℕ
