-- What the steps ask that use a cell again of a gate that is gone, beyond that their cells and their actor are those of a state.
use Rattle.std.specs.Prelude.{ℕ, ◌≡◌, List, [], ◌∷◌, ◌++◌, Some, None}
use Rattle.core_tree.specs.shard_store.specs.declared.gate.Phase.TheVariants as phase
use Rattle.core_tree.specs.volap_cell.specs.{Cells.{CellValue, TheStock, gone_in, phase_of, pins_in, tag_of}, Values.ActorValue, declared.role.Role.TheVariants.Admin}

-- the administrator is between two commands, the gate is gone, and no query is pinned to it; the other cell is the stock's
pub record CanReuse (gate stock : CellValue) (a : ActorValue) : Type 0 where
  pub role : a.role ≡ Admin
  pub no_command : a.command ≡ None
  pub gone : phase_of gate ≡ Some phase.Gone
  pub unpinned : pins_in gate ≡ 0
  pub stock_is : tag_of stock ≡ TheStock

-- the block stands last in the gate's list
pub record CanReuseBlock (at : ℕ) (gate stock : CellValue) (a : ActorValue) : Type 0 where
  pub can : CanReuse gate stock a
  pub cells : List ℕ
  pub last : gone_in gate ≡ cells ++ at ∷ []

-- no block of the gate's tree is left
pub record CanReuseGate (gate stock : CellValue) (a : ActorValue) : Type 0 where
  pub can : CanReuse gate stock a
  pub empty : gone_in gate ≡ []
