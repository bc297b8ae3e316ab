-- A query that visits a block without waiting.
use Rattle.part_steps.specs.{Goings.WentOn, Reads.VisitsBlock}
use Rattle.part_steps.specs.seat_steps.specs.declared.floor.{Floor.Floor, Player.Player}
use Rattle.std.specs.Prelude.{ℕ}
use Rattle.part_steps.specs.volap_cell.specs.Values.{actor_of}

-- The actor's query has visited the block.
pub record HasVisited (f : Floor) (block : ℕ) (was now : Player) : Type 0 where
  pub went : WentOn f was now
  pub visit : VisitsBlock f.hierarchy block (actor_of was.actor) (actor_of now.actor)
