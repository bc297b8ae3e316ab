-- How far an actor comes by a step at its seat.
use Rattle.std.specs.Prelude.{◌≡◌, ◌⊎◌, None}
use Rattle.seat_steps.specs.core_counts.specs.Counting.{went_after}
use Rattle.part_steps.specs.{Counts.{HasReadAlone, IsOfEverything}, Parts.IsUnread, Reads.IsBeforeBlocks}
use Rattle.seat_steps.specs.{Floors.Stands, declared.floor.{Floor.Floor, Player.Player}}
use Rattle.turn_table.specs.Numbered.{Extends}
use Rattle.seat_steps.specs.volap_cell.specs.Values.{ActorValue, actor_of}

-- the actor is as before but for its part, its purse and its rooms
abbrev pub IsBesidePart : ActorValue → ActorValue → Type 0
IsBesidePart a b = b ≡ record a { errand = b.errand; purse = b.purse; boxes = b.boxes }

-- The actor has gone on with its part, and stands at its seat as before. It has pushed no event of its own.
pub record WentOn (f : Floor) (was now : Player) : Type 0 where
  pub stands : Stands f now
  pub number : now.number ≡ was.number
  pub beside : IsBesidePart (actor_of was.actor) (actor_of now.actor)
  pub seen : Extends now.seat.view.seen was.seat.view.seen
  -- its query is not past its gate by more than the step that read it
  pub unvisited : IsUnread (actor_of was.actor) → IsBeforeBlocks f.hierarchy (actor_of now.actor)
  -- a part that it ended or sent on is counted
  pub counted : now.actor.went ≡ went_after (actor_of was.actor) (actor_of now.actor) was.actor.went
  -- a part of a query over everything ends, is sent on, or has read its gate alone; and behind its gate it ends
  pub alone : IsOfEverything f.hierarchy (actor_of was.actor) → ((actor_of now.actor).errand ≡ None) ⊎ HasReadAlone (actor_of now.actor)
  pub over : HasReadAlone (actor_of was.actor) → (actor_of now.actor).errand ≡ None
