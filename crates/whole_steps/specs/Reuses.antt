-- Cells of gates that are gone, which are used again at the seat that has all actors: there no query is pinned to any of them.
use Rattle.std.specs.Prelude.{◌≡◌, ⊤, List, Option}
use Rattle.call_steps.specs.core_steps.specs.{Reuses.reuse_places, Steps.Went, declared.reuses.ReuseStep.ReuseStep}
use Rattle.call_steps.specs.seat_steps.specs.declared.floor.{Floor.Floor, Player.Player}
use Rattle.core_pages.specs.volap_cell.specs.{Values.actor_of, declared.cell.Cell.Cell}
use Rattle.core_pages.specs.volap_cell.specs.declared.kind.Kind.TheVariants.{Reuse}
use Rattle.turn_table.specs.Numbered.{Extends}
use Rattle.whole_steps.specs.Sole.{IsSameBut, StandsSole}

-- Cells were used again: other gates may be on the actor's list of those that are gone, and nothing else has become of it.
pub record HasReusedSole (f : Floor) (was now : Player) : Type 0 where
  pub stands : StandsSole f now
  pub same : IsSameBut was now
  pub actor : actor_of now.actor ≡ record (actor_of was.actor) { gone_gates = (actor_of now.actor).gone_gates }
  pub seen : Extends now.seat.view.seen was.seat.view.seen

-- One cell was, by a step of the actor over these cells.
pub record HasReusedCell (f : Floor) (was now : Player) : Type 0 where
  pub reused : HasReusedSole f was now
  pub step : ReuseStep
  pub before : List (Option Cell)
  pub after : List (Option Cell)
  pub went : Went f.hierarchy Reuse (λ s w n. ⊤) (reuse_places step) before after (actor_of was.actor) (actor_of now.actor)
