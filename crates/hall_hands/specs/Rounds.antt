-- What becomes of a hand while it goes round the desks.
use Rattle.std.specs.Prelude.{ℕ, ◌≡◌, ◌<◌, []}
use Rattle.hall_hands.specs.declared.rounds.Round.{Round}
use Rattle.hall_hands.specs.declared.rounds.Round.TheVariants as round
use Rattle.hand_steps.specs.Hands.{NoneCounted}
use Rattle.hand_steps.specs.seat_steps.specs.{Floors.Stands, declared.floor.{Floor.Floor, Player.Player}}
use Rattle.turn_table.specs.Numbered.{Extends}
use Rattle.hand_steps.specs.volap_cell.specs.Values.{actor_of}

-- It does nothing, and has pushed no event.
pub record HasGoneOn (f : Floor) (was now : Player) : Type 0 where
  pub stands : Stands f now
  pub number : now.number ≡ was.number
  pub actor : actor_of now.actor ≡ record (actor_of was.actor) { purse = (actor_of now.actor).purse; boxes = (actor_of now.actor).boxes }
  pub purse : (actor_of was.actor).purse ≡ [] → (actor_of now.actor).purse ≡ []
  pub seen : Extends now.seat.view.seen was.seat.view.seen

-- meanwhile it held the desk of each server below a number, and no session was counted there
abbrev pub NobodyBelow : Floor → ℕ → Player → Player → Type 0
NobodyBelow f n was now = (server : ℕ) → server < n → NoneCounted f server was.number was.seat.view.seen now.seat.view.seen

pub record HasFoundNobody (f : Floor) (was now : Player) : Type 0 where
  pub on : HasGoneOn f was now
  pub nobody : NobodyBelow f f.with.servers was now

abbrev pub HasGoneRound : Floor → Round → Player → Player → Type 0
HasGoneRound f round.Over was now = HasFoundNobody f was now
HasGoneRound f r was now = HasGoneOn f was now
