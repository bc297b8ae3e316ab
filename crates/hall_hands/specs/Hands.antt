-- What contracts see of hands, and what their calls promise. The newest event comes first.
use Rattle.std.specs.Prelude.{ℕ, ◌≡◌, ◌<◌, List}
use Rattle.actor_run.specs.Passes.{IsPass, IsPassOf, PassValue, pass_of}
use Rattle.hand_steps.specs.Hands.{NoneCounted}
use Rattle.row_ledger.specs.declared.event.Event.{Event}
use Rattle.script_run.specs.Places.{begins_of}
use Rattle.hand_steps.specs.seat_steps.specs.declared.floor.{Floor.Floor, Player.Player}
use Rattle.turn_table.specs.Numbered.{Extends}
use Rattle.hand_steps.specs.volap_cell.specs.{Values.actor_of, declared.role.Role.Role, declared.role.Role.TheVariants.Hand}

pub record HandValue : Type 0 where
  pub floor : Floor
  pub number : ℕ
  pub worker : ℕ
  pub seen : List Event

abbrev pub hand_of : Floor → ℕ → Player → HandValue
hand_of f worker p = record { floor = f; number = p.number; worker = worker; seen = p.seat.view.seen }

-- Between its calls a hand is as a pass of its hall.
pub record IsHand (f : Floor) (worker : ℕ) (p : Player) : Type 0 where
  pub pass : IsPass p
  pub own : IsPassOf f (pass_of p)
  pub role : (actor_of p.actor).role ≡ Hand worker

abbrev pub IsHandRole : Role → Type 0
IsHandRole role = (worker : ℕ) × (role ≡ Hand worker)

-- It is the hand of this pass, and has seen what that has.
pub record BecomesHand (f : Floor) (pass : PassValue) (h : HandValue) : Type 0 where
  pub floor : h.floor ≡ f
  pub number : pass.number ≡ h.number
  pub role : pass.role ≡ Hand h.worker
  pub seen : pass.seen ≡ h.seen

-- It has seen what it had or more, and has pushed no event. While it served it held the desk of each server, and no session was
-- counted there then.
pub record HasServedAll (was now : HandValue) : Type 0 where
  pub same : now ≡ record was { seen = now.seen }
  pub later : Extends now.seen was.seen
  pub begun : begins_of now.seen was.number ≡ begins_of was.seen was.number
  pub nobody : (server : ℕ) → server < was.floor.with.servers → NoneCounted was.floor server was.number was.seen now.seen
