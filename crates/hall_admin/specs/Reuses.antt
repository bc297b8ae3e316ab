-- Cells of gates that are gone, which an administrator uses again before each of its calls.
use Rattle.job_steps.specs.Reuses.{WasInUse}
use Rattle.job_steps.specs.seat_steps.specs.{Booked.IsAsBefore, declared.floor.{Floor.Floor, Player.Player}}
use Rattle.job_steps.specs.volap_cell.specs.Values.{actor_of}
use Rattle.list_words.specs.Counts.{Each}

-- Each gate that is on its list was in use when it was looked at for the last time, and nothing has become of the actor since.
pub record AreLeftInUse (f : Floor) (now : Player) : Type 0 where
  pub last : Player
  pub same : IsAsBefore f last now
  pub in_use : Each (WasInUse f last) (actor_of last.actor).gone_gates
