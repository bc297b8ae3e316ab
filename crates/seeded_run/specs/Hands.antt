-- Which hands have nothing to do.
use Rattle.std.specs.Prelude.{ℕ, ◌≡◌, ◌<◌, true, List, Option, Some, None, get_or, length}
use Rattle.core_pages.specs.volap_cell.specs.{Values.{ActorValue, actor_of}, declared.actor.Actor.Actor, declared.role.Role.TheVariants.Hand}
use Rattle.core_due.specs.Due.{does_nothing}
use Rattle.seeded_run.specs.declared.hands.FreeHands.{FreeHands}

-- a hand of the worker, which has nothing to do
pub record IsFreeHand (a : ActorValue) (worker : ℕ) : Type 0 where
  pub role : a.role ≡ Hand worker
  pub idle : does_nothing a ≡ true

-- one is at a place
abbrev pub IsFreeHandAt : Option Actor → ℕ → Type 0
IsFreeHandAt None worker = ⊥
IsFreeHandAt (Some a) worker = IsFreeHand (actor_of a) worker

-- who is told to be one is one
abbrev pub AreFreeHands : List (Option Actor) → FreeHands → Type 0
AreFreeHands actors hands = (n worker : ℕ) → n < length actors → get_or hands.workers n None ≡ Some worker → IsFreeHandAt (get_or actors n None) worker
