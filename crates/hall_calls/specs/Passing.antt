-- Passes that go to a thread and come back.
use Rattle.std.specs.Prelude.{◌≡◌}
use Rattle.actor_run.specs.{Passes.{IsPassOf, PassValue}, Sessions.IsSessionRole}
use Rattle.actor_run.specs.seat_steps.specs.declared.floor.Floor.{Floor}

-- the pass is that of a session of the hall
pub record CanWork (f : Floor) (pass : PassValue) : Type 0 where
  pub of : IsPassOf f pass
  pub role : IsSessionRole pass.role

-- the pass is back
pub record IsBack (f : Floor) (pass back : PassValue) : Type 0 where
  pub of : IsPassOf f back
  pub number : back.number ≡ pass.number
