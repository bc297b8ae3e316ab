-- What contracts see of an administrator and of a puller, and what their calls promise. The newest event comes first.
use Rattle.std.specs.Prelude.{ℕ, ◌≡◌, List, Result}
use Rattle.actor_run.specs.{Called.{DoesCall, DoesTryCall, HasHeard}, Passes.{IsPass, IsPassOf, PassValue, pass_of}}
use Rattle.row_ledger.specs.declared.{event.Event.Event, settings.{Call.Call, How.How}}
use Rattle.job_steps.specs.seat_steps.specs.declared.floor.{Floor.Floor, Player.Player}
use Rattle.job_steps.specs.volap_cell.specs.{Values.actor_of, declared.role.Role.Role}

pub record CallerValue : Type 0 where
  pub floor : Floor
  pub number : ℕ
  pub seen : List Event

abbrev pub caller_of : Floor → Player → CallerValue
caller_of f p = record { floor = f; number = p.number; seen = p.seat.view.seen }

-- Between its calls a caller is as a pass of its hall, with this role.
pub record IsCaller (f : Floor) (role : Role) (p : Player) : Type 0 where
  pub pass : IsPass p
  pub own : IsPassOf f (pass_of p)
  pub role_is : (actor_of p.actor).role ≡ role

-- It is the caller of this pass, and has seen what that has.
pub record BecomesCaller (f : Floor) (role : Role) (pass : PassValue) (c : CallerValue) : Type 0 where
  pub floor : c.floor ≡ f
  pub number : pass.number ≡ c.number
  pub role_is : pass.role ≡ role
  pub seen : pass.seen ≡ c.seen

-- It is the same caller, and its call came to this.
pub record MakesCall (call : Call) (how : How) (was now : CallerValue) : Type 0 where
  pub same : now ≡ record was { seen = now.seen }
  pub does : DoesCall was.floor was.number call how was.seen now.seen

-- the same, where it is told that nothing of the call stands in the history
pub record TriesToCall {E : Type 0} (call : Call) (r : Result How E) (was now : CallerValue) : Type 0 where
  pub same : now ≡ record was { seen = now.seen }
  pub does : DoesTryCall was.floor was.number call r was.seen now.seen

-- The seat is still a caller's, with the same number; what it had seen before and what it has seen now are so.
pub record StaysCaller (f : Floor) (role : Role) (Ends : List Event → List Event → Type 0) (was now : Player) : Type 0 where
  pub caller : IsCaller f role now
  pub number : now.number ≡ was.number
  pub heard : HasHeard f was.seat.view.seen now.seat.view.seen
  pub ends : Ends was.seat.view.seen now.seat.view.seen
