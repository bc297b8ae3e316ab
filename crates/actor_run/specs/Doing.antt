-- What a session's calls do at its seat, and how that ends.
use Rattle.std.specs.Prelude.{ℕ, Bool, true, false, Result, Ok, Err}
use Rattle.actor_run.specs.Sessions.{BeganNothing, GoesOn, IsOneEvent, IsSession, SessionValue, session_of}
use Rattle.row_ledger.specs.declared.event.Event.TheVariants.{Refused, Unknown}
use Rattle.whole_steps.specs.seat_steps.specs.declared.floor.{Floor.Floor, Player.Player}

-- The seat is that of a session as before, which has gone on so.
pub record HasDone (f : Floor) (Ends : SessionValue → SessionValue → Type 0) (server : ℕ) (was now : Player) : Type 0 where
  pub session : IsSession f server now
  pub goes : GoesOn (session_of f server was) (session_of f server now)
  pub ends : Ends (session_of f server was) (session_of f server now)

-- so it is where it was a session's, whatever its server
abbrev pub Does : Floor → (SessionValue → SessionValue → Type 0) → Player → Player → Type 0
Does f Ends was now = (server : ℕ) → IsSession f server was → HasDone f Ends server was now

-- it is noted that its command was refused; or no memory is found for that, and it began nothing
abbrev pub HasRefused : {T E : Type 0} → Result T E → SessionValue → SessionValue → Type 0
HasRefused (Ok u) was now = IsOneEvent (Refused was.number) was now
HasRefused (Err e) was now = BeganNothing was now

-- it is noted that its command names what is not known, first in this dimension; else it was refused
abbrev pub HasTold : {E : Type 0} → Result Bool E → ℕ → SessionValue → SessionValue → Type 0
HasTold (Ok true) dim was now = IsOneEvent (Unknown was.number was.server dim) was now
HasTold (Ok false) dim was now = IsOneEvent (Refused was.number) was now
HasTold (Err e) dim was now = BeganNothing was now
